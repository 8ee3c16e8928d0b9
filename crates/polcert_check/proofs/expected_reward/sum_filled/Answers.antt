use Rattle.std.proofs.Common.{rules, arith, ◌∙◌, ◌≡◌, ◌<◌, ◌≤◌, ap, refl, sym, subst, ℤ, pos, ◌*ℤ◌, unsigned_abs, to_z, of_z, w64}
use Rattle.std.proofs.lemmas.Int.{to_z-of_z}
use Rattle.polcert_cells.specs.declared.cells.Row.TheVariants.{Even}
use Rattle.polcert_check.proofs.Common.{w128, largest, CellTable, Row, IsRowOf}
use Rattle.polcert_check.specs.Steps.Products.{IsEvenSum}
use Rattle.polcert_check.proofs.Walking.EvenRows.{even_observations}
use Rattle.polcert_check.proofs.Sums.SumLaws.{sum_below_same}
use Rattle.polcert_check.proofs.expected_reward.sum_filled.Goals as goal

pub total_of-requires-clause-limited : goal.total_of-requires-clause-limited
total_of-requires-clause-limited g c = λ z zl.
    let within = subst (λ n. z < n) c.observations.ensures zl in
    subst (λ (h : ℤ). unsigned_abs h ≤ largest) (sym (c.requires.rewards z within))
    ((g.met.C.Cells.is_within_limits c.args.cells.now).r c.args.a c.args.s c.args.e z c.requires.action c.requires.start c.requires.end
    within)

pub sum_of_even-requires : goal.sum_of_even-requires
sum_of_even-requires g c =
    let m : CellTable = g.C.Cells.table c.args.cells.now in
    let total : to_z w128 (of_z w128 c.wide.result) ≡ c.total_of.result =
    to_z-of_z w128 c.wide.result (search rules) ∙ c.wide.ensures.same ∙ to_z-of_z w64 c.total_of.result (search rules) in
    let is : c.in-Some-Even.field-0 ≡ Even c.in-Some-Even.weight c.in-Some-Even.field-0-1 c.in-Some-Even.exceptions = search rules in
    let row = subst (λ (r : Row). IsRowOf (m.o c.args.a c.args.e) m.observations r) is (c.in-Some-Even.ensures c.in-Some-Even.field-0 refl)
    in (
      m.o c.args.a c.args.e,
      m.observations,
      rw total (even_observations m (g.met.C.Cells.is_proper c.args.cells.now) (g.met.C.Cells.is_within_limits c.args.cells.now) c.args.a
          c.args.e c.requires.action c.requires.end _ _ (c.in-Some-Even.field-0-1, row) _ _ c.requires.room (search rules) (search rules)),
    )

pub returns-in-Some-Even : goal.returns-in-Some-Even
returns-in-Some-Even g c =
    let m : CellTable = g.C.Cells.table c.args.cells.now in
    let total : to_z w128 (of_z w128 c.wide.result) ≡ c.total_of.result =
    to_z-of_z w128 c.wide.result (search rules) ∙ c.wide.ensures.same ∙ to_z-of_z w64 c.total_of.result (search rules) in
    let even : c.in-Some-Even.field-0 ≡ Even c.in-Some-Even.weight c.in-Some-Even.field-0-1 c.in-Some-Even.exceptions = search rules in
    let row = subst (λ (r : Row). IsRowOf (m.o c.args.a c.args.e) m.observations r) even
    (c.in-Some-Even.ensures c.in-Some-Even.field-0 refl) in
    let is : IsEvenSum (m.o c.args.a c.args.e) m.observations c.in-Some-Even.weight c.in-Some-Even.exceptions.now c.args.rewards.now
    (to_z w128 (of_z w128 c.wide.result)) =
    rw total (even_observations m (g.met.C.Cells.is_proper c.args.cells.now) (g.met.C.Cells.is_within_limits c.args.cells.now) c.args.a
    c.args.e c.requires.action c.requires.end _ _ (c.in-Some-Even.field-0-1, row) _ _ c.requires.room (search rules) (search rules)) in
    to_z-of_z w128 c.sum_of_even.result (search rules) ∙ c.sum_of_even.ensures _ _ is
    ∙ sum_below_same _ _ m.observations (λ z zl. ap (λ (h : ℤ). pos (m.o c.args.a c.args.e z) *ℤ h) (c.requires.rewards z zl))

use Rattle.std.proofs.Common.{rules, refl, ℕ, ◌≡◌, ◌<◌, ◌≤◌}
use Rattle.polcert_cells.proofs.cells.first_weight.Goals as goal

pub returns-then-weight-gt0 : goal.returns-then-weight-gt0
returns-then-weight-gt0 g c = λ f is. (
  (
    search rules,
    search rules,
    is _ _ c.loop-column-test.true c.weight_at-weight.ensures,
    search
        rules,
    c.loop-column.invariant f is,
  ),
  refl,
)

pub returns : goal.returns
returns g c = λ f is i low high. c.loop-column.invariant f is i low (search rules)

pub loop-column-preserved : goal.loop-column-preserved
loop-column-preserved g c = λ f is.
    let here : c.weight_at-weight.result ≡ f c.loop-column.column = is _ _ c.loop-column-test.true c.weight_at-weight.ensures in
    let before : (i : ℕ) → c.args.from ≤ i → i < c.loop-column.column → f i ≡ 0 = c.loop-column.invariant f is in
    search rules

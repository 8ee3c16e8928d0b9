use Rattle.std.proofs.Common.{◌≡◌, ◌∙◌, ◌<◌, ap, map, sym, subst, arith}
use Rattle.std.specs.Prelude.{◌+ℤ◌}
use Rattle.std.proofs.lemmas.Int.{to_z-of_z}
use mir.Syntax.{w64}
use mir.Val.{to_z, of_z}
use Rattle.polcert_policy.proofs.Common.{PolicyVectors, AreProper, CanShift, shifted_by, value_of}
use Rattle.polcert_policy.proofs.ShiftLaws.{CanAdd, can_add, proper_shifted, value-shifted_by}
use Rattle.polcert_policy.proofs.vectors.Vectors.shifted.Goals as goal

pub shifted_values-requires : goal.shifted_values-requires
shifted_values-requires c =
    let can = can_add _ _ _ c.args.by c.self.invariant (subst (λ v. CanShift v c.args.by) (sym c.self.view_is) c.requires) in
    subst (λ xs. CanAdd xs (to_z w64 (of_z w64 c.args.by))) (sym c.deref.ensures.value)
    (subst (CanAdd c.self.inside.values.items) (sym (to_z-of_z w64 c.args.by c.ranges.by)) can)

pub new-requires : goal.new-requires
new-requires c = let by = c.args.by in let can = can_add _ _ _ by c.self.invariant
    (subst (λ v. CanShift v by) (sym c.self.view_is) c.requires) in
    let items : c.in_ok-values.values.items ≡ map (λ h. h +ℤ to_z w64 (of_z w64 by)) c.deref.result.now = c.in_ok-values.ensures in
    let all : map (λ h. h +ℤ by) c.self.inside.values.items ≡ c.in_ok-values.values.items =
    sym (items ∙ (λ i. map (λ h. h +ℤ to_z-of_z w64 by c.ranges.by i) (c.deref.ensures.value i))) in
    subst (λ xs. AreProper c.self.inside.nodes c.self.inside.states xs) all (proper_shifted _ _ _ by c.self.invariant can)

pub returns-clause-values : goal.returns-clause-values
returns-clause-values c = λ n s l k.
    let items : c.in_ok-values.values.items ≡ map (λ h. h +ℤ to_z w64 (of_z w64 c.args.by)) c.deref.result.now = c.in_ok-values.ensures in
    let all : c.in_ok-values.values.items ≡ map (λ h. h +ℤ c.args.by) c.self.inside.values.items = grind arith in
    let v : PolicyVectors = record { nodes = c.self.inside.nodes; states = c.self.inside.states; values = c.self.inside.values.items } in
    let e : c.new.result ≡ shifted_by v c.args.by = cc in
    ap (λ w. value_of w n s) e ∙ value-shifted_by v c.args.by n s c.self.invariant (subst (λ w. n < w.nodes) (sym c.self.view_is) l)
    (subst (λ w. s < w.states) (sym c.self.view_is) k)
    ∙ ap (λ w. value_of w n s +ℤ c.args.by) c.self.view_is

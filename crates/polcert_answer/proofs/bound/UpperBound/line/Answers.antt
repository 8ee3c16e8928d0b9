use Rattle.std.proofs.Common.{◌≡◌, refl, rules, to_z, of_z, w64, to_z-of_z, FitsSigned}
use Rattle.polcert_answer.proofs.Common.{subst⁻¹, table_of, meaning, controller_of, IsAboveVerdictLine}
use Rattle.polcert_answer.specs.Lines.{at_most_line}
use Rattle.polcert_answer.proofs.bound.UpperBound.line.Goals as goal

pub returns-in-Yes : goal.returns-in-Yes
returns-in-Yes c =
    let m = meaning c.args.given.now.model in
    let v = c.args.given.now.vectors in
    let most = c.start_most-most.result in
    let fits : FitsSigned w64 most = search rules in
    let back : to_z w64 (of_z w64 most) ≡ most = to_z-of_z fits in
    rw back (subst⁻¹ (λ u. IsAboveVerdictLine m (controller_of (table_of m) c.args.given.now.graph v) v u (at_most_line most)) c.in-Yes.is
    (most, c.start_most-most.ensures.most, refl))

use Rattle.std.proofs.Common.{◌≡◌, refl, rules, to_z, of_z, w64, to_z-of_z, FitsSigned}
use Rattle.polcert_answer.proofs.Common.{subst⁻¹, table_of, meaning, controller_of, IsVerdictLine}
use mir.Syntax.{w128}
use Rattle.polcert_answer.specs.Lines.{at_least_line, short_line}
use Rattle.polcert_answer.proofs.bound.LowerBound.line.Goals as goal

pub returns-in-Yes : goal.returns-in-Yes
returns-in-Yes c =
    let m = meaning c.args.given.now.model in
    let v = c.args.given.now.vectors in
    let best = c.start_worth-node.result in
    let fits : FitsSigned w64 best.1 = search rules in
    let back : to_z w64 (of_z w64 best.1) ≡ best.1 = to_z-of_z fits in
    rw back (subst⁻¹ (λ u. IsVerdictLine m (controller_of (table_of m) c.args.given.now.graph v) v u (at_least_line best.0 best.1))
    c.in-Yes.is
    (best.0, best.1, c.start_worth-node.ensures.node, c.start_worth-node.ensures.worth, refl))

pub returns-in-Short : goal.returns-in-Short
returns-in-Short c =
    let m = meaning c.args.given.now.model in
    let v = c.args.given.now.vectors in
    let by = c.millionths_short-by.result in
    let fits : FitsSigned w64 by = search rules in
    let back : to_z w64 (of_z w64 by) ≡ by = to_z-of_z fits in
    let fits_amount : FitsSigned w128 c.in-Short.amount = search rules in
    let amount_back : to_z w128 (of_z w128 c.in-Short.amount) ≡ c.in-Short.amount = to_z-of_z fits_amount in
    rw back (subst⁻¹ (λ u. IsVerdictLine m (controller_of (table_of m) c.args.given.now.graph v) v u
    (short_line c.in-Short.node c.in-Short.state by)) c.in-Short.is
    (by, rw amount_back at c.millionths_short-by.ensures, refl))

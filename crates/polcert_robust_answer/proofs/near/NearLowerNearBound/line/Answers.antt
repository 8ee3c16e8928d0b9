use Rattle.std.proofs.Common.{◌≡◌, refl, rules, to_z, of_z, w64, to_z-of_z, FitsSigned, inl, subst}
use Rattle.std.proofs.Math.Path.{subst⁻¹}
use mir.Syntax.{w128}
use Rattle.polcert_robust.specs.RobustVerdict.{IsRobustVerdict}
use Rattle.polcert_robust_answer.specs.Steps.Nearby.{controller_near, near_given}
use Rattle.polcert_robust_answer.specs.Lines.{IsNearLine, worth_line}
use Rattle.polcert_robust_answer.proofs.Common.{controller_of, meaning, short_line, table_of}
use Rattle.polcert_robust_answer.proofs.near.NearLowerNearBound.line.Goals as goal

pub millionths_near-by-requires-clause-is : goal.millionths_near-by-requires-clause-is
millionths_near-by-requires-clause-is c =
    let fits : FitsSigned w128 c.in-Short.amount = search rules in
    let back : to_z w128 (of_z w128 c.in-Short.amount) ≡ c.in-Short.amount = to_z-of_z fits in
    let (nl, sl, before, lacks, short, some) = subst (IsRobustVerdict (near_given c.args.within.now c.args.given.now)
    (controller_near c.args.given.now)) c.in-Short.is c.requires.verdict in
    rw back (c.in-Short.node, c.in-Short.state, nl, sl, inl short)

pub returns-in-Yes : goal.returns-in-Yes
returns-in-Yes c =
    let m = meaning c.args.given.now.model in
    let v = c.args.given.now.vectors in
    let best = c.start_worth_near-node.result in
    let fits : FitsSigned w64 best.1 = search rules in
    let back : to_z w64 (of_z w64 best.1) ≡ best.1 = to_z-of_z fits in
    let worth = rw c.start_distance_in-by.ensures.is at c.start_worth_near-node.ensures.worth in
    rw back (subst⁻¹ (λ u. IsNearLine c.args.within.now m (controller_of (table_of m) c.args.given.now.graph v) v u
    (worth_line c.args.within.now best.0 best.1)) c.in-Yes.is (best.0, best.1, worth, refl))

pub returns-in-Short : goal.returns-in-Short
returns-in-Short c =
    let by = c.millionths_near-by.result in
    let fits : FitsSigned w64 by = search rules in
    let back : to_z w64 (of_z w64 by) ≡ by = to_z-of_z fits in
    let fits_amount : FitsSigned w128 c.in-Short.amount = search rules in
    let amount_back : to_z w128 (of_z w128 c.in-Short.amount) ≡ c.in-Short.amount = to_z-of_z fits_amount in
    rw back (subst⁻¹ (λ u. IsNearLine c.args.within.now (meaning c.args.given.now.model)
    (controller_of (table_of (meaning c.args.given.now.model)) c.args.given.now.graph c.args.given.now.vectors) c.args.given.now.vectors u
    (short_line c.in-Short.node c.in-Short.state by)) c.in-Short.is
    (by, rw amount_back at c.millionths_near-by.ensures, refl))

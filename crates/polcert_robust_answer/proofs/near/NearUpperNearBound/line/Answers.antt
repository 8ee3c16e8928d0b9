use Rattle.std.proofs.Common.{◌≡◌, refl, rules, to_z, of_z, w64, to_z-of_z, FitsSigned, inr, subst}
use Rattle.std.proofs.Math.Path.{subst⁻¹}
use mir.Syntax.{w128}
use Rattle.polcert_robust.specs.RobustAbove.{IsRobustAboveVerdict}
use Rattle.polcert_robust_answer.specs.Steps.Nearby.{controller_near, near_given}
use Rattle.polcert_robust_answer.specs.Lines.{IsNearAboveLine, most_line}
use Rattle.polcert_robust_answer.proofs.Common.{controller_of, meaning, long_line, table_of}
use Rattle.polcert_robust_answer.proofs.near.NearUpperNearBound.line.Goals as goal

pub millionths_near-by-requires-clause-is : goal.millionths_near-by-requires-clause-is
millionths_near-by-requires-clause-is c =
    let fits : FitsSigned w128 c.in-Long.amount = search rules in
    let back : to_z w128 (of_z w128 c.in-Long.amount) ≡ c.in-Long.amount = to_z-of_z fits in
    let (nl, sl, before, lacks, short, some) = subst (IsRobustAboveVerdict (near_given c.args.within.now c.args.given.now)
    (controller_near c.args.given.now)) c.in-Long.is c.requires.verdict in
    rw back (c.in-Long.node, c.in-Long.state, nl, sl, inr short)

pub returns-in-Yes : goal.returns-in-Yes
returns-in-Yes c =
    let m = meaning c.args.given.now.model in
    let v = c.args.given.now.vectors in
    let most = c.start_most_near-most.result in
    let fits : FitsSigned w64 most = search rules in
    let back : to_z w64 (of_z w64 most) ≡ most = to_z-of_z fits in
    let is = rw c.start_distance_in-by.ensures.is at c.start_most_near-most.ensures.most in
    rw back (subst⁻¹ (λ u. IsNearAboveLine c.args.within.now m (controller_of (table_of m) c.args.given.now.graph v) v u
    (most_line c.args.within.now most)) c.in-Yes.is (most, is, refl))

pub returns-in-Long : goal.returns-in-Long
returns-in-Long c =
    let by = c.millionths_near-by.result in
    let fits : FitsSigned w64 by = search rules in
    let back : to_z w64 (of_z w64 by) ≡ by = to_z-of_z fits in
    let fits_amount : FitsSigned w128 c.in-Long.amount = search rules in
    let amount_back : to_z w128 (of_z w128 c.in-Long.amount) ≡ c.in-Long.amount = to_z-of_z fits_amount in
    rw back (subst⁻¹ (λ u. IsNearAboveLine c.args.within.now (meaning c.args.given.now.model)
    (controller_of (table_of (meaning c.args.given.now.model)) c.args.given.now.graph c.args.given.now.vectors) c.args.given.now.vectors u
    (long_line c.in-Long.node c.in-Long.state by)) c.in-Long.is
    (by, rw amount_back at c.millionths_near-by.ensures, refl))

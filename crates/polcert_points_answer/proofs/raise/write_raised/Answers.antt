use Rattle.std.proofs.Common.{refl, subst}
use Rattle.polcert_points_answer.proofs.Common.{meaning, table_of}
use Rattle.polcert_check.specs.declared.fault.RaiseFault.{RaiseFault}
use Rattle.polcert_bound_answer.proofs.Raising.{same_raise}
use Rattle.polcert_points_answer.specs.Raise.{IsWhyPointsNotRaised}
use Rattle.polcert_points_answer.proofs.Raising.{are_raised, fit_raised, why_over, why_vectors}
use Rattle.polcert_points_answer.proofs.raise.write_raised.Goals as goal

pub constant_of_points-requires-clause-vectors : goal.constant_of_points-requires-clause-vectors
constant_of_points-requires-clause-vectors g c =
    fit_raised (table_of (meaning c.args.read.now.bound.model)) c.args.read.now.bound.vectors c.in-Ok.vectors c.requires.vectors
    c.in-Ok.ensures.raised

pub write_buffered-requires-clause-room : goal.write_buffered-requires-clause-room
write_buffered-requires-clause-room g c = c.in-Ok-constant_of_points.ensures.least.room

-- the vectors aren't raised
pub returns-in-Err-clause-not_raised : goal.returns-in-Err-clause-not_raised
returns-in-Err-clause-not_raised g c =
    let t = table_of (meaning c.args.read.now.bound.model) in
    let v = c.args.read.now.bound.vectors in
    let p = c.args.read.now.points in
    λ fault is.
    subst (λ (f : RaiseFault). IsWhyPointsNotRaised t v p f) (same_raise c.in-Err.fault fault _ refl is)
    (why_vectors t v p c.in-Err.fault c.in-Err.ensures.refused)

-- the points aren't
pub returns-in-Err-constant_of_points-clause-not_raised : goal.returns-in-Err-constant_of_points-clause-not_raised
returns-in-Err-constant_of_points-clause-not_raised g c =
    let t = table_of (meaning c.args.read.now.bound.model) in
    let v = c.args.read.now.bound.vectors in
    let p = c.args.read.now.points in
    let fault = c.in-Err-constant_of_points.fault in
    λ other is.
    subst (λ (f : RaiseFault). IsWhyPointsNotRaised t v p f) (same_raise fault other _ refl is)
    (why_over t v c.in-Ok.vectors p c.in-Ok.ensures.raised fault c.in-Err-constant_of_points.ensures.refused)

pub returns-in-Ok-write_buffered-clause-raised : goal.returns-in-Ok-write_buffered-clause-raised
returns-in-Ok-write_buffered-clause-raised g c =
    let are = are_raised (meaning c.args.read.now.bound.model) c.args.read.now.bound.vectors c.in-Ok.vectors c.args.read.now.points
    c.in-Ok-constant_of_points.by c.in-Ok.ensures.raised c.in-Ok-constant_of_points.ensures.least in
    record { took = (_, are, c.in-Ok-write_buffered.ensures.ok); begun = λ failed. absurd (cc) }

pub returns-clause-raised : goal.returns-clause-raised
returns-clause-raised g c =
    let by = c.in-Ok-constant_of_points.by in
    let are = are_raised (meaning c.args.read.now.bound.model) c.args.read.now.bound.vectors c.in-Ok.vectors c.args.read.now.points by
    c.in-Ok.ensures.raised c.in-Ok-constant_of_points.ensures.least in
    record { took = tt; begun = λ failed. (by, _, are, c.in-Err-write_buffered.ensures.err) }

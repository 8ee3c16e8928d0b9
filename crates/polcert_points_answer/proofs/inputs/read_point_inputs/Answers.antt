use Rattle.std.proofs.Common.{arith}
use Rattle.polcert_points_answer.proofs.Common.{Model, Points, Vectors, Text, HasVectors, IsPointsReadFault}
use Rattle.polcert_bound_answer.specs.Inputs.{IsBoundReadFault}
use Rattle.polcert_answer.proofs.Passing.{is_err, of_read, named_again, said}
use Rattle.polcert_answer.proofs.ReadInTurn.{answered_well, unnamed, not_named}
use Rattle.polcert_points_answer.proofs.Passing.{read_of_bound, bound_in_order}
use Rattle.polcert_points_answer.proofs.inputs.read_point_inputs.Goals as goal

-- ---- which text is refused

pub returns-in_err-bound-clause-refused : goal.returns-in_err-bound-clause-refused
returns-in_err-bound-clause-refused g c =
    let same = is_err _ _ c.from_residual.ensures.1 in
    let of = c.in_err-bound.ensures.of_reading in
    record {
      of_model = λ fault is. c.in_err-bound.ensures.refused.of_model fault (of_read _ _ same (Text (Model fault)) is);
      of_vectors = λ fault is. c.in_err-bound.ensures.refused.of_vectors fault (of_read _ _ same (Text (Vectors fault)) is);
      of_points = λ fault is. absurd (said _ _ same IsBoundReadFault of (Text (Points fault)) is);
    }

pub returns-in_err-points-clause-refused : goal.returns-in_err-points-clause-refused
returns-in_err-points-clause-refused g c =
    let d = c.in_ok-bound.ensures.accepted in
    let same = is_err _ _ c.from_residual-in_err-points.ensures.1 in
    let of = c.in_err-points.ensures.of_points in
    let has : HasVectors d.first d.second _ _ = record { is_model = d.is_model; are_vectors = d.are_vectors } in
    record {
      of_model = λ fault is. absurd (said _ _ same IsPointsReadFault of (Text (Model fault)) is);
      of_vectors = λ fault is. absurd (said _ _ same IsPointsReadFault of (Text (Vectors fault)) is);
      of_points = λ fault is. (
        d.first,
        d.second,
        d.model_read,
        d.vectors_read,
        c.in_err-points.ensures.refused fault
            (of_read _ _ same (Text (Points fault)) is) d.first d.second _ has,
      );
    }

pub returns-clause-refused : goal.returns-clause-refused
returns-clause-refused g c = grind (arith, answered_well)

-- ---- which source is named

pub returns-in_err-bound-clause-read : goal.returns-in_err-bound-clause-read
returns-in_err-bound-clause-read g c = grind (arith, is_err, named_again, said, not_named)

pub returns-in_err-points-clause-read : goal.returns-in_err-points-clause-read
returns-in_err-points-clause-read g c = grind (arith, is_err, named_again, said, unnamed, not_named)

pub returns-clause-read : goal.returns-clause-read
returns-clause-read g c = grind (arith, answered_well, unnamed, not_named)

-- ---- the rest

pub returns-clause-accepted : goal.returns-clause-accepted
returns-clause-accepted g c = grind arith

use Rattle.std.proofs.Common.{arith}
use Rattle.polcert_bound_answer.proofs.Common.{Model, Vectors, Text}
use Rattle.polcert_answer.specs.Steps.Reading.{IsVectorsReadFault}
use Rattle.polcert_answer.proofs.Passing.{is_err, of_read, named_again, said}
use Rattle.polcert_answer.proofs.ReadInTurn.{answered_well, unnamed, not_named}
use Rattle.polcert_bound_answer.proofs.inputs.read_bound_inputs.Goals as goal

-- ---- which text is refused

pub returns-in_err-model-clause-refused : goal.returns-in_err-model-clause-refused
returns-in_err-model-clause-refused g c = grind (arith, is_err, of_read, said)

pub returns-in_err-vectors-clause-refused : goal.returns-in_err-vectors-clause-refused
returns-in_err-vectors-clause-refused g c =
    let first = c.in_ok-model.ensures.accepted in
    let same = is_err _ _ c.from_residual-in_err-vectors.ensures.1 in
    let of = c.in_err-vectors.ensures.of_vectors in
    record {
      of_model = λ fault is. absurd (said _ _ same IsVectorsReadFault of (Text (Model fault)) is);
      of_vectors = λ fault is. (
        first.0,
        first.1,
        c.in_err-vectors.ensures.refused fault (of_read _ _ same (Text (Vectors fault)) is)
            first.0 first.2,
      );
    }

pub returns-clause-refused : goal.returns-clause-refused
returns-clause-refused g c = grind (arith, answered_well)

-- ---- which source is named

pub returns-in_err-model-clause-read : goal.returns-in_err-model-clause-read
returns-in_err-model-clause-read g c = grind (arith, is_err, named_again, said, not_named)

pub returns-in_err-vectors-clause-read : goal.returns-in_err-vectors-clause-read
returns-in_err-vectors-clause-read g c = grind (arith, is_err, named_again, said, unnamed, not_named)

pub returns-clause-read : goal.returns-clause-read
returns-clause-read g c = grind (arith, answered_well, unnamed, not_named)

-- ---- the rest

pub returns-clause-accepted : goal.returns-clause-accepted
returns-clause-accepted g c = grind arith

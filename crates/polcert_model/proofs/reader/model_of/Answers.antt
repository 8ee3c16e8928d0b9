use Rattle.polcert_model.proofs.ModelStreams.{row_sum_refused}
use Rattle.polcert_model.proofs.WholeTexts.{whole_accepted, whole_limits}
use Rattle.polcert_model.proofs.reader.model_of.Goals as goal

pub into_model-requires-clause-read : goal.into_model-requires-clause-read
into_model-requires-clause-read c = (_, c.requires.1.2)

pub into_model-requires-clause-limits : goal.into_model-requires-clause-limits
into_model-requires-clause-limits c = let read = c.requires.1 in whole_limits _ _ read.2 _ read.1

pub returns-in-Ok : goal.returns-in-Ok
returns-in-Ok c = λ text read. whole_accepted _ _ read.2 text read.1 c.in-Ok.model (rw c.in-Ok.is at c.in_ok-model.ensures)

pub returns-in-Err : goal.returns-in-Err
returns-in-Err c = λ text read.
    let row = c.in-Err.field-0 in
    row_sum_refused read.0 c.args.known read.2 text row.table row.action row.row read.1 (rw c.in-Err.is at c.in_ok-model.ensures)

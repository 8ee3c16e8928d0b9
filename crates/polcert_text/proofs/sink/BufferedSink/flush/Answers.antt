use Rattle.std.proofs.Common.{rules}
use Rattle.polcert_text.proofs.sink.BufferedSink.flush.Goals as goal

pub returns-then-is_err-clause-written : goal.returns-then-is_err-clause-written
returns-then-is_err-clause-written g c = search rules

pub returns-else-is_err-clause-written : goal.returns-else-is_err-clause-written
returns-else-is_err-clause-written g c = search rules

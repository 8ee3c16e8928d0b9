use Rattle.std.proofs.Common.{rules}
use Rattle.polcert_text.proofs.source.ReaderSourceSource.read.Goals as goal

pub returns-in-Ok-clause-call : goal.returns-in-Ok-clause-call
returns-in-Ok-clause-call g c = search rules

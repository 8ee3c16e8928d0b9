use Rattle.std.proofs.Common.{rules}
use Rattle.polcert_model.proofs.reader.TextReader.token_fault.Goals as goal

pub returns : goal.returns
returns c = search rules

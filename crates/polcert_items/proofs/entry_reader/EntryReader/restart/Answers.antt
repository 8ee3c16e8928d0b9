use Rattle.std.proofs.Common.{rules}
use Rattle.polcert_items.proofs.entry_reader.EntryReader.restart.Goals as goal

pub returns : goal.returns
returns c = search rules

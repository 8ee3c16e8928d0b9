use Rattle.std.proofs.Common.{rules}
use Rattle.polcert_items.proofs.entry_reader.word_ref.Goals as goal

pub returns-in-Identity : goal.returns-in-Identity
returns-in-Identity c = search rules

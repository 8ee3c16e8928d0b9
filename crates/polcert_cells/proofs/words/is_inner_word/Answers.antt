use Rattle.std.proofs.Common.{rules}
use Rattle.polcert_cells.proofs.words.is_inner_word.Goals as goal

pub returns-else-is_same_word-6 : goal.returns-else-is_same_word-6
returns-else-is_same_word-6 c = search rules

use Rattle.std.proofs.Common.{rules}
use Rattle.polcert_items.proofs.preamble_lines.costs_of.Goals as goal

pub returns-then-is_word-2-clause-word : goal.returns-then-is_word-2-clause-word
returns-then-is_word-2-clause-word c = search rules

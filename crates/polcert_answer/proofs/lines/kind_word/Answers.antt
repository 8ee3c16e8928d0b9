use Rattle.std.proofs.Common.{rules}
use Rattle.polcert_answer.proofs.lines.kind_word.Goals as goal

pub returns-then-is_mdp : goal.returns-then-is_mdp
returns-then-is_mdp c = search rules

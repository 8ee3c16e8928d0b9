use Rattle.std.proofs.Common.{arith}
use Rattle.polcert_text.proofs.Taken.BeginLaws.{colon_begins}
use Rattle.polcert_text.proofs.front_tokens.front_colon.Goals as goal

pub returns-then-quick_is_colon : goal.returns-then-quick_is_colon
returns-then-quick_is_colon c = grind (arith, colon_begins)

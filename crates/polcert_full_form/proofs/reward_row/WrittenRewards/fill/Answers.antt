use Rattle.std.proofs.Common.{rules}
use Rattle.polcert_full_form.proofs.reward_row.WrittenRewards.fill.Goals as goal

pub returns-in-Some : goal.returns-in-Some
returns-in-Some c = search rules

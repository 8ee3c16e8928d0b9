use Rattle.std.proofs.Common.{arith, rules}
use Rattle.std.proofs.lemmas.Int.{to_z-of_z}
use Rattle.polcert_check.proofs.Walking.Sharing.{one_known, known_of_other}
use Rattle.polcert_check.proofs.expected_reward.Earnings.share.Goals.{then-has_same_rewards, else-has_same_rewards}
use Rattle.polcert_check.proofs.expected_reward.Earnings.share.Goals as goal

pub find_at_ends-requires-clause-known : goal.find_at_ends-requires-clause-known
find_at_ends-requires-clause-known g c = grind (arith, known_of_other)

pub loop-s-preserved : goal.loop-s-preserved
loop-s-preserved g c = grind (arith, to_z-of_z, one_known, known_of_other, then-has_same_rewards, else-has_same_rewards)

pub sum_at_ends-requires-clause-found : goal.sum_at_ends-requires-clause-found
sum_at_ends-requires-clause-found g c = search rules

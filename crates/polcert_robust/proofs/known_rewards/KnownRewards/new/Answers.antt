use Rattle.std.proofs.Common.{false}
use Rattle.std.proofs.lemmas.List.{get_or-replicate}
use Rattle.polcert_policy.proofs.Places.{true_false}
use Rattle.polcert_robust.proofs.known_rewards.KnownRewards.new.Goals as goal

pub returns : goal.returns
returns c = λ m. record {
  constants = λ k l is. absurd (true_false is (get_or-replicate _ k _ false l));
  same = λ a l is. absurd (true_false is (get_or-replicate _ a _ false l));
}

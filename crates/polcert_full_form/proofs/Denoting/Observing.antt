-- What is observed with a line of observations, and without.
use Rattle.std.proofs.Common.{◌≡◌, true, false, arith}
use Rattle.polcert_full_form.proofs.Common.{count_of, Preamble, is_mdp, observed, rewarded}

-- in an MDP the states are observed
pub states_seen : (p : Preamble) → is_mdp p ≡ true → observed p ≡ p.states
states_seen p = grind arith

-- and a reward depends on one thing alone beside the action and the states
pub one_rewarded : (p : Preamble) → is_mdp p ≡ true → count_of (rewarded p) ≡ 1
one_rewarded p = grind arith

-- elsewhere it depends on what is observed
pub seen_rewarded : (p : Preamble) → is_mdp p ≡ false → count_of (rewarded p) ≡ count_of (observed p)
seen_rewarded p = grind arith

use Rattle.std.proofs.Common.{◌≡◌, ℕ, ℤ}
use Rattle.polcert_check.proofs.Common.{AreExcepted}
use Rattle.polcert_check.proofs.Walking.Excepted.{sum_until}
use Rattle.polcert_check.proofs.expected_reward.sum_excepted.Given as goal

-- the sum so far
abbrev pub invariant-loop-i : goal.invariant-loop-i
invariant-loop-i g l = (w : ℕ → ℕ) (r : ℕ → ℤ) (count b : ℕ)
    → AreExcepted (goal.F-post g l.weight_of) l.scale l.common l.exceptions w r count b
    → l.sum ≡ sum_until w r count l.scale l.common l.exceptions l.i

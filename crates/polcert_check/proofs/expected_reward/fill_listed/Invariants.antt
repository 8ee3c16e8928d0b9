use Rattle.std.proofs.Common.{◌≡◌, ℕ, ℤ, ◌<◌, length, pos, slice_index_or}
use Rattle.polcert_check.specs.Steps.Exceptions.{AreListedBut}
use Rattle.polcert_check.proofs.Walking.Overlaid.{IsOverlaid}
use Rattle.polcert_check.proofs.expected_reward.fill_listed.Given as goal

-- the rewards of the first exceptions are filled in
abbrev pub invariant-loop-k : goal.invariant-loop-k
invariant-loop-k l = (r : ℕ → ℤ) → AreListedBut l.list r l.count l.exceptions
    → (z : ℕ) → z < length l.list → IsOverlaid l.list r l.exceptions l.k z (slice_index_or l.rewards z (pos 0))

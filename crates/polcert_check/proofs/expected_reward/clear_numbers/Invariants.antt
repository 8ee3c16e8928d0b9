use Rattle.std.proofs.Common.{◌≡◌, ℕ, ◌<◌, pos}
use Rattle.std.specs.Prelude.{slice_index_or}
use Rattle.polcert_check.specs.declared.expected_reward.TheConstants.{UNKNOWN}
use Rattle.polcert_check.proofs.expected_reward.clear_numbers.Given as goal

abbrev pub invariant-loop-i : goal.invariant-loop-i
invariant-loop-i l = (k : ℕ) → k < l.i → slice_index_or l.numbers k (pos 0) ≡ UNKNOWN

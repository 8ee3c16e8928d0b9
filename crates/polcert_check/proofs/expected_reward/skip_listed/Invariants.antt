use Rattle.std.proofs.Common.{◌-◌, ◌≤◌}
use Rattle.polcert_check.proofs.Common.{AreBefore}
use Rattle.polcert_check.proofs.expected_reward.skip_listed.Given as goal

-- the listed end states so far are before this one
abbrev pub invariant-loop-place : goal.invariant-loop-place
invariant-loop-place l = record {
  before : AreBefore l.listed l.place l.e;
  within : l.place ≤ l.common.exceptions;
}

abbrev pub decreases-loop-place : goal.decreases-loop-place
decreases-loop-place l = l.common.exceptions - l.place

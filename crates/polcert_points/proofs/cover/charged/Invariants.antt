use Rattle.std.proofs.Common.{◌≡◌, ◌-◌, ◌≤◌, pos, ◌*ℤ◌, Some, length, slice_index, slice_index_or}
use Rattle.polcert_points.proofs.Common.{reached, total_below}
use Rattle.polcert_points.proofs.cover.charged.Given as goal

-- the sum over the states so far
abbrev pub invariant-loop-end : goal.invariant-loop-end
invariant-loop-end l = record {
  sum : l.sum ≡ total_below (λ s. pos (slice_index l.belief s) *ℤ slice_index_or l.charges s (pos 0)) (reached (Some l.ends) l.at);
  within : reached (Some l.ends) l.at ≤ length l.belief;
}

abbrev pub decreases-loop-end : goal.decreases-loop-end
decreases-loop-end l = length l.belief - reached (Some l.ends) l.at

use Rattle.std.proofs.Common.{◌≡◌, ℕ, ◌-◌, ◌<◌, ◌≤◌, Some, slice_index}
use Rattle.polcert_cells.specs.Meaning.{states_of}
use Rattle.polcert_model.specs.Contents.{meaning}
use Rattle.polcert_points.proofs.Common.{reached}
use Rattle.polcert_points.specs.PointStartMost.{scaled_start}
use Rattle.polcert_points.proofs.start_most.fill_scaled.Given as goal

-- the start at the states that are reached
abbrev pub invariant-loop-state : goal.invariant-loop-state
invariant-loop-state l = record {
  done : (k : ℕ) → k < reached (Some l.start) l.at → slice_index l.belief k ≡ scaled_start (meaning l.model) k;
  rest : (k : ℕ) → reached (Some l.start) l.at ≤ k → slice_index l.belief k ≡ slice_index l.fn.belief k;
  within : reached (Some l.start) l.at ≤ states_of (meaning l.model);
}

abbrev pub decreases-loop-state : goal.decreases-loop-state
decreases-loop-state l = states_of (meaning l.model) - reached (Some l.start) l.at

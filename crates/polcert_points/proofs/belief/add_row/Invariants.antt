use Rattle.std.proofs.Common.{◌≡◌, ℕ, ◌+◌, ◌-◌, ◌*◌, ◌<◌, ◌≤◌, slice_index}
use Rattle.polcert_points.proofs.Common.{reached}
use Rattle.polcert_points.proofs.belief.add_row.Given as goal

-- the row is added at the end states that are reached
abbrev pub invariant-loop-end : goal.invariant-loop-end
invariant-loop-end g l = record {
  done : (k : ℕ) → k < reached l.row l.at → slice_index l.arrivals k ≡ slice_index l.fn.arrivals k + l.times
      * (g.C.Cells.table l.cells).t l.a l.s k;
  rest : (k : ℕ) → reached l.row l.at ≤ k → slice_index l.arrivals k ≡ slice_index l.fn.arrivals k;
  within : reached l.row l.at ≤ (g.C.Cells.table l.cells).states;
}

abbrev pub decreases-loop-end : goal.decreases-loop-end
decreases-loop-end g l = (g.C.Cells.table l.cells).states - reached l.row l.at

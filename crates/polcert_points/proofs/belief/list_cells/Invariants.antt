use Rattle.std.proofs.Common.{◌≤◌, slice_index, take}
use Rattle.polcert_cells.specs.Sparse.{IsRow}
use Rattle.polcert_points.proofs.belief.list_cells.Given as goal

-- the states so far
abbrev pub invariant-loop-s : goal.invariant-loop-s
invariant-loop-s l = record {
  row : IsRow l.s (slice_index l.weights) (take l.place l.cells);
  within : l.place ≤ l.s;
}

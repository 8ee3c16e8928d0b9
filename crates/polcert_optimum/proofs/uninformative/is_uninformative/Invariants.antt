use Rattle.std.proofs.Common.{◌≡◌, ℕ, ◌-◌, ◌<◌, ◌≤◌}
use Rattle.polcert_optimum.proofs.Common.{reached}
use Rattle.polcert_optimum.proofs.uninformative.is_uninformative.Given as goal

-- the end states that are reached show the same as the first
abbrev pub invariant-loop-end : goal.invariant-loop-end
invariant-loop-end g l = record {
  each : (e : ℕ) → e < reached l.row l.at → 0 < (g.C.Cells.table l.cells).t l.pair.action l.pair.state e → (z : ℕ)
      → z < (g.C.Cells.table l.cells).observations
      → (g.C.Cells.table l.cells).o l.pair.action e z ≡ (g.C.Cells.table l.cells).o l.pair.action l.first.column z;
  within : reached l.row l.at ≤ (g.C.Cells.table l.cells).states;
}

abbrev pub decreases-loop-end : goal.decreases-loop-end
decreases-loop-end g l = (g.C.Cells.table l.cells).states - reached l.row l.at

use Rattle.std.proofs.Common.{◌≡◌, ℕ, ◌-◌, ◌<◌, ◌≤◌, true, false}
use Rattle.std.specs.Prelude.{slice_index_or}
use Rattle.polcert_check.proofs.Common.{reached}
use Rattle.polcert_check.proofs.end_values.ReachedStates.mark.Given as goal

abbrev pub invariant-loop-end : goal.invariant-loop-end
invariant-loop-end g l = record {
  still : (e : ℕ) → slice_index_or l.fn.self.marks e false ≡ true → slice_index_or l.self.marks e false ≡ true;
  marked : (e : ℕ) → e < reached l.row l.at → 0 < (g.C.Cells.table l.cells).t l.a l.s e → slice_index_or l.self.marks e false ≡ true;
  within : reached l.row l.at ≤ (g.C.Cells.table l.cells).states;
}

abbrev pub decreases-loop-end : goal.decreases-loop-end
decreases-loop-end g l = (g.C.Cells.table l.cells).states - reached l.row l.at

use Rattle.std.proofs.Common.{◌≡◌, ℕ, ◌-◌, ◌<◌, ◌≤◌, pos}
use Rattle.std.specs.Option.{ForSome}
use Rattle.std.specs.Prelude.{slice_index_or}
use Rattle.polcert_check.proofs.Common.{reached, reward_at_end, AreKnown, IsEndRun}
use Rattle.polcert_check.proofs.expected_reward.find_at_ends.Given as goal

-- what is found so far
abbrev pub invariant-loop-end : goal.invariant-loop-end
invariant-loop-end g l = record {
  known : AreKnown (reward_at_end (g.C.Cells.table l.cells) l.a l.s) (g.C.Cells.table l.cells).states l.at_ends;
  found : (e : ℕ) → e < reached l.row l.at → 0 < (g.C.Cells.table l.cells).t l.a l.s e
      → slice_index_or l.at_ends e (pos 0) ≡ reward_at_end (g.C.Cells.table l.cells) l.a l.s e;
  within : reached l.row l.at ≤ (g.C.Cells.table l.cells).states;
  run : ForSome l.run (IsEndRun (g.C.Cells.table l.cells) l.a l.s);
}

abbrev pub decreases-loop-end : goal.decreases-loop-end
decreases-loop-end g l = (g.C.Cells.table l.cells).states - reached l.row l.at

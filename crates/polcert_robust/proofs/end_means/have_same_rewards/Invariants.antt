use Rattle.std.proofs.Common.{◌≡◌, ℕ, ◌<◌}
use Rattle.polcert_robust.proofs.end_means.have_same_rewards.Given as goal

-- the first states have the rewards of the first
abbrev pub invariant-loop-s : goal.invariant-loop-s
invariant-loop-s g l = (s e z : ℕ) → s < l.s → e < (g.C.Cells.table l.cells).states → z < (g.C.Cells.table l.cells).observations
    → (g.C.Cells.table l.cells).r l.a s e z ≡ (g.C.Cells.table l.cells).r l.a 0 e z

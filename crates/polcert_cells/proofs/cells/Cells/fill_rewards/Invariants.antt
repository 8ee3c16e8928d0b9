use Rattle.std.proofs.Common.{◌≡◌, ℕ, ◌+◌, ◌<◌, get_or, pos}
use Rattle.polcert_cells.proofs.cells.Cells.fill_rewards.Given as goal

-- the rewards so far
abbrev pub invariant-loop-i : goal.invariant-loop-i
invariant-loop-i g l = (j : ℕ) → j < l.i → get_or l.rewards j (pos 0) ≡ (g.Self.Cells.table l.self).r l.a l.s l.e (l.first + j)

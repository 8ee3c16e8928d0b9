use Rattle.std.proofs.Common.{◌≡◌, ℕ, ◌<◌}
use Rattle.polcert_cells.specs.CommonRewards.{cell_at}
use Rattle.polcert_robust.proofs.known_rewards.reward_among.Given as goal

abbrev pub invariant-loop-k : goal.invariant-loop-k
invariant-loop-k l = (j : ℕ) → j < l.k → (cell_at l.listed j).observation ≡ l.e → ⊥

use Rattle.std.proofs.Common.{◌≡◌, ℕ, ◌+◌, ◌<◌, get_or, pos}
use Rattle.polcert_full_form.proofs.Common.{meaning}
use Rattle.polcert_full_form.proofs.reward_row.WrittenRewards.fill_ends.Given as goal

-- the rewards so far
abbrev pub invariant-loop-i : goal.invariant-loop-i
invariant-loop-i l = (j : ℕ) → j < l.i → get_or l.block j (pos 0) ≡ (meaning l.self.model.now).r l.self.action l.self.start (l.first + j) 0

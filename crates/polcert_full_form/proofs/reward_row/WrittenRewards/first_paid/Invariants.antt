use Rattle.std.proofs.Common.{◌≡◌, ◌<◌, ◌≤◌, ◌-◌, ℕ, pos}
use Rattle.polcert_full_form.proofs.Common.{row_width, row_rewards}
use Rattle.polcert_full_form.proofs.reward_row.WrittenRewards.first_paid.Given as goal

abbrev pub invariant-loop-first : goal.invariant-loop-first
invariant-loop-first l = record {
  within : l.first ≤ row_width l.self;
  before : (c : ℕ) → c < l.first → row_rewards l.self c ≡ pos 0;
}

abbrev pub decreases-loop-first : goal.decreases-loop-first
decreases-loop-first l = l.columns - l.first

-- End states at which an action expects the same reward.
use Rattle.std.proofs.Common.{◌≡◌, ◌∙◌, ℕ, ◌<◌, ◌≤◌, ℤ, pos, ◌*ℤ◌, true, List, Option, Some, None, is_some, refl, sym, ap, arith}
use Rattle.std.specs.Option.{ForSome}
use Rattle.polcert_cells.specs.CommonRewards.{IsRewardRow}
use Rattle.polcert_cells.specs.declared.common_reward.RewardRow.{RewardRow}
use Rattle.polcert_check.proofs.Common.{CellTable, EndRun, IsEndRun, IsProper, IsWithinLimits, RewardCell}
use Rattle.polcert_check.proofs.Common.{reward_at_end}
use Rattle.polcert_check.proofs.Sums.SumLaws.{sum_below_same}
use Rattle.polcert_check.proofs.Walking.Earning.{alike}

-- if one reward is found for all observations, all have it
pub constant_row : (m : CellTable) (a s e : ℕ) (row : RewardRow) (cells : List RewardCell) (found : Option ℤ)
    → IsRewardRow (m.r a s e) m.observations row cells
    → ForSome found (λ h. (r : ℕ → ℤ) (count : ℕ) (cells : List RewardCell) → IsRewardRow r count row cells → (z : ℕ) → z < count → r z ≡ h)
    → is_some found ≡ true → (h : ℤ) × ((z : ℕ) → z < m.observations → m.r a s e z ≡ h)
constant_row m a s e row cells (Some h) is given t = (h, given h refl _ _ _ is)
constant_row m a s e row cells None is given t = grind arith

module _ (m : CellTable) (p : IsProper m) (limits : IsWithinLimits m) (a s : ℕ) (al : a < m.actions) (run : EndRun)
    (is : IsEndRun m a s run) (e : ℕ) (el : e < m.states) (from : run.end ≤ e) (to : e < run.until) where
  pub constant_run : run.is_constant ≡ true → run.reward ≡ reward_at_end m a s e
  constant_run c =
      let h = is.constant c in
      is.reward
      ∙ sym (alike m p limits a s run.end h.0 al is.end h.1)
      ∙ alike m p limits a s e h.0 al el (λ z zl. is.same e z from to el zl ∙ h.1 z zl)

  pub same_row_run : ((z : ℕ) → z < m.observations → m.o a e z ≡ m.o a run.end z) → run.reward ≡ reward_at_end m a s e
  same_row_run same =
      is.reward
      ∙ sum_below_same _ _ _ (λ z zl. ap (λ w. pos w *ℤ m.r a s run.end z) (sym (same z zl))
      ∙ ap (λ h. pos (m.o a e z) *ℤ h) (sym (is.same e z from to el zl)))

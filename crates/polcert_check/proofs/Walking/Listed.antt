-- End states that are listed in order, with their rewards: what the place reached tells of the next.
use Rattle.std.proofs.Common.{◌≡◌, ◌∙◌, ⊎_elim, ℕ, ◌<◌, ℤ, pos, ◌*ℤ◌, List, sym, ap, subst, arith}
use Rattle.polcert_check.proofs.Common.{cases_lt, CellTable, IsProper, IsWithinLimits, AreBefore, CommonReward, RewardCell, reward_at_end}
use Rattle.polcert_check.proofs.Walking.Earning.{alike}
use Rattle.polcert_cells.specs.CommonRewards.{cell_at, AreEndRewards, AreOrdered, IsCommonReward}

module _ (r : ℕ → ℤ) (count : ℕ) (common : CommonReward) (cells : List RewardCell) (is : IsCommonReward r count common cells) (e place : ℕ)
  where
    pub listed_named : place < common.exceptions → (cell_at cells place).observation ≡ e → (cell_at cells place).reward ≡ r e
    listed_named l same = sym (is.each place l) ∙ ap r same

    pub listed_unnamed : e < count → AreBefore cells place e → (place < common.exceptions → e < (cell_at cells place).observation)
        → AreOrdered common cells → common.reward ≡ r e
    listed_unnamed el before after ordered = sym (is.others e el (λ k l same. ⊎_elim
        (λ less. let b = before k less in omega (arith, b, same))
        (λ ge. ⊎_elim
        (λ more. let up = ordered place k more l in let a = after (omega (arith, more, l)) in omega (arith, up, a, same))
        (λ le. let at : k ≡ place = omega (arith, ge, le) in let a = after (subst (λ n. n < common.exceptions) at l) in let here =
        subst (λ n. (cell_at cells n).observation ≡ e) at same in omega (arith, a, here))
        (cases_lt place k))
        (cases_lt k place)))

-- what is found at an end state is the reward there
pub listed_at_end : (m : CellTable) → IsProper m → IsWithinLimits m
    → (a s e : ℕ) (common : CommonReward) (cells : List RewardCell) (h x : ℤ) → a < m.actions → e < m.states
    → AreEndRewards m a s common cells
    → ((r : ℕ → ℤ) (count : ℕ) → e < count → IsCommonReward r count common cells → AreOrdered common cells → h ≡ r e)
    → x ≡ pos m.o_scale *ℤ h → x ≡ reward_at_end m a s e
listed_at_end m p limits a s e common cells h x al el are found is = is
    ∙ alike m p limits a s e h al el (λ z zl. sym (found _ _ el (are.0 z zl) are.1))

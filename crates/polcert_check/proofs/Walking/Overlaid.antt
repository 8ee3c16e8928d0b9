-- A list of rewards over which its exceptions are written.
use Rattle.std.proofs.Common.{◌≡◌, ◌∙◌, ℕ, zero, suc, ◌+◌, ◌<◌, ◌≤◌, ◌⊎◌, inl, inr, ⊎_elim, List, length, ℤ, pos, set, sym, ap, subst}
use Rattle.std.proofs.Common.{arith}
use Rattle.std.proofs.Common.{slice_index_or, get_or-set_other, get_or-set_same}
use Rattle.std.proofs.lemmas.Bool.{cases_eq}
use Rattle.polcert_cells.specs.CommonRewards.{cell_at}
use Rattle.polcert_check.proofs.Common.{RewardCell, cases_lt}
use Rattle.polcert_check.specs.Steps.Exceptions.{AreListedBut}

-- a reward among the first exceptions, or that of the list if it is none of these
abbrev pub IsOverlaid : List ℤ → (ℕ → ℤ) → List RewardCell → ℕ → ℕ → ℤ → Type 0
IsOverlaid list r cells k z reward =
    (reward ≡ r z) ⊎ (((j : ℕ) → j < k → (cell_at cells j).observation ≡ z → ⊥) × (reward ≡ slice_index_or list z (pos 0)))

module _ (list : List ℤ) (r : ℕ → ℤ) (count : ℕ) (cells : List RewardCell) (are : AreListedBut list r count cells) where
  -- one exception more
  pub overlaid_more : (rewards : List ℤ) (k : ℕ) (x : ℤ) → k < count → length list ≤ length rewards → x ≡ (cell_at cells k).reward
      → ((z : ℕ) → z < length list → IsOverlaid list r cells k z (slice_index_or rewards z (pos 0)))
      → (z : ℕ) → z < length list → IsOverlaid list r cells (k + 1) z
      (slice_index_or (set rewards (cell_at cells k).observation x) z (pos 0))
  overlaid_more rewards k x kl room is before z zl = at (cases_eq (cell_at cells k).observation z)
    where
      o : ℕ
      o = (cell_at cells k).observation

      within : o < length rewards
      within = let w = are.rewards.within k kl in omega (arith, w, room)

      at : (o ≡ z) ⊎ (o ≡ z → ⊥) → IsOverlaid list r cells (k + 1) z (slice_index_or (set rewards o x) z (pos 0))
      at (inl e) = inl (subst (λ y. slice_index_or (set rewards o x) y (pos 0) ≡ r y) e
          (get_or-set_same rewards o x _ within ∙ is ∙ sym (are.rewards.each k kl)))
      at (inr d) = more (before z zl)
        where
          same : slice_index_or (set rewards o x) z (pos 0) ≡ slice_index_or rewards z (pos 0)
          same = get_or-set_other rewards o z x _ (λ f. d (sym f))

          more : IsOverlaid list r cells k z (slice_index_or rewards z (pos 0))
              → IsOverlaid list r cells (k + 1) z (slice_index_or (set rewards o x) z (pos 0))
          more (inl e) = inl (same ∙ e)
          more (inr e) = inr (last, same ∙ e.1)
            where
              last : (j : ℕ) → j < k + 1 → (cell_at cells j).observation ≡ z → ⊥
              last j jl f = ⊎_elim (λ l. e.0 j l f)
                  (λ ge. let here : j ≡ k = omega (arith, jl, ge) in d (subst (λ i. (cell_at cells i).observation ≡ z) here f))
                  (cases_lt j k)

  -- all of them
  pub overlaid_all : (z : ℕ) (x : ℤ) → z < length list → IsOverlaid list r cells count z x → x ≡ r z
  overlaid_all z x zl (inl e) = e
  overlaid_all z x zl (inr e) = e.1 ∙ sym (are.rewards.others z zl e.0)

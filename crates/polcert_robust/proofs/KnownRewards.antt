-- Rewards that are common to all end states and observations, without an exception.
use Rattle.std.proofs.Common.{Bool, None, false, true, refl}
use Rattle.std.proofs.Common.{◌≡◌, ◌∙◌, ℕ, ◌+◌, ◌*◌, ◌/◌, ◌%◌, ◌<◌, ℤ, pos, List, Option, Some, length, slice_index_or, slice_set}
use Rattle.std.proofs.Common.{ap, arith, rules, subst, sym, ⊎_elim}
use Rattle.std.specs.Option.{ForSome, is_some}
use Rattle.polcert_policy.proofs.Places.{true_false}
use Rattle.std.proofs.lemmas.Bool.{cases_eq}
use Rattle.std.proofs.lemmas.List.{get_or-set_other, get_or-set_same}
use Rattle.std.proofs.lemmas.Nat.{div-mul-add, mod-mul-add, row_fits_turned}
use Rattle.polcert_cells.specs.CommonRewards.{AreEndRewards, IsCommonReward, row_reward}
use Rattle.polcert_cells.specs.Tables.{CellTable}
use Rattle.polcert_cells.specs.declared.common_reward.CommonReward.{CommonReward}
use Rattle.polcert_cells.specs.declared.common_reward.RewardCell.{RewardCell}
use Rattle.polcert_robust.specs.Steps.KnownRewards.{AreKnownRewards}
use Rattle.polcert_robust.specs.Steps.Rewards.{IsConstantReward}
use Rattle.polcert_robust.specs.declared.known_rewards.KnownRewards.{KnownRewards}
use Rattle.polcert_robust.specs.declared.known_rewards.TheConstants.{ROOM}

-- what observations have in common is the reward of each
pub without_exception : (r : ℕ → ℤ) (count : ℕ) (common : CommonReward) (cells : List RewardCell) → length cells ≡ 0
    → IsCommonReward r count common cells → (z : ℕ) → z < count → r z ≡ common.reward
without_exception r count common cells empty is z l = is.others z l (λ k kl. absurd (omega arith))

module _ (m : CellTable) where
  pub row_constant : (a s : ℕ) (common : CommonReward) (cells : List RewardCell) → length cells ≡ 0
      → IsCommonReward (row_reward m a s) (m.states * m.observations) common cells → IsConstantReward m a s common.reward
  row_constant a s common cells empty is e el z zl =
      sym (ap (λ (k : ℕ). m.r a s k ((e * m.observations + z) % m.observations)) (div-mul-add e _ z zl)
      ∙ ap (m.r a s e) (mod-mul-add e _ z zl))
      ∙ without_exception _ _ _ cells empty is _
      (omega (arith, zl, row_fits_turned e m.observations m.observations _ el (search rules)))

  pub end_constant : (a s : ℕ) (common : CommonReward) (cells : List RewardCell) → length cells ≡ 0
      → AreEndRewards m a s common cells → IsConstantReward m a s common.reward
  end_constant a s common cells empty is e el z zl = without_exception _ _ _ cells empty (is.0 z zl) e el

  -- ---- what is kept by action and start state

  pub kept_at : (kept : KnownRewards) (a s : ℕ) → s < m.states → a * m.states + s < ROOM → AreKnownRewards m kept
      → slice_index_or kept.are_constant (a * m.states + s) false ≡ true
      → IsConstantReward m a s (slice_index_or kept.constants (a * m.states + s) (pos 0))
  kept_at kept a s sl l are is =
      let x : ℤ = slice_index_or kept.constants _ _ in
      subst (λ (i : ℕ). IsConstantReward m i s x) (div-mul-add a _ s sl)
      (subst (λ (j : ℕ). IsConstantReward m ((a * m.states + s) / m.states) j x) (mod-mul-add a _ s sl)
      (are.constants _ l is))

  -- one more is kept
  pub kept_more : (bs : List Bool) (xs : List ℤ) (a s : ℕ) (b : Bool) (x : ℤ) → s < m.states → a * m.states + s < ROOM
      → length bs ≡ ROOM → length xs ≡ ROOM
      → ((k : ℕ) → k < ROOM → slice_index_or bs k false ≡ true
      → IsConstantReward m (k / m.states) (k % m.states) (slice_index_or xs k (pos 0)))
      → (b ≡ true → IsConstantReward m a s x)
      → (k : ℕ) → k < ROOM → slice_index_or (slice_set bs (a * m.states + s) b) k false ≡ true
      → IsConstantReward m (k / m.states) (k % m.states) (slice_index_or (slice_set xs (a * m.states + s) x) k (pos 0))
  kept_more bs xs a s b x sl l room_b room_x are here k kl is = ⊎_elim (λ (h : k ≡ a * m.states + s).
      let b_is =
      subst (λ (p : ℕ). slice_index_or (slice_set bs (a * m.states + s) b) p false ≡ b) (sym h)
      (get_or-set_same bs _ b false (omega arith)) in
      let x_is =
      subst (λ (p : ℕ). slice_index_or (slice_set xs (a * m.states + s) x) p (pos 0) ≡ x) (sym h)
      (get_or-set_same xs _ x _ (omega arith)) in
      rw (x_is, h, div-mul-add a _ s sl, mod-mul-add a _ s sl) (here (sym b_is ∙ is)))
      (λ (ne : k ≡ a * m.states + s → ⊥).
      rw (get_or-set_other xs _ k x _ ne) (are k kl (sym (get_or-set_other bs _ k b false ne) ∙ is)))
      (cases_eq k _)

  -- a reward that is there is kept as it is
  pub kept_number : (a s : ℕ) (reward : Option ℤ) (x : ℤ) → ForSome reward (IsConstantReward m a s)
      → ForSome reward (λ h. x ≡ h) → is_some reward ≡ true → IsConstantReward m a s x
  kept_number a s None x is by there = absurd (true_false there refl)
  kept_number a s (Some h) x is by there = subst (IsConstantReward m a s) (sym (by h refl)) (is h refl)

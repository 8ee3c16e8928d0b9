-- A row of rewards that is read block by block.
use Rattle.std.proofs.Common.{◌≡◌, ◌∙◌, ℕ, zero, suc, ◌+◌, ◌-◌, ◌<◌, ◌≤◌, ◌⊎◌, ⊎_elim, Bool, true, false, Option, Some, None, List, [], ◌∷◌}
use Rattle.std.proofs.Common.{◌++◌, length, min, take, get_or, ℤ, pos, unsigned_abs, refl, sym, ap, subst, arith, append_assoc, codes}
use Rattle.polcert_full_form.proofs.Common.{list_all, largest, Reward, Meaning}
use Rattle.polcert_full_form.proofs.Common.{meaning, for_each, all_below, written, is_zero, row_words, reward_words}
use Rattle.polcert_full_form.proofs.Common.{number_text, reward_row_text, block_text, IsFilled, row_width, row_rewards, rewarded_text}
use Rattle.std.proofs.lemmas.List.{length-take-le, get_or-take}
use Rattle.polcert_cells.proofs.Basics.{is_true_or_false, true≢false}
use Rattle.polcert_full_form.specs.Steps.Printing.{zeros_text, reward_columns, printed_reward, reward_head, reward_text, IsPaidFrom}
use Rattle.polcert_full_form.proofs.Printing.PrintedParts as texts
use Rattle.polcert_full_form.proofs.Denoting.RowEntries.{test_below}
use Rattle.polcert_full_form.proofs.Denoting.SameForms.{same_for_each, same_test}
use Rattle.polcert_full_form.specs.declared.reward_row.WrittenRewards.{WrittenRewards}
use Rattle.polcert_full_form.specs.Steps.PrintedRows.{paid_row_text}
use Rattle.polcert_full_form.proofs.Printing.Runs.{run_after, run_more}
use Rattle.polcert_full_form.proofs.Denoting.RewardEntries.{zero_is}

written_zero : (costs : Bool) → written costs (pos 0) ≡ pos 0
written_zero costs = grind arith

-- ---- a block of a row of n columns, from `first` on
module _ (r : ℕ → ℤ) (n first size : ℕ) (block : List ℤ) (filled : IsFilled r n first block)
    (size_room : size ≡ min (n - first) (length block))
    (before_end : first ≤ n) where
  pub within : first + size ≤ n
  within = omega arith

  pub size_is : length (take size block) ≡ size
  size_is = length-take-le _ _ (omega arith)

  each_is : (i : ℕ) → i < size → get_or (take size block) i (pos 0) ≡ r (first + i)
  each_is i l = get_or-take _ _ i _ l ∙ filled i (omega arith) (omega arith)

  tests_are : list_all is_zero (take size block) ≡ all_below size (λ i. is_zero (r (first + i)))
  tests_are =
      texts.list_below _ (take size _) _
      ∙ ap (λ k. all_below k (λ i. is_zero (get_or (take size block) i (pos 0)))) size_is
      ∙ same_test _ _ _ (λ i l. ap is_zero (each_is i l))

  -- all are 0, and so are all up to its end
  pub zero_to : list_all is_zero (take size block) ≡ true → ((c : ℕ) → c < first → r c ≡ pos 0) → (c : ℕ) → c < first + size → r c ≡ pos 0
  zero_to all before c l = ⊎_elim (λ (b : c < first). before c b) (λ (b : first ≤ c). following b) (below_or c _)
    where
      below_or : (x y : ℕ) → (x < y) ⊎ (y ≤ x)
      below_or x y = grind arith

      following : first ≤ c → r c ≡ pos 0
      following b =
          subst (λ k. r k ≡ pos 0) (omega arith) (zero_is _
          (test_below size (c - first) _ (sym tests_are ∙ all) (omega arith)))

  -- one isn't 0, and so the row has such a reward
  pub paid_from : list_all is_zero (take size block) ≡ false → all_below n (λ c. is_zero (r c)) ≡ false
  paid_from some = ⊎_elim (λ (all : all_below n _ ≡ true). absurd (true≢false (none all) some)) (λ (e : all_below n _ ≡ false). e)
      (is_true_or_false _)
    where
      all_of : (k : ℕ) (test : ℕ → Bool) → ((i : ℕ) → i < k → test i ≡ true) → all_below k test ≡ true
      all_of zero test h = refl
      all_of (suc k) test h = let before = all_of k _ (λ i l. h i (omega arith)) in grind arith

      none : all_below n (λ c. is_zero (r c)) ≡ true → list_all is_zero (take size block) ≡ true
      none all = tests_are ∙ all_of size _ (λ i l. test_below n _ _ all (omega arith))

  -- the numbers are small, and printed as those of the row
  pub small_in : ((c : ℕ) → c < n → unsigned_abs (r c) ≤ largest) → (i : ℕ) → i < length (take size block)
      → unsigned_abs (get_or (take size block) i (pos 0)) ≤ largest
  small_in small i l = grind (arith, size_is, each_is)

  -- after those from `start` on
  pub block_more : (costs : Bool) (start : ℕ) → start ≤ first
      → for_each (first - start) (λ i. reward_text costs r (start + i)) ++ for_each (length (take size block))
      (block_text costs first (take size block))
      ≡ for_each (first + size - start) (λ i. reward_text costs r (start + i))
  block_more costs start l =
      ap (λ xs. for_each (first - start) (λ i. reward_text costs r (start + i)) ++ xs) (grind (arith, same_for_each, size_is, each_is))
      ∙ run_more _ _ _ (reward_text _ r) l

-- ---- the whole row
pub row_unpaid : (m : Meaning) (a s : ℕ) (end : Option ℕ)
    → all_below (reward_columns m end) (λ c. is_zero (printed_reward m a s end c)) ≡ true
    → [] ≡ reward_row_text m a s end
row_unpaid m a s (Some e) all = grind arith
row_unpaid m a s None all = grind arith

paid_is : (m : Meaning) (a s : ℕ) (end : Option ℕ) → 0 < reward_columns m end
    → all_below (reward_columns m end) (λ c. is_zero (printed_reward m a s end c)) ≡ false
    → reward_head a s end ++ for_each (reward_columns m end) (reward_text m.preamble.costs (printed_reward m a s end)) ++ codes "\n"
    ≡ reward_row_text m a s end
paid_is m a s (Some e) some paid = texts.paid_is _ (a ∷ s ∷ e ∷ []) (reward_words a s e) _ _ (texts.cell_head a s e) some paid
paid_is m a s None some paid = texts.paid_is _ (a ∷ s ∷ []) (row_words Reward a s) _ _ (texts.row_head a s) some paid

pub row_paid : (row : WrittenRewards) (first : ℕ) → IsPaidFrom (row_rewards row) (row_width row) first
    → reward_head row.action row.start row.end ++ zeros_text 0 first ++ for_each (row_width row - first)
    (λ i. rewarded_text row (first + i)) ++ codes "\n"
    ≡ paid_row_text row
row_paid row first p =
    let m = meaning row.model.now in
    let head = reward_head _ _ _ in
    ap (λ xs. xs ++ codes "\n")
    (append_assoc head _ _
    ∙ ap (λ xs. head ++ xs) (run_after _ _ _ _ (omega arith)
    (λ i l. ap (number_text i) (sym (written_zero _) ∙ ap (written _) (sym (p.before i l))))))
    ∙ paid_is m _ _ _ (omega arith) p.paid

-- ---- limits of a row
pub small_rewards : (row : WrittenRewards) (c : ℕ) → c < row_width row → unsigned_abs (row_rewards row c) ≤ largest
small_rewards row = grind arith

-- Weighted rewards, summed from one that most have in common and from its exceptions.
use Rattle.std.proofs.Common.{◌≡◌, ◌∙◌, ℕ, zero, suc, ◌+◌, ◌*◌, ◌^◌, ◌<◌, ◌≤◌, true, false, cond, ◌⊎◌, inl, inr, List, ℤ, pos, ◌+ℤ◌, ◌-ℤ◌}
use Rattle.std.proofs.Common.{◌*ℤ◌, unsigned_abs, FitsSigned, w64, to_z, of_z, refl, sym, ap, arith, rules, lit<, add-one}
use Rattle.polcert_check.proofs.Common.{w128, ints, fits_signed_from_abs, *ℤ_comm, *ℤ-zero, +ℤ_idr, largest, CommonReward, RewardCell}
use Rattle.polcert_check.proofs.Common.{total_below, most_sum, AreExcepted, weighed_total}
use Rattle.std.proofs.lemmas.Int.{to_z-of_z}
use Rattle.polcert_cells.specs.CommonRewards.{cell_at}
use Rattle.std.specs.Prelude.{◌==◌}
use Rattle.std.proofs.lemmas.Bool.{cases_eq}
use Rattle.std.proofs.lemmas.Bool.Decides.{nat_tests}
use Rattle.polcert_check.specs.Steps.Exceptions.{difference_in}
use Rattle.polcert_check.proofs.Sums.Bounds.{abs-+ℤ, abs-*ℤ_le}
use Rattle.polcert_check.proofs.Sums.Ring.{linear, *ℤ-+ℤ}
use Rattle.polcert_check.proofs.Sums.SumLaws.{sum_below_same, sum_below_scale, sum_below_add}
use Rattle.polcert_check.proofs.Sums.Gaps.{add_step, weighed_is}
use Rattle.polcert_check.proofs.Walking.Weighed.{part_le, weight_room, weight_small}

-- ---- tests of numbers
other_number : (a b : ℕ) → (a ≡ b → ⊥) → (a == b) ≡ false
other_number a b d = grind (arith, nat_tests)

equal_numbers : (a : ℕ) → (a == a) ≡ true
equal_numbers a = grind (arith, nat_tests)

module _ (a : ℕ) (b : ℕ) (x : ℤ) (y : ℤ) where
  pub hit : a ≡ b → cond (a == b) x y ≡ x
  hit e = ap (λ t. cond t x y) (ap (λ k. k == b) e ∙ equal_numbers b)

  pub miss : (a ≡ b → ⊥) → cond (a == b) x y ≡ y
  miss d = ap (λ t. cond t x y) (other_number a b d)

-- ---- a sum of which one term changes
pub one_term_more : (f g : ℕ → ℤ) (i : ℕ) (x : ℤ) (n : ℕ) → i < n → ((k : ℕ) → k < n → (k ≡ i → ⊥) → g k ≡ f k) → g i ≡ f i +ℤ x
    → total_below g n ≡ total_below f n +ℤ x
one_term_more f g i x zero l same here = absurd (omega (arith, l))
one_term_more f g i x (suc n) l same here = at (cases_eq n i)
    (λ d. one_term_more f g i x n (omega (arith, l, d)) (λ k m. same k (omega (arith, m))) here)
  where
    at : (n ≡ i) ⊎ (n ≡ i → ⊥) → ((n ≡ i → ⊥) → total_below g n ≡ total_below f n +ℤ x)
        → total_below g n +ℤ g n ≡ (total_below f n +ℤ f n) +ℤ x
    at h1 h2 = search (rules, linear, sum_below_same)

-- ---- the differences of the first cells
module _ (r : ℕ → ℤ) (h : ℤ) (cells : List RewardCell) where
  no_difference : (n z : ℕ) → ((k : ℕ) → k < n → (cell_at cells k).observation ≡ z → ⊥) → difference_in r h cells n z ≡ pos 0
  no_difference zero z d = refl
  no_difference (suc n) z d = miss (cell_at cells n).observation z _ _ (d n (omega arith))
      ∙ no_difference n z (λ k l. d k (omega (arith, l)))

  -- each is that of the observation, or there is none
  cases_difference : (n z : ℕ) → ((k : ℕ) × (k < n) × ((cell_at cells k).observation ≡ z) × (difference_in r h cells n z ≡ r z -ℤ h))
      ⊎ (((k : ℕ) → k < n → (cell_at cells k).observation ≡ z → ⊥) × (difference_in r h cells n z ≡ pos 0))
  cases_difference zero z = inr ((λ k l e. absurd (omega (arith, l))), refl)
  cases_difference (suc n) z = grind (arith, cases_difference n z)

pub small_of : (h : ℤ) → FitsSigned w64 h → unsigned_abs h ≤ 2 ^ 63
small_of h h1 = grind arith

module _ (x : ℤ) (h : ℤ) where
  -- the difference, as the code computes it
  pub difference_is : FitsSigned w64 x → FitsSigned w64 h
      → to_z w128 (of_z w128 (to_z w64 (of_z w64 x))) -ℤ to_z w128 (of_z w128 (to_z w64 (of_z w64 h))) ≡ x -ℤ h
  difference_is f k = grind arith

  abs-minus : (b : ℕ) → unsigned_abs x ≤ largest → unsigned_abs h + largest ≤ b → unsigned_abs (x -ℤ h) ≤ b
  abs-minus b l m = omega (arith, ints)

  whole_part : x ≡ h +ℤ (x -ℤ h)
  whole_part = omega (arith, linear)

-- the reward of an exception has 64 bits
exception_fits : (r x : ℤ) → r ≡ x → unsigned_abs r ≤ largest → FitsSigned w64 x
exception_fits r x is small = rw (sym is) (fits_signed_from_abs w64 r (omega (arith, small)))

-- the sum of the common reward and the first exceptions
abbrev pub sum_until : (ℕ → ℕ) → (ℕ → ℤ) → ℕ → ℕ → CommonReward → List RewardCell → ℕ → ℤ
sum_until w r count scale common cells n =
    pos scale *ℤ common.reward +ℤ total_below (λ k. pos (w k) *ℤ difference_in r common.reward cells n k) count

module _ (answers : ℕ → ℕ → Type 0) (scale : ℕ) (common : CommonReward) (cells : List RewardCell) (w : ℕ → ℕ) (r : ℕ → ℤ) (count b : ℕ)
    (are : AreExcepted answers scale common cells w r count b) where
  abbrev differs : ℕ → ℕ → ℤ
  differs n k = difference_in r common.reward cells n k

  abbrev until : ℕ → ℤ
  until n = sum_until w r count scale common cells n

  difference_le : (k : ℕ) → k < count → unsigned_abs (r k -ℤ common.reward) ≤ b
  difference_le k l = abs-minus (r k) common.reward b (are.limited k l) are.small

  differs_le : (n k : ℕ) → k < count → unsigned_abs (differs n k) ≤ b
  differs_le n k l = grind (arith, cases_difference, difference_le)

  sum_until_le : (n : ℕ) → unsigned_abs (until n) ≤ 2 * most_sum
  sum_until_le n =
      let both : unsigned_abs (until n) ≤ _ = abs-+ℤ (pos scale *ℤ common.reward) (total_below (λ k. pos (w k) *ℤ differs n k) count) in
      omega (
        arith,
        (abs-*ℤ_le (pos scale) common.reward scale b (omega arith) (omega (arith, are.small))),
        part_le are.weighed (differs n)
            (λ k l. differs_le n k l) count (omega arith),
        both,
        are.weighed.room,
      )

  pub sum_until_none : pos scale *ℤ common.reward ≡ until 0
  sum_until_none =
      sym (ap (λ (x : ℤ). pos scale *ℤ common.reward +ℤ x)
      (cc (sum_below_same _ (λ k. pos 0) count (λ k l. *ℤ-zero (pos (w k))), zeros count)) ∙ +ℤ_idr (pos scale *ℤ common.reward))
    where
      zeros : (n : ℕ) → total_below (λ z. pos 0) n ≡ pos 0
      zeros zero = refl
      zeros (suc n) = rw (zeros n) refl

  -- one exception more
  sum_until_more : (i : ℕ) → i < common.exceptions
      → until i +ℤ pos (w (cell_at cells i).observation) *ℤ (r (cell_at cells i).observation -ℤ common.reward) ≡ until (suc i)
  sum_until_more i l =
      let z = (cell_at cells i).observation in
      let here : differs (suc i) z ≡ r z -ℤ common.reward = hit z z _ _ refl in
      let before : differs i z ≡ pos 0 = no_difference r common.reward cells i z (λ k n f. are.rewards.distinct k i n l f) in
      let x = pos (w z) *ℤ (r z -ℤ common.reward) in
      let more = one_term_more (λ y. pos (w y) *ℤ differs i y) (λ y. pos (w y) *ℤ differs (suc i) y) z x count (are.rewards.within i l)
      (λ k n d. ap (λ (y : ℤ). pos (w k) *ℤ y) (miss z k _ _ (λ f. d (sym f))))
      (rw (here, before, *ℤ-zero (pos (w z))) (omega (arith, linear))) in
      rw more (omega (arith, linear))

  -- with all exceptions it is the reward
  pub sum_until_all : until common.exceptions ≡ weighed_total w r count
  sum_until_all =
      let h = common.reward in
      let scaled : pos scale *ℤ h ≡ total_below (λ k. h *ℤ pos (w k)) count =
      *ℤ_comm (pos scale) h ∙ ap (λ (x : ℤ). h *ℤ x) (sym are.weighed.all) ∙ sym (sum_below_scale h (λ k. pos (w k)) count) in
      ap (λ (x : ℤ). x +ℤ total_below (λ k. pos (w k) *ℤ differs common.exceptions k) count) scaled
      ∙ sym (sum_below_add (λ k. h *ℤ pos (w k)) (λ k. pos (w k) *ℤ differs common.exceptions k) count)
      ∙ sum_below_same _ _ count (λ k l. whole k (is_sum k l (cases_difference r h cells common.exceptions k)))
    where
      is_sum : (k : ℕ) → k < count → ((i : ℕ) × (i < common.exceptions) × ((cell_at cells i).observation ≡ k)
          × (differs common.exceptions k ≡ r k -ℤ common.reward))
          ⊎ (((i : ℕ) → i < common.exceptions → (cell_at cells i).observation ≡ k → ⊥) × (differs common.exceptions k ≡ pos 0))
          → common.reward +ℤ differs common.exceptions k ≡ r k
      is_sum k l (inl f) = ap (λ (y : ℤ). common.reward +ℤ y) f.3 ∙ sym (whole_part (r k) common.reward)
      is_sum k l (inr f) = ap (λ (y : ℤ). common.reward +ℤ y) f.1 ∙ +ℤ_idr common.reward ∙ sym (are.rewards.others k l f.0)

      whole : (k : ℕ) → common.reward +ℤ differs common.exceptions k ≡ r k
          → common.reward *ℤ pos (w k) +ℤ pos (w k) *ℤ differs common.exceptions k ≡ pos (w k) *ℤ r k
      whole k f =
          ap (λ (y : ℤ). y +ℤ pos (w k) *ℤ differs common.exceptions k) (*ℤ_comm common.reward (pos (w k)))
          ∙ sym (*ℤ-+ℤ (pos (w k)) common.reward (differs common.exceptions k)) ∙ ap (λ (y : ℤ). pos (w k) *ℤ y) f

  -- ---- the steps in the code
  module _ (fits : FitsSigned w64 common.reward) (i : ℕ) (il : i < common.exceptions) (weight : ℕ)
      (answer : answers (cell_at cells i).observation weight) where
    abbrev pub computed : ℤ
    computed = to_z w128 (of_z w128 (to_z w64 (of_z w64 (cell_at cells i).reward))) -ℤ to_z w128
        (of_z w128 (to_z w64 (of_z w64 common.reward)))

    weight_is : weight ≡ w (cell_at cells i).observation
    weight_is = are.answer _ _ (are.rewards.within i il) answer

    computed_is : computed ≡ r (cell_at cells i).observation -ℤ common.reward
    computed_is = rw (are.rewards.each i il) (difference_is _ _
        (exception_fits _ _ (are.rewards.each i il) (are.limited _ (are.rewards.within i il))) fits)

    pub exception_small : weight < 2 ^ 63
    exception_small = weight_small are.weighed _ weight (are.rewards.within i il) weight_is

    pub exception_room : FitsSigned w128 computed → weight * unsigned_abs (to_z w128 (of_z w128 computed)) ≤ most_sum
    exception_room f =
        rw (to_z-of_z w128 _ f, computed_is) (weight_room are.weighed (cell_at cells i).observation weight
        (r (cell_at cells i).observation -ℤ _) (are.rewards.within i il) weight_is
        (difference_le (cell_at cells i).observation (are.rewards.within i il)))

    -- the sum after one exception more
    pub exception_more : (sum x : ℤ) → FitsSigned w128 x → FitsSigned w128 computed → x ≡ pos weight *ℤ to_z w128 (of_z w128 computed)
        → sum ≡ until i
        → FitsSigned w128 (sum +ℤ to_z w128 (of_z w128 x)) × (to_z w128 (of_z w128 (sum +ℤ to_z w128 (of_z w128 x))) ≡ until (i + 1))
    exception_more sum x fx fd xe before =
        let part = weighed_is weight _ x _ _ fd xe weight_is computed_is in
        rw add-one (add_step sum x _ _ fx (rw (before, part) (sum_until_more i il)) (sum_until_le (suc i))
        (lit< tt))

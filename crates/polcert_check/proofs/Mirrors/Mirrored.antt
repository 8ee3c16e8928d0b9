-- What is so of a controller, and what of its mirror image: each sum of rewards and values is negated, and weights stay.
use Rattle.std.proofs.Common.{◌≡◌, ◌∙◌, ℕ, zero, suc, ◌*◌, ℤ, pos, neg_ℤ, ◌+ℤ◌, ◌*ℤ◌, Option, Some, None, List, [], ◌∷◌, map, flat_map}
use Rattle.std.proofs.Common.{get_or, refl, sym, ap, arith, rules}
use Rattle.std.proofs.Math.IntN.{neg_ℤ-+ℤ}
use Rattle.polcert_check.proofs.Common.{Controller, one, total_below, sum_over, step_weight, pairs, runs, is_cut, run_weight, rewards}
use Rattle.polcert_check.proofs.Common.{end_value, reward_part, total, uncut, weights_sum, worth_sum, rewards_sum, at_node, backing, short}
use Rattle.polcert_check.proofs.Common.{mirrored}
use Rattle.polcert_check.proofs.Sums.Ring.{neg_product}
use Rattle.polcert_check.proofs.Sums.SumLaws.{sum_below_same, sum_over_same}

-- ---- numbers
neg_sum : (x y : ℤ) → neg_ℤ x +ℤ neg_ℤ y ≡ neg_ℤ (x +ℤ y)
neg_sum x y = sym (neg_ℤ-+ℤ x y)

-- ---- sums
pub sum_below_neg : (f : ℕ → ℤ) (n : ℕ) → total_below (λ i. neg_ℤ (f i)) n ≡ neg_ℤ (total_below f n)
sum_below_neg f zero = refl
sum_below_neg f (suc n) = ap (λ x. x +ℤ neg_ℤ (f n)) (sum_below_neg f n) ∙ neg_sum (total_below f n) (f n)

sum_over_neg : {X : Type 0} (f : X → ℤ) (xs : List X) → sum_over (λ x. neg_ℤ (f x)) xs ≡ neg_ℤ (sum_over f xs)
sum_over_neg f [] = refl
sum_over_neg f (x ∷ xs) = ap (λ y. neg_ℤ (f x) +ℤ y) (sum_over_neg f xs) ∙ neg_sum (f x) (sum_over f xs)

get_neg : (xs : List ℤ) (i : ℕ) → get_or (map neg_ℤ xs) i (pos 0) ≡ neg_ℤ (get_or xs i (pos 0))
get_neg [] i = refl
get_neg (x ∷ xs) zero = refl
get_neg (x ∷ xs) (suc i) = get_neg xs i

-- ---- one step
mirrored_step : (c : Controller) (n s e z : ℕ) (at : Option ℕ)
    → at_node (λ m. pos (step_weight c n s e z) *ℤ (pos one *ℤ neg_ℤ (c.cells.r (c.action n) s e z) +ℤ pos c.cells.discount
    *ℤ neg_ℤ (c.value m e))) at
    ≡ neg_ℤ (at_node (λ m. pos (step_weight c n s e z) *ℤ (pos one *ℤ c.cells.r (c.action n) s e z +ℤ pos c.cells.discount *ℤ c.value m e))
    at)
mirrored_step c n s e z None = refl
mirrored_step c n s e z (Some m) = simp (neg_product, neg_sum)

pub mirrored_backing : (c : Controller) (n s : ℕ) → backing (mirrored c) n s ≡ neg_ℤ (backing c n s)
mirrored_backing c n s =
    let term = λ (e z : ℕ). at_node (λ m. pos (step_weight c n s e z)
    *ℤ (pos one *ℤ c.cells.r (c.action n) s e z +ℤ pos c.cells.discount *ℤ c.value m e)) (c.next n z) in
    sum_below_same _ (λ e. neg_ℤ (total_below (term e) c.cells.observations)) c.cells.states
    (λ e _. sum_below_same _ (λ z. neg_ℤ (term e z)) c.cells.observations (λ z _. mirrored_step c n s e z (c.next n z))
    ∙ sum_below_neg (term e) c.cells.observations)
    ∙ sum_below_neg (λ e. total_below (term e) c.cells.observations) c.cells.states

pub mirrored_short : (c : Controller) (n s : ℕ) → short (mirrored c) n s ≡ neg_ℤ (short c n s)
mirrored_short c n s = grind (arith, mirrored_backing)

-- ---- runs
pub mirrored_runs : (c : Controller) (k : ℕ) → runs (mirrored c).cells k ≡ runs c.cells k
mirrored_runs c zero = refl
mirrored_runs c (suc k) = ap (λ rs. flat_map (λ p. map (λ run. p ∷ run) rs) (pairs c.cells)) (mirrored_runs c k)

pub mirrored_cut : (c : Controller) (at : Option ℕ) (run : List (ℕ × ℕ)) → is_cut (mirrored c) at run ≡ is_cut c at run
mirrored_cut c None run = refl
mirrored_cut c (Some n) [] = refl
mirrored_cut c (Some n) (p ∷ run) = mirrored_cut c (c.next n p.1) run

pub mirrored_weight : (c : Controller) (at : Option ℕ) (s : ℕ) (run : List (ℕ × ℕ))
    → run_weight (mirrored c) at s run ≡ run_weight c at s run
mirrored_weight c None s run = refl
mirrored_weight c (Some n) s [] = refl
mirrored_weight c (Some n) s (p ∷ run) = ap (λ w. step_weight c n s p.0 p.1 * w) (mirrored_weight c (c.next n p.1) p.0 run)

mirrored_rewards : (c : Controller) (at : Option ℕ) (s : ℕ) (run : List (ℕ × ℕ))
    → rewards (mirrored c) at s run ≡ map neg_ℤ (rewards c at s run)
mirrored_rewards c None s run = refl
mirrored_rewards c (Some n) s [] = refl
mirrored_rewards c (Some n) s (p ∷ run) = ap (λ rs. neg_ℤ (c.cells.r (c.action n) s p.0 p.1) ∷ rs)
    (mirrored_rewards c (c.next n p.1) p.0 run)

mirrored_end : (c : Controller) (at : Option ℕ) (s : ℕ) (run : List (ℕ × ℕ))
    → end_value (mirrored c) at s run ≡ neg_ℤ (end_value c at s run)
mirrored_end c None s run = refl
mirrored_end c (Some n) s [] = refl
mirrored_end c (Some n) s (p ∷ run) = mirrored_end c (c.next n p.1) p.0 run

mirrored_part : (c : Controller) (k : ℕ) (at : Option ℕ) (s : ℕ) (run : List (ℕ × ℕ))
    → reward_part (mirrored c) k at s run ≡ neg_ℤ (reward_part c k at s run)
mirrored_part c k at s run = search (rules, neg_product, sum_over_neg, get_neg, mirrored_rewards)

mirrored_total : (c : Controller) (k : ℕ) (at : Option ℕ) (s : ℕ) (run : List (ℕ × ℕ))
    → total (mirrored c) k at s run ≡ neg_ℤ (total c k at s run)
mirrored_total c k at s run = search (rules, neg_product, neg_sum, mirrored_end, mirrored_part)

mirrored_uncut : (c : Controller) (k : ℕ) (at : Option ℕ) → uncut (mirrored c) k at ≡ uncut c k at
mirrored_uncut c k at = grind arith

module _ (c : Controller) (k : ℕ) (at : Option ℕ) (s : ℕ) where
  -- ---- sums over the runs
  pub mirrored_weights : weights_sum (mirrored c) k at s ≡ weights_sum c k at s
  mirrored_weights = grind arith

  mirrored_mean : (f g : List (ℕ × ℕ) → ℤ) → ((run : List (ℕ × ℕ)) → f run ≡ neg_ℤ (g run))
      → sum_over (λ run. pos (run_weight (mirrored c) at s run) *ℤ f run) (uncut (mirrored c) k at)
      ≡ neg_ℤ (sum_over (λ run. pos (run_weight c at s run) *ℤ g run) (uncut c k at))
  mirrored_mean f g h =
      ap (sum_over (λ run. pos (run_weight (mirrored c) at s run) *ℤ f run)) (mirrored_uncut c k at)
      ∙ sum_over_same _ _ _
      (λ run. ap (λ w. pos w *ℤ f run) (mirrored_weight c at s run) ∙ ap (λ x. pos (run_weight c at s run) *ℤ x) (h run)
      ∙ neg_product (pos (run_weight c at s run)) (g run))
      ∙ sum_over_neg (λ run. pos (run_weight c at s run) *ℤ g run) (uncut c k at)

  pub mirrored_worth : worth_sum (mirrored c) k at s ≡ neg_ℤ (worth_sum c k at s)
  mirrored_worth = mirrored_mean (total (mirrored c) k at s) (total c k at s) (mirrored_total c k at s)

  pub mirrored_earned : rewards_sum (mirrored c) k at s ≡ neg_ℤ (rewards_sum c k at s)
  mirrored_earned = mirrored_mean (reward_part (mirrored c) k at s) (reward_part c k at s) (mirrored_part c k at s)

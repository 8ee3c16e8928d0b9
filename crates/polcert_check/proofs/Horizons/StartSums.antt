-- The sums over the start: how large they are, their quotient rounded down, and the promise from the start.
use Rattle.std.proofs.Common.{◌≡◌, ℕ, ◌+◌, ◌*◌, ◌^◌, ◌<◌, ◌≤◌, ℤ, pos, ◌+ℤ◌, ◌*ℤ◌, ◌≤ℤ◌, unsigned_abs, FitsSigned, to_z, of_z, w64, Some}
use Rattle.std.proofs.Common.{List, [], ◌∷◌, length, get_or, sum, sym, refl, ap, ◌∙◌, arith, lit<}
use Rattle.polcert_check.proofs.Common.{w128, to_z_pos, fits_signed_from_abs, largest, Meaning, states_of, start_weight, start_total}
use Rattle.polcert_check.proofs.Common.{PolicyVectors, AreProperVectors, value_of, Controller, one, total_below, step_scale, worth_sum}
use Rattle.polcert_check.proofs.Common.{Passes, IsController, start_sum, IsFloorQuotient, IsStartWorth, StartPromise}
use Rattle.std.proofs.lemmas.Int.{to_z-of_z}
use Rattle.polcert_cells.specs.Meaning.{HasLimitedNumbers}
use Rattle.std.specs.Int.{int_div_euclid}
use Rattle.std.proofs.Math.Nat.{div-le_of_le-mul}
use Rattle.std.proofs.Math.Numerals.{add-one}
use Rattle.std.specs.List.{fold}
use Rattle.polcert_check.proofs.Sums.Ring.{*ℤ_assoc, *ℤ_left_comm, mul_le, ≤ℤ_trans, ≤ℤ_from_eq}
use Rattle.polcert_check.proofs.Sums.SumLaws.{sum_below_front, sum_below_le, sum_below_scale}
use Rattle.polcert_check.proofs.Horizons.Kept.{worth_all}
use Rattle.polcert_check.proofs.Horizons.Cuts.{promise_all}
use Rattle.polcert_check.proofs.Sums.Bounds.{abs-*ℤ_le, abs_part_le, fits_128}
use Rattle.polcert_check.proofs.Certificates.{value_is_within}

-- ---- the shares
sum_more : (a : ℕ) (xs : List ℕ) → fold ◌+◌ a xs ≡ a + sum xs
sum_more a [] = omega arith
sum_more a (x ∷ xs) = omega (arith, sum_more (a + x) xs, sum_more (0 + x) xs)

shares_sum : (xs : List ℕ) → total_below (λ s. pos (get_or xs s 0)) (length xs) ≡ pos (sum xs)
shares_sum [] = refl
shares_sum (x ∷ xs) =
    (sum_below_front (λ s. pos (get_or (x ∷ xs) s 0)) (length xs)) ∙ ap (λ (r : ℤ). pos x +ℤ r) (shares_sum xs)
    ∙ ap (λ (k : ℕ). pos k) (omega (arith, sum_more (0 + x) xs))

pub start_row : (m : Meaning) → HasLimitedNumbers m → total_below (λ s. pos (start_weight m s)) (states_of m) ≡ pos (start_total m)
start_row m limits =
    rw limits.start_count at (shares_sum m.start.weights ∙ ap (λ k. pos k) limits.start_sum)

-- ---- one term
pub value_fits : (value : ℤ) → unsigned_abs value ≤ largest → FitsSigned w128 value
value_fits value small = fits_128 value largest small (lit< tt)

pub term_small : (share : ℕ) (value : ℤ) → unsigned_abs value ≤ largest → unsigned_abs (pos share *ℤ value) ≤ share * largest
term_small share value small = abs-*ℤ_le (pos share) value share _ (omega arith) small

-- ---- the sum
pub start_part_le : (m : Meaning) (v : PolicyVectors) → HasLimitedNumbers m → AreProperVectors v → v.states ≡ states_of m → (n i : ℕ)
    → n < v.nodes → i ≤ states_of m → unsigned_abs (total_below (λ s. pos (start_weight m s) *ℤ value_of v n s) i) ≤ start_total m * largest
start_part_le m v limits proper same n i nl il =
    abs_part_le _ _ _ i _ _
    (start_row m limits) il
    (λ s sl. term_small _ (value_of v n s) (value_is_within v proper n s nl (omega (arith, sl, same))))

pub start_fits : (total : ℕ) (x : ℤ) → total ≤ 1000000 → unsigned_abs x ≤ total * largest → FitsSigned w128 x
start_fits total x few small = grind arith

-- the code's sum takes one more term
pub start_step : (m : Meaning) (v : PolicyVectors) → HasLimitedNumbers m → AreProperVectors v → v.states ≡ states_of m
    → (n s share : ℕ) (value x total : ℤ) → n < v.nodes → s < states_of m → share ≡ start_weight m s → value ≡ value_of v n s
    → FitsSigned w64 value → FitsSigned w128 x → x ≡ pos share *ℤ to_z w64 (of_z w64 value)
    → total ≡ total_below (λ i. pos (start_weight m i) *ℤ value_of v n i) s → FitsSigned w128 (total +ℤ to_z w128 (of_z w128 x))
    × (to_z w128 (of_z w128 (total +ℤ to_z w128 (of_z w128 x))) ≡ total_below (λ i. pos (start_weight m i) *ℤ value_of v n i) (s + 1))
start_step m v limits proper same n s share value x total nl sl share_is value_is fv fx x_is before =
    let here : to_z w128 (of_z w128 x) ≡ pos (start_weight m s) *ℤ value_of v n s = to_z-of_z w128 x fx ∙ x_is
    ∙ rw (to_z-of_z w64 value fv, share_is, value_is) refl in
    let next : total +ℤ to_z w128 (of_z w128 x) ≡ total_below (λ i. pos (start_weight m i) *ℤ value_of v n i) (s + 1) =
    rw add-one (rw (before, here) refl) in
    grind (arith, to_z, of_z, to_z-of_z, start_part_le, start_fits)

module _ (a : ℤ) (k : ℕ) where
  -- ---- the quotient
  pub floor_is : 0 < k → IsFloorQuotient a k (int_div_euclid a (pos k))
  floor_is h1 = grind arith

  pub floor_small : (m : ℕ) → 0 < k → unsigned_abs a ≤ k * m → unsigned_abs (int_div_euclid a (pos k)) ≤ m
  floor_small m h1 h2 = grind (arith, div-le_of_le-mul)

  -- the code's quotient, which is cast to 64 bits
  pub floor_back : (q : ℤ) → 0 < k → k ≤ 1000000 → unsigned_abs a ≤ k * largest → FitsSigned w128 a
      → q ≡ int_div_euclid (to_z w128 (of_z w128 a)) (to_z w128 k)
      → IsFloorQuotient a k (to_z w64 (of_z w64 (to_z w128 (of_z w128 q))))
      × (unsigned_abs (to_z w64 (of_z w64 (to_z w128 (of_z w128 q)))) ≤ largest)
  floor_back q some few small fa is =
      let same : q ≡ int_div_euclid a (pos k) = rw (to_z-of_z w128 a fa, to_z_pos w128 k (omega arith)) at is in
      let small_q : unsigned_abs q ≤ largest = rw same (floor_small largest some small) in
      rw (to_z-of_z w128 q (value_fits q small_q), to_z-of_z w64 q (fits_signed_from_abs w64 q (omega (arith, small_q))))
      (rw same (floor_is some), small_q)

-- the quotient as it is returned
pub worth_is : (m : Meaning) (v : PolicyVectors) (n total : ℕ) (x q : ℤ) → FitsSigned w128 x → x ≡ start_sum m v n → total ≡ start_total m
    → FitsSigned w64 q → IsFloorQuotient (to_z w128 (of_z w128 x)) total q → IsStartWorth m v n (to_z w64 (of_z w64 q))
worth_is m v n total x q fx x_is total_is fq floor = grind (arith, to_z-of_z)

-- ---- the promise
-- x times a bound on the mean of the values, where each state earns at least x times its value
pub mean_le : (start : ℕ → ℕ) (total x n : ℕ) (worth : ℤ) (value earned : ℕ → ℤ)
    → (pos total *ℤ worth) ≤ℤ total_below (λ s. pos (start s) *ℤ value s) n → ((s : ℕ) → s < n → (pos x *ℤ value s) ≤ℤ earned s)
    → (pos (total * x) *ℤ worth) ≤ℤ total_below (λ s. pos (start s) *ℤ earned s) n
mean_le start total x n worth value earned mean each =
    ≤ℤ_trans _ _ _ (≤ℤ_from_eq _ _ (*ℤ_assoc (pos total) (pos x) worth ∙ *ℤ_left_comm (pos total) (pos x) worth))
    (≤ℤ_trans _ _ _ (mul_le x _ _ mean) (≤ℤ_trans _ _ _ (≤ℤ_from_eq _ _ (sym (sum_below_scale (pos x) _ n)))
    (sum_below_le _ _ n (λ s sl. ≤ℤ_trans _ _ _ (≤ℤ_from_eq _ _ (*ℤ_left_comm (pos x) (pos (start s)) (value s)))
    (mul_le (start s) _ _ (each s sl))))))

-- `worth` is at most the start-weighted mean of the values of n
pub start_all : (c : Controller) → IsController c → Passes c → (start : ℕ → ℕ) (start_total : ℕ) (worth : ℤ) (n : ℕ) → n < c.nodes
    → (pos start_total *ℤ worth) ≤ℤ total_below (λ s. pos (start s) *ℤ c.value n s) c.cells.states → (k : ℕ)
    → (pos (start_total * (step_scale c ^ k * one ^ k)) *ℤ worth) ≤ℤ total_below (λ s. pos (start s) *ℤ worth_sum c k (Some n) s)
    c.cells.states
start_all c p passes start start_total worth n nl mean k =
    mean_le start start_total (step_scale c ^ k * one ^ k) c.cells.states worth (c.value n) (worth_sum c k (Some n)) mean
    (λ s sl. worth_all c p passes k n s nl sl)

pub start_promise : (m : Meaning) (c : Controller) → c.cells.states ≡ states_of m → IsController c → Passes c → (n : ℕ) (worth : ℤ)
    → n < c.nodes → IsFloorQuotient (total_below (λ s. pos (start_weight m s) *ℤ c.value n s) (states_of m)) (start_total m) worth → (k : ℕ)
    → StartPromise m c k n worth
start_promise m c same proper passes n worth nl floor k =
    record {
      cut_runs = λ s sl some. (promise_all c proper passes k n s nl sl).cut_runs;
      uncut_runs = start_all c proper passes (start_weight m) (start_total m) worth n nl (rw (sym same) at floor.0) k;
    }

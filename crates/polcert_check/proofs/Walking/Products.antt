-- Rows that are numbers times a scale, added up before they are scaled.
use Rattle.std.proofs.Common.{◌≡◌, ℕ, zero, suc, ◌+◌, ◌*◌, ◌^◌, ◌<◌, ◌≤◌, ⊎_elim, ℤ, pos, ◌+ℤ◌, ◌*ℤ◌, unsigned_abs, FitsSigned, to_z, of_z}
use Rattle.std.proofs.Common.{Option, Some, None, List, length, slice_index, refl, sym, ap, subst, ◌∙◌, arith, add-one, w64}
use Rattle.polcert_check.proofs.Common.{w128, cases_lt, unsigned_abs-mul, *ℤ-zero, zero-*ℤ, IsRow, Controller, total_below, at_node}
use Rattle.polcert_check.proofs.Common.{fits_signed_from_abs, largest, value_term, factored_value_at_end, IsLeastOf, Misses}
use Rattle.polcert_check.proofs.Common.{successors_below}
use Rattle.polcert_cells.specs.Sparse.{scaled_cells}
use Rattle.std.proofs.lemmas.List.{get_or_past}
use Rattle.std.proofs.Math.Nat.{mul_comm, mul-le-mul}
use Rattle.std.proofs.lemmas.Int.{to_z-of_z}
use Rattle.polcert_cells.specs.Elements.{most_elements}
use Rattle.polcert_cells.proofs.ScaledRows.{scaled_weight}
use Rattle.polcert_check.proofs.Sums.Bounds.{abs-+ℤ}
use Rattle.polcert_check.proofs.Sums.Gaps.{gap, no_weight, add_step}
use Rattle.polcert_check.proofs.Sums.Ring.{*ℤ_assoc}
use Rattle.polcert_check.proofs.Sums.SumLaws.{sum_below_same, sum_below_scale}
use Rattle.polcert_check.proofs.Walking.Expecting.{no_value}

-- ---- one term

scaled_term : (n scale : ℕ) (x : ℤ) → pos scale *ℤ (pos n *ℤ x) ≡ pos (n * scale) *ℤ x
scaled_term n scale x = sym (*ℤ_assoc (pos scale) (pos n) x) ∙ ap (λ k. pos k *ℤ x) (mul_comm scale n)

-- what has no weight may be any number
pub same_if_some : (w : ℕ) (x y : ℤ) → (0 < w → x ≡ y) → pos w *ℤ x ≡ pos w *ℤ y
same_if_some zero x y h = zero-*ℤ x ∙ sym (zero-*ℤ y)
same_if_some (suc w) x y h = ap (λ t. pos (suc w) *ℤ t) (h (omega arith))

scaled_successor : (n scale : ℕ) (v : ℕ → ℤ) (at : Option ℕ)
    → pos scale *ℤ at_node (λ m. pos n *ℤ v m) at ≡ at_node (λ m. pos (n * scale) *ℤ v m) at
scaled_successor n scale v None = *ℤ-zero (pos scale)
scaled_successor n scale v (Some m) = scaled_term n scale (v m)

-- ---- a row of numbers

module _ (f : ℕ → ℕ) (count scale : ℕ) (ns : List ℕ) (row : IsRow count f (scaled_cells scale 0 ns)) where
  pub weight_of_number : (c : ℕ) → c < count → slice_index ns c * scale ≡ f c
  weight_of_number c l = sym (scaled_weight scale ns c) ∙ row.each c l

  pub none_after : (upto c : ℕ) → (upto < count → length ns ≤ upto) → upto ≤ c → c < count → f c ≡ 0
  none_after upto c all from l =
      let past = all (omega arith) in
      let none = get_or_past ns c 0 (omega arith) in
      sym (weight_of_number c l) ∙ ap (λ (n : ℕ). n * scale) none ∙ (omega arith)

  -- the sum of numbers times values, scaled, is the sum of weights times values
  pub scaled_total : (v g : ℕ → ℤ) (upto : ℕ) → ((c : ℕ) → c < count → 0 < f c → v c ≡ g c) → upto ≤ count
      → (upto < count → length ns ≤ upto)
      → pos scale *ℤ total_below (λ i. pos (slice_index ns i) *ℤ v i) upto ≡ total_below (λ i. pos (f i) *ℤ g i) count
  scaled_total v g upto same within all =
      sym (sum_below_scale (pos scale) _ upto)
      ∙ sum_below_same _ _ upto each
      ∙ sym (gap (λ i. pos (f i) *ℤ g i) upto count within (λ k from l. no_weight (f k) (g k) (none_after upto k all from l)))
    where
      each : (i : ℕ) → i < upto → pos scale *ℤ (pos (slice_index ns i) *ℤ v i) ≡ pos (f i) *ℤ g i
      each i l =
          scaled_term (slice_index ns i) scale (v i) ∙ ap (λ (w : ℕ). pos w *ℤ v i) (weight_of_number i (omega arith))
          ∙ same_if_some (f i) (v i) (g i) (same i (omega arith))

-- ---- a row of O

module _ (c : Controller) (n e scale : ℕ) (ns : List ℕ)
    (row : IsRow c.cells.observations (c.cells.o (c.action n) e) (scaled_cells scale 0 ns)) where
  pub scaled_value : (upto : ℕ) → upto ≤ c.cells.observations → (upto < c.cells.observations → length ns ≤ upto)
      → pos scale *ℤ successors_below c n e ns upto ≡ factored_value_at_end c n e
  scaled_value upto within all =
      sym (sum_below_scale (pos scale) _ upto)
      ∙ sum_below_same _
      _ upto each
      ∙ sym (gap (λ z. value_term c n e z (c.next n z)) upto c.cells.observations within
      (λ k from l. no_value c n e k (c.next n k) (none_after _ _ scale ns row upto k all from
      l)))
    where
      each : (z : ℕ) → z < upto → pos scale *ℤ at_node (λ m. pos (slice_index ns z) *ℤ c.value m e) (c.next n z)
          ≡ value_term c n e z (c.next n z)
      each z l =
          scaled_successor (slice_index ns z) scale (λ m. c.value m e) (c.next n z)
          ∙ ap (λ (w : ℕ). at_node (λ m. pos w *ℤ c.value m e) (c.next n z))
          (weight_of_number (c.cells.o (c.action n) e) c.cells.observations scale ns row z (omega arith))

  -- one observation more for which a successor is not missed
  pub none_more : (z : ℕ) → z < c.cells.observations → (c.next n z ≡ None → slice_index ns z ≡ 0) → IsLeastOf (Misses c n e z) None
      → IsLeastOf (Misses c n e (z + 1)) None
  none_more z l here before = λ y missed. ⊎_elim
      (λ less. before y (less, missed.1, missed.2))
      (λ ge.
      let is : y ≡ z = let low = missed.0 in omega arith in
      let number = here (ap (c.next n) (sym is) ∙ missed.1) in
      let zero : 0 * scale ≡ 0 = omega arith in
      let none : c.cells.o (c.action n) e z ≡ 0 = sym (weight_of_number _ _ scale ns row z l)
      ∙ ap (λ k. k * scale) number ∙ zero in
      let some = missed.2 in
      let same = ap (c.cells.o (c.action n) e) is in
      absurd (omega arith))
      (cases_lt y z)

  -- no observation after the numbers
  pub none_at_all : (upto : ℕ) → (upto < c.cells.observations → length ns ≤ upto) → IsLeastOf (Misses c n e upto) None
      → IsLeastOf (Misses c n e c.cells.observations) None
  none_at_all upto all before = λ y missed. ⊎_elim
      (λ less. before y (less, missed.1, missed.2))
      (λ ge.
      let none = none_after _ _ scale ns row upto y all ge
      missed.0 in
      let some = missed.2 in
      absurd (omega arith))
      (cases_lt y upto)

-- ---- the scaled sum

pub scaled_room : (scale : ℕ) (sum total : ℤ) (b : ℕ) → pos scale *ℤ sum ≡ total → unsigned_abs total ≤ b → scale * unsigned_abs sum ≤ b
scaled_room scale sum total b is le =
    let same : unsigned_abs (pos scale *ℤ sum) ≡ unsigned_abs total = ap (λ (x : ℤ). unsigned_abs x) is in
    omega (arith, (unsigned_abs-mul (pos scale) sum), same, le)

-- ---- one product more

pub product_small : (n : ℕ) (v : ℤ) → n < 2 ^ 32 → unsigned_abs v ≤ 2 ^ 63 → n * unsigned_abs v ≤ 2 ^ 95
product_small n v few small =
    let most : n ≤ 2 ^ 32 = omega (arith, few) in
    omega (arith, (mul-le-mul most small))

pub product_more : (f : ℕ → ℤ) (i : ℕ) (sum x : ℤ) → sum ≡ total_below f i → unsigned_abs sum ≤ i * 2 ^ 95 → i < 2 ^ 20 → FitsSigned w128 x
    → x ≡ f i → unsigned_abs x ≤ 2 ^ 95
    → FitsSigned w128 (sum +ℤ to_z w128 (of_z w128 x)) × (to_z w128 (of_z w128 (sum +ℤ to_z w128 (of_z w128 x))) ≡ total_below f (i + 1))
    × (unsigned_abs (to_z w128 (of_z w128 (sum +ℤ to_z w128 (of_z w128 x)))) ≤ (i + 1) * 2 ^ 95)
product_more f i sum x before small few fits is le =
    let next : sum +ℤ x ≡ total_below f (suc i) = rw (before, is) refl in
    let bound : unsigned_abs (total_below f (suc i)) ≤ (i + 1) * 2 ^ 95 =
    subst (λ (t : ℤ). unsigned_abs t ≤ (i + 1) * 2 ^ 95) next (omega (arith, (abs-+ℤ sum x), small, le)) in
    let step = add_step sum x (total_below f (suc i)) ((i + 1) * 2 ^ 95) fits next bound (omega (arith, few)) in
    (step.0, rw add-one step.1, subst (λ (t : ℤ). unsigned_abs t ≤ (i + 1) * 2 ^ 95) (sym step.1) bound)

-- numbers that are rewards, in 64 bits
pub number_more : (f : ℕ → ℤ) (i : ℕ) (sum x : ℤ) → i < most_elements → sum ≡ total_below f i → unsigned_abs sum ≤ i * largest
    → FitsSigned w64 x → x ≡ f i → unsigned_abs x ≤ largest
    → FitsSigned w64 (sum +ℤ to_z w64 (of_z w64 x)) × (to_z w64 (of_z w64 (sum +ℤ to_z w64 (of_z w64 x))) ≡ total_below f (i + 1))
    × (unsigned_abs (to_z w64 (of_z w64 (sum +ℤ to_z w64 (of_z w64 x)))) ≤ (i + 1) * largest)
number_more f i sum x few before small fits is le =
    let back : to_z w64 (of_z w64 x) ≡ x = to_z-of_z w64 x fits in
    let next : sum +ℤ x ≡ total_below f (suc i) = rw (before, is) refl in
    let both : unsigned_abs (sum +ℤ x) ≤ unsigned_abs sum + unsigned_abs x = abs-+ℤ sum x in
    let bound : unsigned_abs (sum +ℤ x) ≤ (i + 1) * largest = omega (arith, both, small, le) in
    let whole : FitsSigned w64 (sum +ℤ x) = fits_signed_from_abs w64 (sum +ℤ x) (omega (arith, bound, few)) in
    rw (back, to_z-of_z w64 (sum +ℤ x) whole) (whole, rw add-one next, bound)

-- Numbers compared by their upper bits.
use Rattle.polcert_check.proofs.Common.{one, fits_signed_from_abs}
use Rattle.std.proofs.Common.{◌≡◌, ℕ, ◌+◌, ◌*◌, ◌^◌, ◌≤◌, ℤ, pos, ◌+ℤ◌, ◌-ℤ◌, ◌*ℤ◌, ◌<ℤ◌, ◌≤ℤ◌, neg_ℤ, unsigned_abs, FitsSigned, IsTrue}
use Rattle.std.proofs.Common.{to_z, of_z, w64, ap, refl, arith}
use Rattle.std.specs.Int.Signed.{le_z}
use Rattle.std.proofs.lemmas.Int.{to_z-of_z}
use Rattle.polcert_check.proofs.Sums.Amounts.{scaled_is}
use Rattle.polcert_check.proofs.Sums.Bounds.{abs-*ℤ_le, abs-+ℤ}
use Rattle.polcert_check.proofs.Sums.Ring.{linear, mul_le, sub_add_cancel, *ℤ-+ℤ, *ℤ_left_comm}

-- a product of a weight fits
pub product_fits : (w : ℕ) (x : ℤ) → w ≤ 1000000 → unsigned_abs x ≤ 2 ^ 43 + 1 → FitsSigned w64 (pos w *ℤ x)
product_fits w x wl xl =
    let le : unsigned_abs (pos w *ℤ x) ≤ 1000000 * (2 ^ 43 + 1) = abs-*ℤ_le (pos w) x 1000000 (2 ^ 43 + 1) wl xl in
    fits_signed_from_abs w64 (pos w *ℤ x) (omega (arith, le))

-- w times x is at most v times y if that is so of their upper bits, rounded up and down
pub by_upper_bits : (w v : ℕ) (x y h k : ℤ) → x <ℤ (pos (2 ^ 64) *ℤ (h +ℤ pos 1)) → (pos (2 ^ 64) *ℤ k) ≤ℤ y
    → (pos w *ℤ (h +ℤ pos 1)) ≤ℤ (pos v *ℤ k) → (pos w *ℤ x) ≤ℤ (pos v *ℤ y)
by_upper_bits w v x y h k above below le =
    let first = mul_le w x (pos (2 ^ 64) *ℤ (h +ℤ pos 1)) (omega (arith, linear, above)) in
    let last = mul_le v (pos (2 ^ 64) *ℤ k) y below in
    let middle = mul_le (2 ^ 64) (pos w *ℤ (h +ℤ pos 1)) (pos v *ℤ k) le in
    omega (arith, linear, first, last, middle, *ℤ_left_comm (pos w) (pos (2 ^ 64)) (h +ℤ pos 1), *ℤ_left_comm (pos v) (pos (2 ^ 64)) k)

-- how far a value is above what backs it, by how far it is above the reward
pub by_lead : (q d : ℕ) (v r e : ℤ) → pos (q * one) *ℤ v -ℤ (pos one *ℤ r +ℤ pos d *ℤ e) ≡ pos 1000000 *ℤ (pos q *ℤ v -ℤ r) -ℤ pos d *ℤ e
unfolding one
by_lead q d v r e = at (pos q *ℤ v) (pos (q * one) *ℤ v) (pos d *ℤ e) r (scaled_is q v (pos q *ℤ v) (pos 1000000 *ℤ (pos q *ℤ v)) refl refl)
  where
    at : (x y z r : ℤ) → pos 1000000 *ℤ x ≡ y → y -ℤ (pos 1000000 *ℤ r +ℤ z) ≡ pos 1000000 *ℤ (x -ℤ r) -ℤ z
    at x y z r scaled = omega (arith, linear, scaled, *ℤ-+ℤ (pos 1000000) (x -ℤ r) r, ap (λ (t : ℤ). pos 1000000 *ℤ t) (sub_add_cancel x r))

-- a test that passed
le_from : (a b : ℤ) → IsTrue (le_z a b) → a ≤ℤ b
le_from a b t = record { le = rw t tt }

-- two products compared in 64 bits
pub product_le : (w v : ℕ) (x y : ℤ) → w ≤ 1000000 → v ≤ 1000000 → unsigned_abs x ≤ 2 ^ 43 + 1 → unsigned_abs y ≤ 2 ^ 43 + 1
    → IsTrue (le_z (to_z w64 (of_z w64 (pos w *ℤ x))) (to_z w64 (of_z w64 (pos v *ℤ y)))) → (pos w *ℤ x) ≤ℤ (pos v *ℤ y)
product_le w v x y wl vl xl yl test =
    le_from (pos w *ℤ x) (pos v *ℤ y) (rw (
      to_z-of_z w64 (pos w *ℤ x) (product_fits w x wl xl),
      to_z-of_z w64 (pos v *ℤ y)
          (product_fits v y vl yl),
    ) at test)

-- one more than a number of 43 bits
pub one_more : (x : ℤ) → unsigned_abs x ≤ 2 ^ 43 → to_z w64 (of_z w64 (to_z w64 (of_z w64 x) +ℤ pos 1)) ≡ x +ℤ pos 1
one_more x small =
    let same : to_z w64 (of_z w64 x) ≡ x = to_z-of_z w64 x (fits_signed_from_abs w64 x (omega (arith, small))) in
    let le : unsigned_abs (x +ℤ pos 1) ≤ unsigned_abs x + 1 = abs-+ℤ x (pos 1) in
    rw same (to_z-of_z w64 (x +ℤ pos 1) (fits_signed_from_abs w64 (x +ℤ pos 1) (omega (arith, small, le))))

pub below_zero : (a b x : ℤ) → x ≡ a -ℤ b → a ≤ℤ b → x ≤ℤ pos 0
below_zero a b x is le = rw is (omega (arith, linear, le))

pub above_zero : (a b x : ℤ) → x ≡ a -ℤ b → b ≤ℤ a → neg_ℤ x ≤ℤ pos 0
above_zero a b x is le = rw is (omega (arith, linear, le))

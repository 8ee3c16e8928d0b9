-- Levels, the rows of their ends, and the worst row that lies between two of them.
use Rattle.std.proofs.Common.{◌≡◌, ℕ, ◌+◌, ◌-◌, ◌*◌, ◌<◌, ◌≤◌, ◌⊎◌, ⊎_elim, ℤ, pos, ◌+ℤ◌, ◌-ℤ◌, ◌*ℤ◌, ◌≤ℤ◌, ◌<ℤ◌, ◌^◌, FitsSigned, to_z}
use Rattle.std.proofs.Common.{of_z, int_le, Option, Some, None, IfSome, true, false, unsigned_abs, refl, sym, ap, ◌∙◌, arith}
use Rattle.std.proofs.lemmas.Int.{by_lt_z, to_z-of_z}
use Rattle.std.proofs.Math.Nat.{mul-le-mul_left}
use mir.Syntax.{w128}
use Rattle.polcert_check.proofs.Sums.Bounds.{abs-+ℤ, fits_128}
use Rattle.std.proofs.Math.IntN.{*ℤ-zero}
use Rattle.polcert_cells.specs.Meaning.{sum_below}
use Rattle.polcert_check.proofs.Sums.Ring.{linear}
use Rattle.polcert_check.proofs.Sums.SumLaws.{sum_below_same}
use Rattle.polcert_robust.specs.Intervals.{low_of, high_of}
use Rattle.polcert_robust.specs.Worst.{IsWorstRow, mean}
use Rattle.polcert_robust.specs.Steps.Rows.{AreLevels, end_until, ends_until, level_mean}
use Rattle.polcert_robust.proofs.Exactly.{high_ge, ends_ordered}
use Rattle.polcert_robust.proofs.Found.{found, sum_le}
use Rattle.polcert_robust.proofs.Rows.{centered, pos_sum}
use Rattle.polcert_robust.specs.declared.distance.Spread.{Spread}

-- ---- one end
pub end_at_most : (by : Spread) (level : ℤ) (w : ℕ) (v : ℤ) → v ≤ℤ level → end_until by level w v ≡ high_of by w
end_at_most by level w v h = let e : int_le v level ≡ true = grind arith in rw e refl

pub end_above : (by : Spread) (level : ℤ) (w : ℕ) (v : ℤ) → level <ℤ v → end_until by level w v ≡ low_of by w
end_above by level w v h = let e : int_le v level ≡ false = grind arith in rw e refl

end_from : (by : Spread) (level : ℤ) (w : ℕ) (v : ℤ) → low_of by w ≤ end_until by level w v
end_from by level w v =
    by_lt_z level v
    (λ l. omega (arith, end_above by level w v l))
    (λ l. omega (arith, end_at_most by level w v l, ends_ordered by w))

end_to : (by : Spread) (level : ℤ) (w : ℕ) (v : ℤ) → end_until by level w v ≤ high_of by w
end_to by level w v =
    by_lt_z level v
    (λ l. omega (arith, end_above by level w v l, ends_ordered by w))
    (λ l. omega (arith, end_at_most by level w v l))

-- ---- below all values, and at least at all
pub sum_below_all : (by : Spread) (count : ℕ) (level : ℤ) (f : ℕ → ℕ) (x : ℕ → ℤ) → ((i : ℕ) → i < count → level <ℤ x i)
    → sum_below (ends_until by level f x) count ≤ sum_below f count
sum_below_all by count level f x h = sum_le _ f count (λ i l. omega (arith, end_above by level (f i) (x i) (h i l)))

pub sum_above_all : (by : Spread) (count : ℕ) (level : ℤ) (f : ℕ → ℕ) (x : ℕ → ℤ) → ((i : ℕ) → i < count → x i ≤ℤ level)
    → sum_below f count ≤ sum_below (ends_until by level f x) count
sum_above_all by count level f x h = sum_le f _ count (λ i l. omega (arith, end_at_most by level (f i) (x i) (h i l), high_ge by (f i)))

-- ---- the worst row
module _ (by : Spread) (scale count : ℕ) (f : ℕ → ℕ) (x : ℕ → ℤ) (low high : ℤ) (are : AreLevels by scale count f x low high) where
  abbrev pub lower : ℕ → ℕ
  lower = ends_until by low f x

  abbrev pub upper : ℕ → ℕ
  upper = ends_until by high f x

  pub filled : (row : ℕ → ℕ) × IsWorstRow lower upper scale count (λ i. pos 0) row
  filled = found lower upper scale count _ (λ i l. by_lt_z low (x i)
      (λ l. omega (arith, end_above by low (f i) (x i) l, end_from by high (f i) (x i)))
      (λ l. omega (arith, end_at_most by low (f i) (x i) l, end_at_most by high (f i) (x i) (omega (arith, linear))))) are.from are.to

  abbrev pub level_row : ℕ → ℕ
  level_row = filled.0

  -- where the value is not that of the higher level, both rows have the same end
  at_high_end : (i : ℕ) → i < count → x i <ℤ high → (level_row i ≡ high_of by (f i)) × (lower i ≡ high_of by (f i))
  at_high_end i l less =
      let e = end_at_most by low (f i) (x i) (⊎_elim (λ (h : x i ≤ℤ low). h) (λ (h : high ≤ℤ x i). absurd (omega (arith, linear)))
      (are.between i l)) in
      (omega (arith, e, filled.1.from i l, filled.1.to i l, end_to by high (f i) (x i)), e)

  at_low_end : (i : ℕ) → i < count → high <ℤ x i → (level_row i ≡ low_of by (f i)) × (lower i ≡ low_of by (f i))
  at_low_end i l less =
      let d : lower i ≡ low_of by (f i) = grind arith in
      (omega (arith, d, end_above by high (f i) (x i) less, filled.1.from i l, filled.1.to i l), d)

  pub level_row_is_worst : IsWorstRow (λ j. low_of by (f j)) (λ j. high_of by (f j)) scale count x level_row
  level_row_is_worst = record {
    sums = filled.1.sums;
    from = λ i l. omega (arith, filled.1.from i l, end_from by low (f i) (x i));
    to = λ i l. omega (arith, filled.1.to i l, end_to by high (f i) (x i));
    level = high;
    below = λ i l less. (at_high_end i l less).0;
    above = λ i l less. (at_low_end i l less).0;
  }

  same_weight : (a b : ℕ) (y : ℤ) → a ≡ b → pos a *ℤ y ≡ pos b *ℤ y
  same_weight a b y e = rw e refl

  nothing : (a b : ℕ) (y : ℤ) → y ≡ pos 0 → pos a *ℤ y ≡ pos b *ℤ y
  nothing a b y e = rw e (*ℤ-zero (pos a) ∙ sym (*ℤ-zero (pos b)))

  left_over : (total sum : ℕ) (m m' h : ℤ) → sum ≤ total → m -ℤ pos total *ℤ h ≡ m' -ℤ pos sum *ℤ h → m' +ℤ pos (total - sum) *ℤ h ≡ m
  left_over total sum m m' h le e = omega (arith, linear, e, times_sum total sum h le)
    where
      times_sum : (a b : ℕ) (y : ℤ) → b ≤ a → pos a *ℤ y ≡ pos b *ℤ y +ℤ pos (a - b) *ℤ y
      times_sum a b y l = ap (λ (k : ℕ). pos k *ℤ y) (omega arith) ∙ pos_sum b (a - b) y

  pub level_mean_is : level_mean by scale count f x low high ≡ mean level_row x count
  level_mean_is =
      left_over scale _ _ _ high are.from
      (ap (λ (k : ℕ). mean level_row x count -ℤ pos k *ℤ high) (sym filled.1.sums)
      ∙ sym (centered _ x high count)
      ∙ sum_below_same _ _ count (λ i l. by_lt_z (x i) high
      (λ less. let both = at_high_end i l less in same_weight _ _ _ (both.0 ∙ sym both.1))
      (λ at_least. by_lt_z high (x i) (λ less. let both = at_low_end i l less in same_weight _ _ _ (both.0 ∙ sym both.1))
      (λ at_most. nothing _ _ (x i -ℤ high) (omega (arith, linear)))))
      ∙ centered lower x high count)

-- ---- a value between two levels
pub chosen_some : (low high v : ℤ) (found r : Option ℤ) → (low <ℤ v) × (v <ℤ high) → IfSome found (λ u. (low <ℤ u) × (u <ℤ high))
    → (r ≡ Some v) ⊎ ((r ≡ found) × (found ≡ None → ⊥))
    → IfSome r (λ u. (low <ℤ u) × (u <ℤ high))
chosen_some low high v found r here before is =
    ⊎_elim
    (λ (e : r ≡ Some v). rw e here)
    (λ (e : _ × (found ≡ None → ⊥)). rw e.0 before)
    is

pub chosen_is_some : (v : ℤ) (found r : Option ℤ) → (r ≡ Some v) ⊎ ((r ≡ found) × (found ≡ None → ⊥)) → r ≡ None → ⊥
chosen_is_some v found r is none = grind arith

-- ---- in 128 bits
pub less_times : (a b k : ℕ) → a ≤ b → a * k ≤ b * k
less_times a b k l = omega (arith, mul-le-mul_left k l)

pub two_small : (a b : ℤ) (sum left scale bound : ℕ) → unsigned_abs a ≤ sum * bound → unsigned_abs b ≤ left * bound → sum + left ≡ scale
    → unsigned_abs (a +ℤ b) ≤ scale * bound
two_small a b sum left scale bound h k is = omega (arith, abs-+ℤ a b, h, k, ap (λ (j : ℕ). j * bound) is)
  where
    parts : (u v w : ℕ) → (u + v) * w ≡ u * w + v * w
    parts u v w = omega arith

pub two_fit : (a b : ℤ) (m : ℕ) → FitsSigned w128 a → FitsSigned w128 b → unsigned_abs (a +ℤ b) ≤ m → m < 2 ^ 127
    → FitsSigned w128 (to_z w128 (of_z w128 a) +ℤ to_z w128 (of_z w128 b))
    × (to_z w128 (of_z w128 (to_z w128 (of_z w128 a) +ℤ to_z w128 (of_z w128 b))) ≡ a +ℤ b)
two_fit a b m fa fb small fits =
    rw (to_z-of_z w128 a fa, to_z-of_z w128 b fb) (fits_128 _ m small fits, to_z-of_z w128 _ (fits_128 _ m small fits))

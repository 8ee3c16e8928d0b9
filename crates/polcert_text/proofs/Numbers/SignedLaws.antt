-- A sign and a size as a whole number.
use Rattle.std.proofs.Common.{◌≡◌, ◌∙◌, ℕ, suc, ◌+◌, ◌*◌, ◌/◌, ◌<◌, ◌≤◌, Bool, true, false, not, List, ◌⊎◌, ⊎_elim, ℤ, pos, negsuc, neg_ℤ}
use Rattle.std.proofs.Common.{◌*ℤ◌, ◌≤ℤ◌, refl, sym, ap, subst, arith, rules}
use Rattle.polcert_text.proofs.Common.{ints, pos-*ℤ-pos, millionth, size_of, signed, IsExact, IsFloor, IsCeil, IsRounded, Rounding, ceiling}
use Rattle.polcert_text.proofs.Common.{rounded, is_away, Measures}
use Rattle.std.proofs.Math.IntN.{negsuc-*ℤ-pos}
use Rattle.std.proofs.Math.Nat.{mul-le-mul_right, mul-div_cancel, mul-pos}
use Rattle.polcert_text.specs.declared.number.Rounding.TheVariants.{Down, Up}

-- without its sign
abbrev size_without_sign : ℤ → ℕ
size_without_sign (pos n) = n
size_without_sign (negsuc n) = suc n

order : (m n : ℕ) → (m ≤ n) ⊎ (n + 1 ≤ m)
order = grind arith

size-mul : (h : ℤ) (d : ℕ) → size_without_sign (h *ℤ pos d) ≡ size_without_sign h * d
size-mul = grind arith

neg-mul : (n d : ℕ) → neg_ℤ (pos n) *ℤ pos d ≡ neg_ℤ (pos (n * d))
neg-mul = grind arith

pub signed-mul : (negative : Bool) (n d : ℕ) → signed negative n *ℤ pos d ≡ signed negative (n * d)
signed-mul = grind arith

le_pos : (a b : ℕ) → pos a ≤ℤ pos b → a ≤ b
le_pos = omega (arith, ints)

le_pos_from : (a b : ℕ) → a ≤ b → pos a ≤ℤ pos b
le_pos_from = omega (arith, ints)

le_neg : (a b : ℕ) → neg_ℤ (pos a) ≤ℤ neg_ℤ (pos b) → b ≤ a
le_neg = omega (arith, ints)

le_neg_from : (a b : ℕ) → b ≤ a → neg_ℤ (pos a) ≤ℤ neg_ℤ (pos b)
le_neg_from = omega (arith, ints)

pos_le_neg : (a b : ℕ) → pos a ≤ℤ neg_ℤ (pos b) → (a ≡ 0) × (b ≡ 0)
pos_le_neg a b h = (omega (arith, ints), omega (arith, ints))

module _ (bs : List ℕ) (floor : ℕ) where
  between : (n d part : ℕ) → n * d ≡ floor * d + part → 0 < part → part < d → ⊥
  between n d part e some below = ⊎_elim (λ l. let p = mul-le-mul_right d l in omega arith)
      (λ l. let p = mul-le-mul_right d l in omega arith) (order n floor)

  pub no_exact : (negative : Bool) → Measures bs floor true → (h : ℤ) → IsExact negative bs h → ⊥
  no_exact negative m h exact =
      let e = sym (grind arith) ∙ ap size_without_sign exact
      ∙ grind arith in
      between (size_without_sign h) _ m.part (e ∙ m.size) (m.inexact refl) m.below

  -- a number of whole units that isn't above the size isn't above its floor
  below_floor : (n d part : ℕ) → n * d ≤ floor * d + part → part < d → n ≤ floor
  below_floor = grind arith

  pub floor_positive : (is_inexact : Bool) → Measures bs floor is_inexact → IsFloor false bs (pos floor)
  floor_positive is_inexact m = record {
    not_above = omega (arith, ints);
    greatest = greatest;
  }
    where
      greatest : (k : ℤ) → (k *ℤ pos millionth) ≤ℤ pos (size_of bs) → k ≤ℤ pos floor
      greatest (pos n) h =
          let l = le_pos _ _ h in
          le_pos_from n floor (below_floor n _ m.part (omega arith) m.below)
      greatest (negsuc n) h = omega (arith, ints)

  ceiling_above : (is_inexact : Bool) (m : Measures bs floor is_inexact) → size_of bs ≤ ceiling floor is_inexact * millionth
  ceiling_above = search rules

  -- whole units that aren't below the size aren't below its ceiling
  above_ceiling : (is_inexact : Bool) (m : Measures bs floor is_inexact) (n : ℕ) → size_of bs ≤ n * millionth → ceiling floor is_inexact ≤ n
  above_ceiling = search (rules, ⊎_elim, mul-le-mul_right, order)

  pub floor_negative : (is_inexact : Bool) → Measures bs floor is_inexact → IsFloor true bs (signed true (ceiling floor is_inexact))
  floor_negative = grind
      (arith, ⊎_elim, mul-le-mul_right, order, neg-mul, le_pos_from, le_neg, le_neg_from, pos_le_neg, ceiling_above, above_ceiling)

  -- rounded down is rounded up in size where the number is negative
  pub floor_signed : (negative is_inexact : Bool) → Measures bs floor is_inexact
      → IsFloor negative bs (signed negative (rounded negative floor is_inexact))
  floor_signed true is_inexact m = floor_negative _ m
  floor_signed false is_inexact m = floor_positive _ m

-- ---- rounded up: what is rounded down of the number with the other sign

neg_neg : (h : ℤ) → neg_ℤ (neg_ℤ h) ≡ h
neg_neg = grind arith

neg_signed : (negative : Bool) (n : ℕ) → neg_ℤ (signed negative n) ≡ signed (not negative) n
neg_signed = grind arith

neg_times : (h : ℤ) (d : ℕ) → neg_ℤ h *ℤ pos d ≡ neg_ℤ (h *ℤ pos d)
neg_times = grind arith

le_turned : (x y : ℤ) → x ≤ℤ y → neg_ℤ y ≤ℤ neg_ℤ x
le_turned = omega (arith, ints)

le_turned_back : (x y : ℤ) → neg_ℤ y ≤ℤ neg_ℤ x → x ≤ℤ y
le_turned_back x y h = subst (λ z. z ≤ℤ y) (grind arith) (subst (λ z. neg_ℤ (neg_ℤ x) ≤ℤ z) (neg_neg y) (omega (arith, ints)))

pub ceil_of_floor : (negative : Bool) (bs : List ℕ) (h : ℤ) → IsFloor (not negative) bs (neg_ℤ h) → IsCeil negative bs h
ceil_of_floor = grind (arith, neg_signed, neg_times, le_turned, le_turned_back)

pub ceil_signed : (bs : List ℕ) (floor : ℕ) (negative is_inexact : Bool) → Measures bs floor is_inexact
    → IsCeil negative bs (signed negative (rounded (not negative) floor is_inexact))
ceil_signed = search (rules, floor_signed, neg_signed, ceil_of_floor)

pub rounded_signed : (rounding : Rounding) (bs : List ℕ) (floor : ℕ) (negative is_inexact : Bool) → Measures bs floor is_inexact
    → IsRounded rounding negative bs (signed negative (rounded (is_away rounding negative) floor is_inexact))
rounded_signed = grind (arith, floor_signed, ceil_signed)

-- a whole number of millionths is not rounded
pub rounded_whole : (rounding : Rounding) (negative : Bool) (bs : List ℕ) (n : ℕ) → Measures bs n false
    → IsRounded rounding negative bs (signed negative n)
rounded_whole Down true bs n m = floor_negative bs n false m
rounded_whole Down false bs n m = floor_positive bs n false m
rounded_whole Up true bs n m = ceil_signed bs n true false m
rounded_whole Up false bs n m = ceil_signed bs n false false m

-- ---- quotients

same_times : (d m n : ℕ) → 0 < d → m * d ≡ n * d → m ≡ n
same_times d m n some e = sym (mul-div_cancel m some) ∙ ap (λ x. x / d) e ∙ mul-div_cancel n some

-- a multiple has one quotient
pub one_quotient : (d : ℕ) → 0 < d → (h k : ℤ) → h *ℤ pos d ≡ k *ℤ pos d → h ≡ k
one_quotient = grind (arith, ints, mul-pos, pos-*ℤ-pos, negsuc-*ℤ-pos, size-mul, same_times)

-- a factor above 0 goes from both sides of an inequality
pub le_times_back : (d : ℕ) → 0 < d → (h k : ℤ) → (h *ℤ pos d) ≤ℤ (k *ℤ pos d) → h ≤ℤ k
le_times_back d some (pos m) (pos n) l = search (rules, ⊎_elim, mul-le-mul_right, pos-*ℤ-pos, order, le_pos, le_pos_from)
le_times_back d some (pos m) (negsuc n) l = grind arith
le_times_back d some (negsuc m) (pos n) l = omega (arith, ints)
le_times_back d some (negsuc m) (negsuc n) l = search (rules, ⊎_elim, mul-le-mul_right, negsuc-*ℤ-pos, order, le_neg, le_neg_from)

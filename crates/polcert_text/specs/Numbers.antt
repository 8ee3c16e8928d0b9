-- The value of a numeral, in millionths.
-- Source: the decimal numbers of the POMDP file format page (pomdp.org), read exactly. The limits are our own: at most
-- 400 bytes, an exponent of at most 400 in size, a value of at most 10,000,000 in size.
use Rattle.std.specs.Prelude.{◌≡◌, ℕ, ◌+◌, ◌-◌, ◌*◌, ◌^◌, ◌<◌, ◌≤◌, ◌==◌, Bool, true, false, ◌⊎◌, List, [], ◌∷◌, ◌++◌, length, if◌then◌else◌, ℤ, pos, neg_ℤ, ◌*ℤ◌, ◌≤ℤ◌}
use Rattle.std.specs.List.{before_first, after_first}
use Rattle.std.specs.Str.{byte}
use Rattle.std.specs.Str.Parse.{digits_value}
use Rattle.polcert_text.specs.Bytes.{is_point, is_exponent_mark}
use Rattle.polcert_text.specs.Lexemes.{without_sign, is_numeral}
use Rattle.polcert_text.specs.declared.number.Rounding.{Rounding}
use Rattle.polcert_text.specs.declared.number.Rounding.TheVariants.{Down, Up}
use Rattle.polcert_text.specs.declared.number.NumberFault.{NumberFault}
use Rattle.polcert_text.specs.declared.number.NumberFault.TheVariants.{NotANumeral, TooLong, TooLarge, TooFine}

-- the digits before the point, and those after it
abbrev pub whole_of : List ℕ → List ℕ
whole_of bs = before_first is_point (before_first is_exponent_mark bs)

abbrev pub fraction_of : List ℕ → List ℕ
fraction_of bs = after_first is_point (before_first is_exponent_mark bs)

-- what stands after `e` or `E`, or nothing
abbrev pub exponent_of : List ℕ → List ℕ
exponent_of bs = after_first is_exponent_mark bs

-- the digits of a numeral without the point, as one whole number
unfoldable pub significand : List ℕ → ℕ
significand bs = digits_value 10 (whole_of bs ++ fraction_of bs)

abbrev pub is_lowering : List ℕ → Bool
is_lowering [] = false
is_lowering (b ∷ bs) = b == byte "-"

-- the size of the written exponent
unfoldable pub exponent_size : List ℕ → ℕ
exponent_size bs = digits_value 10 (without_sign (exponent_of bs))

-- the written exponent less the number of digits after the point; 1000 is added so that no power is negative
unfoldable pub power_of : List ℕ → ℕ
power_of bs =
    if is_lowering (exponent_of bs) then 1000 - exponent_size bs - length (fraction_of bs)
    else 1000 + exponent_size bs - length (fraction_of bs)

-- the value without a sign, times 10 ^ 1000
unfoldable pub size_of : List ℕ → ℕ
size_of bs = significand bs * 10 ^ power_of bs

-- a millionth, times 10 ^ 1000
unfoldable pub millionth : ℕ
millionth = 10 ^ 994

-- 10,000,000 in millionths
abbrev pub largest : ℕ
largest = 10_000_000_000_000

abbrev pub signed : Bool → ℕ → ℤ
signed negative n = if negative then neg_ℤ (pos n) else pos n

-- the value is h millionths
abbrev pub IsExact : Bool → List ℕ → ℤ → Type 0
IsExact negative bs h = h *ℤ pos millionth ≡ signed negative (size_of bs)

-- the text is a numeral of just h millionths, or a `-` (45) and such a numeral
abbrev pub DenotesNumber : List ℕ → ℤ → Type 0
DenotesNumber text h = (negative : Bool) × ((numeral : List ℕ)
    × (text ≡ (if negative then 45 ∷ numeral else numeral))
    × (is_numeral numeral ≡ true)
    × IsExact negative numeral h)

-- h is the greatest whole number of millionths that isn't above the value
pub record IsFloor (negative : Bool) (bs : List ℕ) (h : ℤ) : Type 0 where
  pub not_above : (h *ℤ pos millionth) ≤ℤ signed negative (size_of bs)
  pub greatest : (k : ℤ) → (k *ℤ pos millionth) ≤ℤ signed negative (size_of bs) → k ≤ℤ h

-- h is the least whole number of millionths that isn't below the value
pub record IsCeil (negative : Bool) (bs : List ℕ) (h : ℤ) : Type 0 where
  pub not_below : signed negative (size_of bs) ≤ℤ (h *ℤ pos millionth)
  pub least : (k : ℤ) → signed negative (size_of bs) ≤ℤ (k *ℤ pos millionth) → h ≤ℤ k

-- h is the value in whole millionths, rounded this way
abbrev pub IsRounded : Rounding → Bool → List ℕ → ℤ → Type 0
IsRounded Down negative bs h = IsFloor negative bs h
IsRounded Up negative bs h = IsCeil negative bs h

-- a numeral within the limits of length and size
pub record IsReadable (bs : List ℕ) : Type 0 where
  pub numeral : is_numeral bs ≡ true
  pub short : length bs ≤ 400
  pub exponent : exponent_size bs ≤ 400
  pub size : size_of bs ≤ largest * millionth

-- why the bytes have no value, the first reason that holds
abbrev pub IsRefused : List ℕ → NumberFault → Type 0
IsRefused bs NotANumeral = is_numeral bs ≡ false
IsRefused bs TooLong = (is_numeral bs ≡ true) × ((400 < length bs) ⊎ (400 < exponent_size bs))
IsRefused bs TooLarge = (is_numeral bs ≡ true) × (length bs ≤ 400) × (exponent_size bs ≤ 400) × (largest * millionth < size_of bs)
IsRefused bs TooFine = ⊥

-- the same where an exact value is asked for
abbrev pub IsRefusedExactly : Bool → List ℕ → NumberFault → Type 0
IsRefusedExactly negative bs TooFine = IsReadable bs × ((h : ℤ) → IsExact negative bs h → ⊥)
IsRefusedExactly negative bs fault = IsRefused bs fault

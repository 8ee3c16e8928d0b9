-- Tokens that spell an action, and the value 0.
use Rattle.std.proofs.Common.{◌≡◌, ◌∙◌, ℕ, ◌*◌, ◌^◌, ◌<◌, Bool, true, false, Some, None, List, [], ◌∷◌, decimal, pos, refl, ap, arith}
use Rattle.std.proofs.lemmas.Fmt.{decimal_is_IsNumeral, decimal_nonempty}
use Rattle.polcert_policy.proofs.Common.{is_digit, size_of, IsRounded, Measures, Lexeme, Numeral, Part, sign_kind, IsActionPart}
use Rattle.polcert_policy.proofs.Common.{IsValuePart, Rounding}
use Rattle.polcert_text.specs.Bytes.{is_point, is_exponent_mark}
use Rattle.polcert_text.specs.Lexemes.{is_numeral}
use Rattle.polcert_text.specs.Numbers.{significand, exponent_size, power_of}
use Rattle.polcert_text.proofs.Numbers.FrontNumbers.{some_digits}
use Rattle.polcert_text.proofs.Numbers.SignedLaws.{rounded_whole}
use Rattle.polcert_text.proofs.Numbers.SizeLaws.{millionth_pos}
use Rattle.polcert_text.proofs.Printing.PrintLaws.{decimal_digits}

abbrev pub zero_bytes : List ℕ
zero_bytes = 48 ∷ []

number_zero : significand zero_bytes ≡ 0
unfolding is_point is_exponent_mark significand
number_zero = refl

exponent_zero : exponent_size zero_bytes ≡ 0
unfolding is_exponent_mark exponent_size
exponent_zero = refl

numeral_zero : is_numeral zero_bytes ≡ true
unfolding is_digit is_point is_exponent_mark
numeral_zero = refl

none_of : (n : ℕ) → 0 * n ≡ 0
none_of n = omega arith

size_zero : size_of zero_bytes ≡ 0
unfolding size_of
size_zero = ap (λ n. n * 10 ^ power_of zero_bytes) number_zero ∙ none_of _

abbrev pub part_of : List ℕ → Part
part_of bs = let t : Lexeme = record { kind = Numeral; place = 0; bytes = bs } in record { sign = None; token = t }

measured : Measures zero_bytes 0 false
measured = grind (arith, millionth_pos, size_zero)

abbrev pub zero_part : Part
zero_part = part_of zero_bytes

-- the decimal digits of an action spell it
pub action_spelled : (a : ℕ) → a < 2 ^ 64 → IsActionPart a (part_of (decimal a))
action_spelled a l = record {
  unsigned = refl;
  whole = some_digits (decimal a) (decimal_nonempty a l) (decimal_digits a l);
  value = (decimal_is_IsNumeral a l).1;
}

abbrev pub signed_zero : Lexeme → Part
signed_zero s = let t : Lexeme = record { kind = Numeral; place = 0; bytes = zero_bytes } in record { sign = Some s; token = t }

zero_rounded : (way : Rounding) (b : Bool) → IsRounded way b zero_bytes (pos 0)
zero_rounded way b = grind (arith, rounded_whole, measured)

module _ {way : Rounding} where
  -- the numeral `0` is the value 0
  pub zero_value : IsValuePart way zero_part (pos 0)
  zero_value = grind (arith, exponent_zero, numeral_zero, size_zero, zero_rounded)

  -- so is `0` after a sign
  pub signed_zero_value : (s : Lexeme) → sign_kind s.kind ≡ true → IsValuePart way (signed_zero s) (pos 0)
  signed_zero_value s sign = grind (arith, zero_rounded, zero_value)

-- The lines of the preamble, token by token.
use Rattle.std.proofs.Common.{◌≡◌, ℕ, ◌≤◌, Option, Some, None, List, [], ℤ, pos, refl, All, arith}
use lib.IntN.{nat_abs}
use Rattle.polcert_items.proofs.Common.{All-cons, Lexeme, Sign, IsMillionths, one, FitsRange, is_minus_sign}
use Rattle.polcert_items.proofs.Common.{IsSignAt, IsNoNumber, TakesLexeme, CannotTake}
use Rattle.polcert_cells.specs.Numbers.{none}
use Rattle.polcert_items.specs.Steps.Lines.{DiscountGoes}
use Rattle.polcert_items.specs.declared.signed_number.Range.TheVariants.{Discount}
use Rattle.polcert_items.specs.declared.preamble_lines.DiscountReader.{DiscountReader}
use Rattle.polcert_items.specs.declared.preamble_lines.DiscountReader.TheVariants as discount
use Rattle.polcert_items.proofs.SignedNumbers.{sign_back, sign_on, value_back, value_on}

all_none : (P : ℤ → Type 0) → All P []
all_none P = λ k d h. absurd (omega arith)

pub no_discount : (sign : Option Sign) (l : Lexeme) → IsNoNumber Discount sign l → CannotTake DiscountGoes (discount.Number sign) l
no_discount sign l no_value = λ ls g goes. no_value ls _ goes.0
    (All-cons (FitsRange Discount) (pos g) [] (g, (refl, goes.1)) (all_none (FitsRange Discount)))

takes_sign : (s : Sign) (l : Lexeme) → IsSignAt s l → TakesLexeme DiscountGoes (discount.Number None) l (discount.Number (Some s))
takes_sign = grind (arith, sign_back, sign_on)

pub discount_takes_sign : (reader : DiscountReader) (sign : Option Sign) (s : Sign) (l : Lexeme) → reader ≡ discount.Number sign
    → sign ≡ None → IsSignAt s l → TakesLexeme DiscountGoes reader l (discount.Number (Some s))
discount_takes_sign = grind (arith, takes_sign)

takes_value : (sign : Option Sign) (l : Lexeme) (p : ℕ) → IsMillionths (is_minus_sign sign) l (pos p) → p ≤ one
    → TakesLexeme DiscountGoes (discount.Number sign) l (discount.Done p)
takes_value sign l p v small = record {
  back = λ ls g goes.
      let at =
      value_back sign l ls (pos p) [] v (rw goes.0 none) in
      rw goes.1 (at, small);
  on = λ ls g goes.
      let b = value_on sign l ls (pos p) _ v goes.0 in (
        grind arith,
        cc,
      );
}

pub discount_takes_value : (reader : DiscountReader) (sign : Option Sign) (l : Lexeme) (h : ℤ) → reader ≡ discount.Number sign
    → IsMillionths (is_minus_sign sign) l h → FitsRange Discount h → TakesLexeme DiscountGoes reader l (discount.Done (nat_abs h))
discount_takes_value = grind (arith, takes_value)

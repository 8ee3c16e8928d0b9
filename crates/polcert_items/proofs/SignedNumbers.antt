-- A number of an item, token by token.
use Rattle.std.proofs.Common.{◌≡◌, ◌∙◌, ℕ, Bool, true, false, Option, Some, List, ◌∷◌, ℤ, ap, subst, All, arith}
use Rattle.polcert_items.proofs.Common.{All-head, Lexeme, Numeral, ItemFault, Sign, IsMillionths, AreNumbers, AreNumbersAfter}
use Rattle.polcert_items.proofs.Common.{FitsRange, is_minus_sign, signed_place, IsSignAt}
use Rattle.polcert_cells.specs.Numbers.{unsigned, plus, minus}
use Rattle.polcert_items.specs.Steps.Numbers.{RefusesNumber, IsRangeFault}
use Rattle.polcert_items.specs.declared.signed_number.Range.{Range}
use Rattle.polcert_items.specs.Steps.Numbers as steps
use Rattle.polcert_cells.proofs.NumberLaws.{one_millionths}

-- the first of some numbers after a sign
pub record FirstIs (negative : Bool) (l : Lexeme) (ls : List Lexeme) (hs : List ℤ) : Type 0 where
  pub first : ℤ
  pub rest : List ℤ
  pub joined : hs ≡ first ∷ rest
  pub value : IsMillionths negative l first
  pub numbers : AreNumbers ls rest

-- numbers that continue with a numeral begin with its value
pub first_number : (sign : Option Sign) (l : Lexeme) (ls : List Lexeme) (hs : List ℤ) → l.kind ≡ Numeral → AreNumbersAfter sign (l ∷ ls) hs
    → FirstIs (is_minus_sign sign) l ls hs
first_number = grind arith

module _ (range : Range) (sign : Option Sign) (l : Lexeme) (h : ℤ) (kind : ItemFault) where
  -- a number out of its range
  pub refuses_range : (place : ℕ)
      → IsMillionths (is_minus_sign sign) l h
      → (FitsRange range h → ⊥) → IsRangeFault range kind → place ≡ signed_place sign l → RefusesNumber range sign l kind place
  refuses_range place v out is at = record {
    none = λ ls hs a all.
        let f = first_number sign l ls hs v.kind a in
        let same = one_millionths _ l f.first h f.value v in
        out (subst (FitsRange range) same (All-head (FitsRange range) f.first f.rest
        (subst (λ xs. All (FitsRange range) xs) f.joined all)));
    reason = grind arith;
  }

one_number : {negative : Bool} (other : Bool) (l : Lexeme) (h : ℤ) → negative ≡ other → IsMillionths other l h → IsMillionths negative l h
one_number {negative} other l h e v = rw e v

-- a sign, and then the number after it
pub sign_back : (s : Sign) (l : Lexeme) (ls : List Lexeme) (hs : List ℤ) → IsSignAt s l → AreNumbersAfter (Some s) ls hs
    → AreNumbers (l ∷ ls) hs
sign_back = grind (arith, plus, minus)

pub sign_on : (s : Sign) (l : Lexeme) (ls : List Lexeme) (hs : List ℤ) → IsSignAt s l → AreNumbers (l ∷ ls) hs
    → AreNumbersAfter (Some s) ls hs
sign_on s l ls hs (steps.plus kind n p) (unsigned v more) = absurd (cc)
sign_on s l ls hs (steps.plus kind n p) (plus {l = m} {h} other v more) = (one_number false m h n v, more)
sign_on s l ls hs (steps.plus kind n p) (minus other v more) = absurd (cc)
sign_on s l ls hs (steps.minus kind n p) (unsigned v more) = absurd (cc)
sign_on s l ls hs (steps.minus kind n p) (plus other v more) = absurd (cc)
sign_on s l ls hs (steps.minus kind n p) (minus {l = m} {h} other v more) = (one_number true m h n v, more)

-- numbers that continue with a numeral are its value and further numbers
pub record After (h : ℤ) (ls : List Lexeme) (hs : List ℤ) : Type 0 where
  pub rest : List ℤ
  pub joined : hs ≡ h ∷ rest
  pub numbers : AreNumbers ls rest

module _ (sign : Option Sign) (l : Lexeme) (ls : List Lexeme) (h : ℤ) (hs : List ℤ) where
  -- a numeral, and then further numbers
  pub value_back : IsMillionths (is_minus_sign sign) l h
      → AreNumbers ls hs → AreNumbersAfter sign (l ∷ ls) (h ∷ hs)
  value_back = grind (arith, unsigned)

  pub value_on : IsMillionths (is_minus_sign sign) l h
      → AreNumbersAfter sign (l ∷ ls) hs → After h ls hs
  value_on v a =
      let f = first_number sign l ls hs v.kind a in
      record {
        rest = f.rest;
        joined = f.joined ∙ ap (λ x. x ∷ f.rest) (one_millionths _ l f.first h f.value v);
        numbers = f.numbers;
      }

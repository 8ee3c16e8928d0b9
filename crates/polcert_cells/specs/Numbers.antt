-- Whole numbers and signed numbers among the lexemes of a model.
-- Source: the grammar at pomdp.org (INT, FLOAT, an optional sign before either). Our own: every number of a model is a whole
-- number of millionths, and blanks may stand between its sign and its numeral.
use Rattle.std.specs.Prelude.{◌≡◌, ℕ, Bool, true, false, List, [], ◌∷◌, ℤ}
use Rattle.std.specs.Str.Parse.{digits_value}
use Rattle.polcert_text.specs.Lexemes.{are_digits}
use Rattle.polcert_text.specs.Numbers.{IsReadable, IsExact}
use Rattle.polcert_text.specs.Cut.{Lexeme}
use Rattle.polcert_text.specs.declared.tokens.TokenKind.TheVariants.{Numeral, Plus, Minus}

-- the lexeme is digits alone, and this is their number
pub record IsWhole (l : Lexeme) (n : ℕ) : Type 0 where
  pub kind : l.kind ≡ Numeral
  pub digits : are_digits l.bytes ≡ true
  pub value : digits_value 10 l.bytes ≡ n

-- the lexeme is a numeral without a fault, and h is its value, in millionths and with its sign: just so much, or rounded
pub record IsNumeral (IsValue : Bool → List ℕ → ℤ → Type 0) (negative : Bool) (l : Lexeme) (h : ℤ) : Type 0 where
  pub kind : l.kind ≡ Numeral
  pub readable : IsReadable l.bytes
  pub value : IsValue negative l.bytes h

-- it is just this many millionths
abbrev pub IsMillionths : Bool → Lexeme → ℤ → Type 0
IsMillionths negative l h = IsNumeral IsExact negative l h

-- the lexemes are these numbers, one after another: each a numeral, perhaps after a sign
pub data AreNumbers : List Lexeme → List ℤ → Type 0 where
  none : AreNumbers [] []
  unsigned : {l : Lexeme} {ls : List Lexeme} {h : ℤ} {hs : List ℤ} → IsNumeral IsExact false l h → AreNumbers ls hs → AreNumbers (l ∷ ls) (h ∷ hs)
  plus : {sign l : Lexeme} {ls : List Lexeme} {h : ℤ} {hs : List ℤ} → sign.kind ≡ Plus → IsNumeral IsExact false l h → AreNumbers ls hs → AreNumbers (sign ∷ l ∷ ls) (h ∷ hs)
  minus : {sign l : Lexeme} {ls : List Lexeme} {h : ℤ} {hs : List ℤ} → sign.kind ≡ Minus → IsNumeral IsExact true l h → AreNumbers ls hs → AreNumbers (sign ∷ l ∷ ls) (h ∷ hs)

-- the lexemes are one number
abbrev pub IsNumber : List Lexeme → ℤ → Type 0
IsNumber ls h = AreNumbers ls (h ∷ [])

-- one, in millionths: a probability and the discount lie from 0 to it
abbrev pub one : ℕ
one = 1_000_000

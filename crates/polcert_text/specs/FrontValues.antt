-- A value that stands whole at the front of some bytes.
use Rattle.std.specs.Prelude.{◌≡◌, ℕ, Bool, true, false, Option, Some, None, List, [], ◌∷◌}
use Rattle.polcert_text.specs.Beginning.{BeginWith}
use Rattle.polcert_text.specs.Cut.{Lexeme}
use Rattle.polcert_text.specs.Numbers.{IsReadable, IsRounded}
use Rattle.polcert_text.specs.declared.front_tokens.FrontValue.{FrontValue}
use Rattle.polcert_text.specs.declared.tokens.TokenKind.TheVariants.{Numeral, Minus}
use Rattle.polcert_text.specs.declared.number.Rounding.{Rounding}

abbrev pub with_minus : Option Lexeme → Lexeme → List Lexeme
with_minus None token = token ∷ []
with_minus (Some minus) token = minus ∷ token ∷ []

abbrev pub has_minus : Option Lexeme → Bool
has_minus None = false
has_minus (Some minus) = true

-- the first bytes are a numeral, perhaps after a `-`, and this is the number in millionths, rounded this way
pub record BeginWithValue (rounding : Rounding) (place : ℕ) (bytes : List ℕ) (value : FrontValue) : Type 0 where
  pub minus : Option Lexeme
  pub token : Lexeme
  pub minus_is : (s : Lexeme) → minus ≡ Some s → s.kind ≡ Minus
  pub kind_is : token.kind ≡ Numeral
  pub front : BeginWith place bytes value.len (with_minus minus token)
  pub readable : IsReadable token.bytes
  pub rounded : IsRounded rounding (has_minus minus) token.bytes value.value

-- Tokens that stand whole at the front of some bytes.
use Rattle.std.specs.Prelude.{◌≡◌, ℕ, ◌+◌, ◌≤◌, ◌++◌, ◌∷◌, Bool, false, true, if◌then◌else◌, Option, List, [], length, drop, ℤ}
use Rattle.std.specs.Str.Parse.{digits_value}
use Rattle.polcert_text.specs.Lexemes.{are_digits}
use Rattle.polcert_text.specs.Cut.{Lexeme, Rest}
use Rattle.polcert_text.specs.Numbers.{IsReadable, IsExact}
use Rattle.polcert_text.specs.Stream.{Stream, skip}
use Rattle.polcert_text.specs.TakenTokens.{Taken}
use Rattle.polcert_text.specs.declared.tokens.TokenKind.{TokenKind}
use Rattle.polcert_text.specs.declared.tokens.TokenKind.TheVariants.{Numeral, Plus, Minus}
use Rattle.polcert_text.specs.declared.tokens.TokenFault.{TokenFault}
use Rattle.polcert_text.specs.declared.front_tokens.FrontDigits.{FrontDigits}
use Rattle.polcert_text.specs.declared.front_tokens.FrontNumber.{FrontNumber}

-- what is still to be cut, from an offset on
abbrev pub rest_at : ℕ → List ℕ → Option TokenFault → Rest
rest_at place bytes ending = record { place = place; bytes = bytes; ending = ending }

-- The first bytes, which stand at this offset, are these tokens and the gaps before them, whatever follows the bytes.
pub record BeginWith (place : ℕ) (bytes : List ℕ) (count : ℕ) (tokens : List Lexeme) : Type 0 where
  pub within : count ≤ length bytes
  pub taken : (tail : List ℕ) (ending : Option TokenFault)
      → Taken (rest_at place (bytes ++ tail) ending) tokens (rest_at (place + count) (drop count bytes ++ tail) ending)

-- this many bytes were given of what is ahead, and no token since
abbrev pub passed : ℕ → Stream → Stream
passed n s = record { ahead = skip n s.ahead; borrowed = []; stop = s.stop }

-- the lexeme, where the bytes that its place is counted from stand at this offset
abbrev pub at_offset : ℕ → Lexeme → Lexeme
at_offset place l = record l { place = place + l.place }

-- the first bytes are one token of this kind
pub record BeginWithOne (place : ℕ) (bytes : List ℕ) (count : ℕ) (kind : TokenKind) : Type 0 where
  pub token : Lexeme
  pub kind_is : token.kind ≡ kind
  pub front : BeginWith place bytes count (token ∷ [])

-- the lexeme is a numeral, and after such a sign its value is just h millionths
pub record IsNumeralOf (is_negative : Bool) (numeral : Lexeme) (h : ℤ) : Type 0 where
  pub kind_is : numeral.kind ≡ Numeral
  pub readable : IsReadable numeral.bytes
  pub exact : IsExact is_negative numeral.bytes h

-- the kind of a sign's token
abbrev pub kind_of_sign : Bool → TokenKind
kind_of_sign is_negative = if is_negative then Minus else Plus

-- the first bytes are a number of just this many millionths: a numeral, or a sign and a numeral
pub data BeginWithNumber (place : ℕ) (bytes : List ℕ) (found : FrontNumber) : Type 0 where
  unsigned : (numeral : Lexeme) → IsNumeralOf false numeral found.value → BeginWith place bytes found.len (numeral ∷ []) → BeginWithNumber place bytes found
  signed : (is_negative : Bool) (sign numeral : Lexeme) → sign.kind ≡ kind_of_sign is_negative → IsNumeralOf is_negative numeral found.value
      → BeginWith place bytes found.len (sign ∷ numeral ∷ []) → BeginWithNumber place bytes found

-- the first bytes are digits that spell a number
pub record BeginWithDigits (place : ℕ) (bytes : List ℕ) (number : FrontDigits) : Type 0 where
  pub token : Lexeme
  pub kind_is : token.kind ≡ Numeral
  pub front : BeginWith place bytes number.len (token ∷ [])
  pub digits : are_digits token.bytes ≡ true
  pub value : digits_value 10 token.bytes ≡ number.value

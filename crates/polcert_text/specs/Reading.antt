-- What one call of the reader of tokens answers, against the cut.
use Rattle.std.specs.Prelude.{◌≡◌, ℕ, ◌+◌, Option, Some, None, Result, Ok, Err, List, length}
use Rattle.polcert_text.specs.Cut.{Lexeme, Rest, IsTokenAt, TakesToken, Ends}
use Rattle.polcert_text.specs.declared.tokens.Token.{Token}
use Rattle.polcert_text.specs.declared.tokens.TokenFault.{TokenFault}
use Rattle.polcert_text.specs.declared.tokens.TokenFault.TheVariants.{BadByte, TokenTooLong, Glued, TextTooLong}

-- a token, with its bytes
abbrev pub lexeme_of : Token → Lexeme
lexeme_of token = record { kind = token.kind; place = token.place; bytes = token.bytes.now }

-- the token at the front of the bytes, and where it stops
abbrev pub IsReadAt : ℕ → List ℕ → Token → Type 0
IsReadAt place bytes token = IsTokenAt place bytes (lexeme_of token) × (token.stop ≡ place + length token.bytes.now)

-- a token leaves the rest after it; a refusal and the clean end leave all as it was
abbrev pub GivesNext : Rest → Option (Result Token TokenFault) → Rest → Type 0
GivesNext old None new = Ends old None × (new ≡ old)
GivesNext old (Some (Ok token)) new = TakesToken old (lexeme_of token) new × (token.stop ≡ token.place + length token.bytes.now)
GivesNext old (Some (Err fault)) new = Ends old (Some fault) × (new ≡ old)

-- where a text is refused
abbrev pub fault_place : TokenFault → ℕ
fault_place (BadByte place) = place
fault_place (TokenTooLong place) = place
fault_place (Glued place) = place
fault_place (TextTooLong place) = place

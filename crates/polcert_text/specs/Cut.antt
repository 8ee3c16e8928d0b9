-- The cut of a text into tokens: gaps and lexemes by turns, each the longest that can stand at its place.
-- Source: the POMDP file format page and its grammar (pomdp.org). Where those leave it open what is no text, the
-- rules here are our own: a lexeme has at most 400 bytes, no letter, `_` or point directly follows a numeral, and a
-- text ends at its limit.
use Rattle.std.specs.Prelude.{◌≡◌, ℕ, ◌+◌, ◌<◌, ◌≤◌, Bool, true, false, Option, Some, None, List, [], ◌∷◌, length, take, drop, MatchOption, nat_lt, if◌then◌else◌}
use Rattle.polcert_text.specs.Bytes.{is_glue}
use Rattle.polcert_text.specs.Lexemes.{kind_of}
use Rattle.polcert_text.specs.Fronts.{IsLongestGap, IsLongestLexeme, NoLexeme}
use Rattle.polcert_text.specs.declared.tokens.TokenKind.{TokenKind}
use Rattle.polcert_text.specs.declared.tokens.TokenKind.TheVariants.{Numeral}
use Rattle.polcert_text.specs.declared.tokens.TokenFault.{TokenFault}
use Rattle.polcert_text.specs.declared.tokens.TokenFault.TheVariants.{BadByte, TokenTooLong, Glued, TextTooLong}

-- a token, and where its first byte stands
pub record Lexeme : Type 0 where
  pub kind : TokenKind
  pub place : ℕ
  pub bytes : List ℕ

-- what is still to be cut: its bytes, where they begin, and what stands in place of a clean end
pub record Rest : Type 0 where
  pub place : ℕ
  pub bytes : List ℕ
  pub ending : Option TokenFault

-- where the bytes still to be cut end
abbrev pub end_place : Rest → ℕ
end_place rest = rest.place + length rest.bytes

-- a numeral and, directly after it, a letter, `_` or a point
abbrev pub is_glued : TokenKind → List ℕ → Bool
is_glued Numeral (b ∷ bs) = is_glue b
is_glued _ _ = false

-- the token is at the front of the bytes
pub record IsTokenAt (place : ℕ) (bytes : List ℕ) (token : Lexeme) : Type 0 where
  pub lexeme : IsLongestLexeme bytes token.kind (length token.bytes)
  pub place_is : token.place ≡ place
  pub bytes_are : token.bytes ≡ take (length token.bytes) bytes
  pub short : length token.bytes ≤ 400
  pub apart : is_glued token.kind (drop (length token.bytes) bytes) ≡ false

-- some front of more than 400 bytes is a lexeme, so the longest is one too
pub record HasLongLexeme (bytes : List ℕ) : Type 0 where
  pub kind : TokenKind
  pub len : ℕ
  pub within : len ≤ length bytes
  pub lexeme : kind_of (take len bytes) ≡ Some kind
  pub long : 400 < len

-- The bytes begin with no token, for this reason: no front is a lexeme; some front of more than 400 bytes is one (this comes first);
-- the longest lexeme is a numeral with a letter, `_` or point directly after it.
abbrev pub IsFaultAt : ℕ → List ℕ → TokenFault → Type 0
IsFaultAt place bytes (BadByte at) = (at ≡ place) × NoLexeme bytes
IsFaultAt place bytes (TokenTooLong at) = (at ≡ place) × HasLongLexeme bytes
IsFaultAt place bytes (Glued at) = (at ≡ place) × ((n : ℕ) × IsLongestLexeme bytes Numeral n × (n ≤ 400) × (is_glued Numeral (drop n bytes) ≡ true))
IsFaultAt place bytes (TextTooLong at) = ⊥

-- after a gap comes this token, and after the token the new rest
pub record TakesToken (old : Rest) (token : Lexeme) (new : Rest) : Type 0 where
  pub gap : ℕ
  pub longest : IsLongestGap old.bytes gap
  pub token_at : IsTokenAt (old.place + gap) (drop gap old.bytes) token
  pub rest : new ≡ (let r : Rest = record { place = old.place + gap + length token.bytes; bytes = drop (length token.bytes) (drop gap old.bytes); ending = old.ending } in r)

-- no bytes: the end. Some: a fault
abbrev pub EndsAt : ℕ → List ℕ → Option TokenFault → Option TokenFault → Type 0
EndsAt place [] ending answer = answer ≡ ending
EndsAt place (b ∷ bs) ending answer = MatchOption answer ⊥ (IsFaultAt place (b ∷ bs))

-- after a gap comes no token: the end of the text, or a fault
pub record Ends (rest : Rest) (answer : Option TokenFault) : Type 0 where
  pub gap : ℕ
  pub longest : IsLongestGap rest.bytes gap
  pub ends_at : EndsAt (rest.place + gap) (drop gap rest.bytes) rest.ending answer

-- the rest is these tokens, one after another, and then ends cleanly (`None`) or in a fault
abbrev pub IsCut : Rest → List Lexeme → Option TokenFault → Type 0
IsCut rest [] answer = Ends rest answer
IsCut rest (token ∷ tokens) answer = (following : Rest) × TakesToken rest token following × IsCut following tokens answer

-- the rest has a cut
abbrev pub HasCut : Rest → Type 0
HasCut rest = (tokens : List Lexeme) × (answer : Option TokenFault) × IsCut rest tokens answer

-- how many bytes a text of any kind may have; our own
abbrev pub text_limit : ℕ
text_limit = 4_294_967_296

-- the bytes of a text below the limit; a byte at the limit is a fault there
abbrev pub text_rest : List ℕ → ℕ → Rest
text_rest text limit =
    if nat_lt limit (length text) then (let r : Rest = record { place = 0; bytes = take limit text; ending = Some (TextTooLong limit) } in r)
    else (let r : Rest = record { place = 0; bytes = text; ending = None } in r)

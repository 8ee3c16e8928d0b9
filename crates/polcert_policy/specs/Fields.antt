-- What a token of a policy file says: a number, or a node that follows.
use Rattle.std.specs.Prelude.{ℕ, ◌+◌, ◌==◌, Bool, true, false, ◌&&◌, Option, Some, None, List, [], ◌∷◌, length}
use Rattle.std.specs.Str.Parse.{digits_value}
use Rattle.polcert_text.specs.Lexemes.{are_digits, is_empty}
use Rattle.polcert_text.specs.Cut.{Lexeme}
use Rattle.polcert_text.specs.declared.tokens.TokenKind.{TokenKind}
use Rattle.polcert_text.specs.declared.tokens.TokenKind.TheVariants.{Name, Numeral, Minus}

abbrev pub numeral_kind : TokenKind → Bool
numeral_kind Numeral = true
numeral_kind _ = false

abbrev pub minus_kind : TokenKind → Bool
minus_kind Minus = true
minus_kind _ = false

-- a numeral of digits only
abbrev pub is_whole : Lexeme → Bool
is_whole t = numeral_kind t.kind && are_digits t.bytes

-- the number that its digits spell
abbrev pub whole_number_of : Lexeme → ℕ
whole_number_of t = digits_value 10 t.bytes

-- the name `X`
abbrev pub is_x : List ℕ → Bool
is_x [] = false
is_x (b ∷ bs) = b == 88 && is_empty bs

abbrev pub is_successor_of : TokenKind → List ℕ → Bool
is_successor_of Numeral bs = are_digits bs
is_successor_of Name bs = is_x bs
is_successor_of Minus bs = true
is_successor_of _ bs = false

-- a numeral of digits only, `X` or `-`
abbrev pub is_successor : Lexeme → Bool
is_successor t = is_successor_of t.kind t.bytes

abbrev pub number_at : TokenKind → ℕ → Option ℕ
number_at Numeral n = Some n
number_at _ n = None

-- the node that it names; `X` and `-` name none
abbrev pub successor_of : Lexeme → Option ℕ
successor_of t = number_at t.kind (whole_number_of t)

-- a `-`, and directly after it a numeral
abbrev pub is_joined : Lexeme → Lexeme → Bool
is_joined s t = minus_kind s.kind && (numeral_kind t.kind && (t.place == s.place + length s.bytes))

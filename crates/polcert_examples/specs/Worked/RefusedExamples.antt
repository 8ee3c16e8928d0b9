-- A refused text: its tokens with the places where they stand, how it ends, and how long it is.
use Rattle.std.specs.Prelude.{ℕ, List, [], ◌∷◌, None, codes}
use Rattle.polcert_text.specs.Cut.{Lexeme}
use Rattle.polcert_text.specs.declared.tokens.TokenKind.TheVariants as kinds
use Rattle.polcert_format.specs.FirstWrong.{TextTokens, text_tokens}

abbrev pub name_at : ℕ → List ℕ → Lexeme
name_at place bytes = record { kind = kinds.Name; place = place; bytes = bytes }

abbrev pub numeral_at : ℕ → List ℕ → Lexeme
numeral_at place bytes = record { kind = kinds.Numeral; place = place; bytes = bytes }

abbrev pub colon_at : ℕ → Lexeme
colon_at place = record { kind = kinds.Colon; place = place; bytes = codes ":" }

-- `discount: 2`
abbrev pub above_one : TextTokens
above_one = text_tokens (name_at 0 (codes "discount") ∷ colon_at 8 ∷ numeral_at 10 (codes "2") ∷ []) None 11

-- How numbers and places continue after those that were read.
use Rattle.std.proofs.Common.{◌≡◌, List, ◌∷◌, ℤ, arith}
use Rattle.polcert_format.proofs.Common.{Lexeme, Numeral, AreNumbers}
use Rattle.polcert_text.specs.declared.tokens.TokenKind.TheVariants.{Plus, Minus}

-- a lexeme that is no numeral and no sign begins no numbers
pub begins_no_number : {l : Lexeme} {ls : List Lexeme} {hs : List ℤ} → (l.kind ≡ Numeral → ⊥) → (l.kind ≡ Plus → ⊥) → (l.kind ≡ Minus → ⊥)
    → AreNumbers (l ∷ ls) hs → ⊥
begins_no_number h1 h2 h3 h4 = grind arith

-- Laws of the definitions.
use Rattle.std.specs.Prelude.{◌≡◌, List}
use Rattle.polcert_text.specs.Cut.{Lexeme}
use Rattle.polcert_format.specs.Items.{Item, IsDivided}

-- Each list of lexemes is divided into items, in one way.
abbrev pub HasDivision : List Lexeme → Type 0
HasDivision ls = (front : List Lexeme) × (items : List Item) × IsDivided ls front items

abbrev pub HasOneDivision : List Lexeme → Type 0
HasOneDivision ls = (f g : List Lexeme) (xs ys : List Item) → IsDivided ls f xs → IsDivided ls g ys → (f ≡ g) × (xs ≡ ys)

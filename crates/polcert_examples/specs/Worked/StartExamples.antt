-- Start items over two named states, `a` and `b`: the lexemes after `start`.
use Rattle.std.specs.Prelude.{ℕ, List, [], ◌∷◌, codes}
use Rattle.polcert_text.specs.Cut.{Lexeme}
use Rattle.polcert_cells.specs.declared.elements.Elements.{Elements}
use Rattle.polcert_cells.specs.declared.elements.Elements.TheVariants.{Names}
use Rattle.polcert_cells.specs.declared.elements.StartWeights.{StartWeights}
use Rattle.polcert_examples.specs.Worked.Examples.{name, numeral, colon}

abbrev pub a_b : Elements
a_b = Names (codes "a" ∷ codes "b" ∷ [])

abbrev pub shares : List ℕ → ℕ → StartWeights
shares weights total = record { weights = weights; total = total }

-- `start: uniform`, `start: 0.5 0.5`, `start: 0.25 0.75`
abbrev pub uniform_start : List Lexeme
uniform_start = colon ∷ name (codes "uniform") ∷ []

abbrev pub halves_start : List Lexeme
halves_start = colon ∷ numeral (codes "0.5") ∷ numeral (codes "0.5") ∷ []

abbrev pub quarters_start : List Lexeme
quarters_start = colon ∷ numeral (codes "0.25") ∷ numeral (codes "0.75") ∷ []

-- `start: b`
abbrev pub name_start : List Lexeme
name_start = colon ∷ name (codes "b") ∷ []

-- `start include: a a`, `start exclude: a`, `start exclude: a b`
abbrev pub include_start : List Lexeme
include_start = name (codes "include") ∷ colon ∷ name (codes "a") ∷ name (codes "a") ∷ []

abbrev pub exclude_start : List Lexeme
exclude_start = name (codes "exclude") ∷ colon ∷ name (codes "a") ∷ []

abbrev pub exclude_all : List Lexeme
exclude_all = name (codes "exclude") ∷ colon ∷ name (codes "a") ∷ name (codes "b") ∷ []

-- What the body of an entry gives a row.
use Rattle.std.proofs.Common.{◌≡◌, ℕ, ◌+◌, ◌*◌, ◌<◌, ◌≤◌, List, length, subst, arith}
use Rattle.polcert_rules.proofs.Common.{Place, Probabilities, Entry, Fills, Shape, FitsShape}
use Rattle.polcert_rules.specs.Steps.Given.{open_cells}

-- a line of a matrix ends within it
pub line_within : (s n m : ℕ) → s < n → s * m + m ≤ n * m
line_within s n m l = grind arith

open_of_one : (shape : Shape) (places : List Place) → length places ≡ 1 → open_cells shape places ≡ shape.states * shape.columns
open_of_one shape places h1 = grind arith

-- an entry whose body is a list of numbers
module _ (shape : Shape) (e : Entry) (ps : List ℕ) (fits : FitsShape shape e) (body : e.body ≡ Probabilities ps) where
  fills : Fills (open_cells shape e.places) (Probabilities ps)
  fills = subst (Fills (open_cells shape e.places)) body fits.body

  pub matrix_room : (s : ℕ) → length e.places ≡ 1 → s < shape.states → s * shape.columns + shape.columns ≤ length ps
  matrix_room s n l = grind (arith, line_within, open_of_one, fills)

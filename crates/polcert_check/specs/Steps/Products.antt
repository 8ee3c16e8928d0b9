-- Helper definitions of private functions: sums over rows whose weights are numbers times a scale, or one weight but for exceptions.
-- Nobody has to believe them.
use Rattle.std.specs.Prelude.{◌≡◌, ◌*◌, ◌^◌, ◌<◌, ◌≤◌, ℕ, ℤ, pos, ◌*ℤ◌, unsigned_abs, List, length, slice_index, slice_index_or}
use Rattle.polcert_cells.specs.BorrowedRows.{IsEvenRow}
use Rattle.polcert_cells.specs.Elements.{most_elements}
use Rattle.polcert_cells.specs.Numbers.{one}
use Rattle.polcert_cells.specs.declared.elements.Cell.{Cell}
use Rattle.polcert_check.specs.Horizon.{Controller, total_below}
use Rattle.polcert_check.specs.Shortfall.{at_node}

-- the sum of the first of the numbers, each times the value at its place
abbrev pub products_below : List ℕ → List ℤ → ℕ → ℤ
products_below numbers values count = total_below (λ i. pos (slice_index numbers i) *ℤ slice_index_or values i (pos 0)) count

-- what observation z adds at end state e, where its number is this
abbrev pub number_term : Controller → ℕ → ℕ → ℕ → ℕ → ℤ
number_term c n e number z = at_node (λ m. pos number *ℤ c.value m e) (c.next n z)

-- the sum over the first observations of their numbers, each times the value of the successor at end state e
abbrev pub successors_below : Controller → ℕ → ℕ → List ℕ → ℕ → ℤ
successors_below c n e numbers count = total_below (λ z. number_term c n e (slice_index numbers z) z) count

-- a row of one weight but for exceptions, and numbers of its columns that sum to this
pub record IsEvenSum (f : ℕ → ℕ) (count weight : ℕ) (exceptions : List Cell) (numbers : List ℤ) (total : ℤ) : Type 0 where
  pub columns : ℕ
  pub row : IsEvenRow f count weight columns exceptions
  pub few : count ≤ most_elements
  pub limited : (c : ℕ) → c < count → f c ≤ one * count
  pub room : count ≤ length numbers
  pub sum : total ≡ total_below (λ c. slice_index_or numbers c (pos 0)) count
  pub small : unsigned_abs total ≤ count * 2 ^ 63

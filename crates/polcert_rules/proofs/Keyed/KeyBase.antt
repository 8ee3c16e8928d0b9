-- The base of the keys has what is needed of it; and so each element has a digit.
use Rattle.std.proofs.Common.{ℕ, ◌+◌, ◌<◌, ◌≤◌, arith}
use Rattle.polcert_rules.proofs.Common.{Elements, Place, count_of, most_actions, most_elements, key_base, digit}
use Rattle.polcert_cells.specs.Steps.Sound.{IsPlaceIn}

-- each index below its limit has a digit, and so has the limit itself, which is no index
pub action_digit : (i : ℕ) → i ≤ most_actions → i + 2 < key_base
action_digit i few = omega arith

pub element_digit : (i : ℕ) → i ≤ most_elements → i + 2 < key_base
element_digit i few = omega arith

-- a place is a digit, where the elements are so few
pub place_digit : (elements : Elements) (p : Place) → count_of elements + 2 < key_base → IsPlaceIn elements p → digit p < key_base
place_digit elements p h1 h2 = grind arith

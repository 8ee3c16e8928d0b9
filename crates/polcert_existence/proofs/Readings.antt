-- A reader's state as a mathematical value, whose list stands nowhere in memory: what the lemmas on the reader's steps say of a state
-- does not depend on that.
use denote.RawPtr.{null_ptr}
use Rattle.std.proofs.Common.{ℕ, ℤ, ◌^◌, ◌<◌, ◌≤◌, ◌∷◌, ◌++◌, [], List, Vec, Global, length, refl, arith}
use Rattle.std.proofs.Math.Nat.{mul-le-mul_right}
use Rattle.polcert_text.specs.Cut.{Lexeme}
use Rattle.polcert_text.specs.declared.number.Rounding.{Rounding}
use Rattle.polcert_policy.specs.Graphs.{PolicyGraph}
use Rattle.polcert_policy.specs.Steps.VectorsRead.{HasReadVectors}
use Rattle.polcert_policy.specs.declared.vectors_reading.VectorsReading.{VectorsReading}
use Rattle.polcert_policy.proofs.GraphLaws.{length_snoc}

pub at_most_itself : (n : ℕ) → n ≤ n
at_most_itself n = omega arith

abbrev pub as_vec : (xs : List ℤ) → length xs < 2 ^ 63 → Vec ℤ Global
as_vec xs few = record {
  items = xs;
  ptr = null_ptr;
  len = length xs;
  cap = length xs;
  alloc = record { memory = record { seal = tt } };
  ok = (refl, at_most_itself (length xs));
  small = few;
}

-- there is room for one more value
pub room : (way : Rounding) (g : PolicyGraph) (seen : List Lexeme) (r : VectorsReading) (value : ℤ) → HasReadVectors way g seen r
    → length (r.values.items ++ value ∷ []) < 2 ^ 63
room way g seen r value h =
    omega (arith, length_snoc r.values.items value, h.vectors.filled, mul-le-mul_right r.states r.few, r.few_states, r.column_within)

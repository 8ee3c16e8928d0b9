-- Vectors as they are written, with all their decimals. polcert rounds each value down to whole millionths as it reads it, and `polcert lower`
-- takes one constant off all of them; a planner that keeps the solver's file runs the numbers that stand there.
use Rattle.std.specs.Prelude.{◌≡◌, ℕ, ◌+◌, ◌*◌, ◌<◌, ℤ, ◌+ℤ◌, List, Some, slice_get}
use Rattle.polcert_text.specs.Cut.{Lexeme}
use Rattle.polcert_text.specs.Numbers.{signed, size_of}
use Rattle.polcert_text.specs.Tokens.{AreTokens}
use Rattle.polcert_policy.specs.Graphs.{PolicyGraph, nodes}
use Rattle.polcert_policy.specs.Vectors.{IsVectors, Part, PolicyVectors, is_negative, value_of}

-- the number as it stands there, times 10 ^ 1000
abbrev pub written_number : Part → ℤ
written_number p = signed (is_negative p.sign) (size_of p.token.bytes)

-- The text is vectors of the graph, read as `vectors`, and the number that stands in it for node n and state s is `written` n s.
pub record AreWritten (graph : PolicyGraph) (states : ℕ) (text : List ℕ) (vectors : PolicyVectors) (written : ℕ → ℕ → ℤ) : Type 0 where
  pub tokens : List Lexeme
  pub cut : AreTokens text tokens
  pub are_vectors : IsVectors graph states tokens vectors
  pub numbers : (n s : ℕ) (p : Part) → n < nodes graph → s < states → slice_get are_vectors.parts (n * (1 + states) + (1 + s)) ≡ Some p → written n s ≡ written_number p

-- each value is the one of the other vectors and the same constant
abbrev pub AreMoved : PolicyGraph → ℕ → PolicyVectors → ℤ → PolicyVectors → Type 0
AreMoved graph states vectors by moved = (n s : ℕ) → n < nodes graph → s < states → value_of moved n s ≡ value_of vectors n s +ℤ by

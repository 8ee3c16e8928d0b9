-- The one printed text of vectors.
--
-- A value function file as https://www.pomdp.org/code/alpha-file-spec.html describes it: for each vector its action on
-- a line, its values on a line with one blank between, and an empty line. Values are whole millionths.
use Rattle.std.specs.Prelude.{ℕ, suc, zero, ◌==◌, if◌then◌else◌, List, [], ◌++◌, decimal, codes}
use Rattle.polcert_text.specs.Millionths.{scaled_text}
use Rattle.polcert_policy.specs.Graphs.{PolicyGraph, nodes, action_of}
use Rattle.polcert_policy.specs.Vectors.{PolicyVectors, value_of}

-- what stands after the value of state s: a blank, or after the last value a line end and an empty line
abbrev pub after_value : ℕ → ℕ → List ℕ
after_value states s = if suc s == states then codes "\n\n" else codes " "

abbrev pub value_text : PolicyVectors → ℕ → ℕ → List ℕ
value_text v n s = scaled_text (value_of v n s) ++ after_value v.states s

-- the values of node n at the first states, this many
abbrev pub values_text : PolicyVectors → ℕ → ℕ → List ℕ
values_text v n zero = []
values_text v n (suc s) = values_text v n s ++ value_text v n s

-- the action of node n, and a line end
abbrev pub action_line : PolicyGraph → ℕ → List ℕ
action_line g n = decimal (action_of g n) ++ codes "\n"

-- the vector of node n
abbrev pub vector_text : PolicyGraph → PolicyVectors → ℕ → List ℕ
vector_text g v n = action_line g n ++ values_text v n v.states

-- the vectors of the first nodes, this many
abbrev pub vectors_text_up_to : PolicyGraph → PolicyVectors → ℕ → List ℕ
vectors_text_up_to g v zero = []
vectors_text_up_to g v (suc n) = vectors_text_up_to g v n ++ vector_text g v n

-- the full form of vectors, with the actions of their graph
abbrev pub vectors_text : PolicyGraph → PolicyVectors → List ℕ
vectors_text g v = vectors_text_up_to g v (nodes g)

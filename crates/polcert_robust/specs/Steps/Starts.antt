-- Helper definitions of private functions: the means of a node's values over starts near a model's. Nobody has to believe them.
use Rattle.std.specs.Prelude.{ℕ, ℤ}
use Rattle.polcert_cells.specs.Meaning.{Meaning, states_of}
use Rattle.polcert_model.specs.Contents.{meaning}
use Rattle.polcert_policy.specs.Vectors.{PolicyVectors}
use Rattle.polcert_robust.specs.Start.{IsLeastFromStart, scaled_start_total}
use Rattle.polcert_robust.specs.declared.distance.Spread.{Spread}
use Rattle.polcert_robust.specs.declared.side.Side.{Side}
use Rattle.polcert_robust.specs.declared.start_input.StartInput.{StartInput}
use Rattle.polcert_robust.specs.Steps.Sides.{turned}

abbrev pub start_of : StartInput → Meaning
start_of input = meaning input.model.now

abbrev pub states_in : StartInput → ℕ
states_in input = states_of (start_of input)

abbrev pub vectors_in : StartInput → PolicyVectors
vectors_in input = input.vectors.now

abbrev pub total_in : StartInput → ℕ
total_in input = scaled_start_total (start_of input)

-- the least mean, or from above the greatest
abbrev pub IsMeanFromStart : Side → Meaning → Spread → (ℕ → ℤ) → ℤ → Type 0
IsMeanFromStart side m by x value = IsLeastFromStart m by (λ s. turned side (x s)) (turned side value)

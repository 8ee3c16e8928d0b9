use Rattle.std.specs.Prelude.{◌≡◌, drop}
use Rattle.polcert_items.proofs.Common.{first_above_0}
use Rattle.polcert_items.proofs.start_reader.first_above_0.Given as goal

abbrev pub invariant-loop-probability : goal.invariant-loop-probability
invariant-loop-probability l = first_above_0 (drop l.probability-index l.probabilities) ≡ first_above_0 l.probabilities

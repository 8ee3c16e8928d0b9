use Rattle.std.specs.Prelude.{take}
use Rattle.polcert_items.proofs.StartShares.{AreLevelTo}
use Rattle.polcert_items.proofs.start_reader.level_shares.Given as goal

abbrev pub invariant-loop-probability : goal.invariant-loop-probability
invariant-loop-probability l = AreLevelTo (take l.probability-index l.probabilities) l.probability-index l.weights l.total

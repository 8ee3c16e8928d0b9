use Rattle.polcert_rules.specs.Steps.NamedCells.{AreNamedCells}
use Rattle.polcert_rules.proofs.rewards.Rewards.fill_named.Given as goal

-- the cells so far
abbrev pub invariant-loop-i : goal.invariant-loop-i
invariant-loop-i l = AreNamedCells l.self l.at l.list l.i l.cells

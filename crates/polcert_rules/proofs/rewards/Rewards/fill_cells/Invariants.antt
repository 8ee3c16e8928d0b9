use Rattle.polcert_rules.proofs.Common.{AreCellsOf}
use Rattle.polcert_rules.proofs.rewards.Rewards.fill_cells.Given as goal

-- the cells so far
abbrev pub invariant-loop-i : goal.invariant-loop-i
invariant-loop-i l = AreCellsOf l.self l.action l.start l.list l.i l.next l.cells

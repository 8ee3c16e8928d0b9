use Rattle.polcert_check.specs.Steps.Factored.{AreMarked}
use Rattle.polcert_check.proofs.end_values.ReachedStates.find.Given as goal

abbrev pub invariant-loop-s : goal.invariant-loop-s
invariant-loop-s g l = AreMarked (g.C.Cells.table l.cells) l.a l.s l.self.marks

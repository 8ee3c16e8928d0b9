use Rattle.std.proofs.Common.{rules}
use Rattle.polcert_check.proofs.end_values.next_observation.Goals as goal

pub returns-in-Some : goal.returns-in-Some
returns-in-Some g c = rw c.in-Some.is (c.step.ensures _ _ (c.requires.row _ c.in-Some.is))

pub returns-in-None : goal.returns-in-None
returns-in-None g c = rw c.in-None.is (rw c.observations.ensures at
    (c.first_weight.ensures ((g.C.Cells.table c.args.cells.now).o c.args.a c.args.e) (λ k weight l post. search rules)))

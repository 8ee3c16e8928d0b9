use Rattle.polcert_robust.specs.RobustVerdict.{IsRobustBefore}
use Rattle.polcert_robust.specs.Steps.KnownRewards.{AreKnownRewards}
use Rattle.polcert_robust.specs.Steps.EndMeans.{AreKept}
use Rattle.polcert_robust.specs.Steps.Pairs.{cells_of, near_controller, near_table}
use Rattle.polcert_robust.proofs.walk.first_robust_failure.Given as goal

abbrev pub invariant-loop-n : goal.invariant-loop-n
invariant-loop-n g l = record {
  before : IsRobustBefore (near_table l.input) (near_controller l.input) l.n 0;
  known : AreKnownRewards (cells_of l.input) l.known;
}

abbrev pub invariant-loop-s : goal.invariant-loop-s
invariant-loop-s g l = record {
  before : IsRobustBefore (near_table l.input) (near_controller l.input) l.n l.s;
  kept : AreKept (near_table l.input) (near_controller l.input) l.n l.buffers.ends;
  known : AreKnownRewards (cells_of l.input) l.known;
}

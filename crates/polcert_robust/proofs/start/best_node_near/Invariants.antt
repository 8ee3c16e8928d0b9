use Rattle.std.proofs.Common.{◌*◌, ◌≤◌, unsigned_abs}
use Rattle.polcert_text.specs.Numbers.{largest}
use Rattle.polcert_robust.specs.Start.{IsBestNodeNear}
use Rattle.polcert_robust.specs.Steps.Starts.{IsMeanFromStart, start_of, total_in, vectors_in}
use Rattle.polcert_robust.proofs.start.best_node_near.Given as goal

-- the best so far
abbrev pub invariant-loop-n : goal.invariant-loop-n
invariant-loop-n l = record {
  best : IsBestNodeNear (IsMeanFromStart l.input.side (start_of l.input) l.input.by) (vectors_in l.input) l.n l.best l.greatest;
  small : unsigned_abs l.greatest ≤ total_in l.input * largest;
}

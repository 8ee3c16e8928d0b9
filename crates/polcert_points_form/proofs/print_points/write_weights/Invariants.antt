use Rattle.std.proofs.Common.{◌≡◌}
use Rattle.polcert_text.specs.Sink.{Takes}
use Rattle.polcert_policy.specs.Points.{point_weight}
use Rattle.polcert_points_form.specs.FullForm.{weights_text}
use Rattle.polcert_points_form.specs.Steps.RowWalk.{IsStepFrom}
use Rattle.polcert_points_form.proofs.print_points.write_weights.Given as goal

abbrev pub invariant-loop-s : goal.invariant-loop-s
invariant-loop-s g l = record {
  took : Takes g.W.Sink.writes l.fn.out (weights_text (point_weight l.points l.i) l.points.states l.s) l.out;
  same_count : g.W.Sink.failures l.out ≡ g.W.Sink.failures l.fn.out;
  next : IsStepFrom (point_weight l.points l.i) l.points.states l.row l.s l.next;
}

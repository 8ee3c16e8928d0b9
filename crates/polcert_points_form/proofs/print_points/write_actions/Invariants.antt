use Rattle.std.proofs.Common.{◌≡◌}
use Rattle.polcert_text.specs.Sink.{Takes}
use Rattle.polcert_points_form.specs.FullForm.{actions_text}
use Rattle.polcert_points_form.specs.RaisedSet.{raised_set}
use Rattle.polcert_points_form.proofs.print_points.write_actions.Given as goal

abbrev pub invariant-loop-a : goal.invariant-loop-a
invariant-loop-a g l = record {
  took : Takes g.W.Sink.writes l.fn.out (actions_text (raised_set l.points l.by) l.i l.a) l.out;
  same_count : g.W.Sink.failures l.out ≡ g.W.Sink.failures l.fn.out;
}

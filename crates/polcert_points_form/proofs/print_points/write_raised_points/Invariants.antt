use Rattle.std.proofs.Common.{◌≡◌}
use Rattle.polcert_text.specs.Sink.{Takes}
use Rattle.polcert_points_form.specs.FullForm.{points_text_up_to}
use Rattle.polcert_points_form.specs.RaisedSet.{raised_set}
use Rattle.polcert_points_form.proofs.print_points.write_raised_points.Given as goal

abbrev pub invariant-loop-i : goal.invariant-loop-i
invariant-loop-i g l = record {
  took : Takes g.W.Sink.writes l.fn.out (points_text_up_to (raised_set l.points l.by) l.i) l.out;
  same_count : g.W.Sink.failures l.out ≡ g.W.Sink.failures l.fn.out;
}

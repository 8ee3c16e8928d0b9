use Rattle.std.proofs.Common.{◌≡◌}
use Rattle.polcert_text.specs.Sink.{Takes}
use Rattle.polcert_policy.specs.Points.{named_at}
use Rattle.polcert_points_form.specs.FullForm.{names_text}
use Rattle.polcert_points_form.proofs.print_points.write_named_points.Given as goal

abbrev pub invariant-loop-z : goal.invariant-loop-z
invariant-loop-z g l = record {
  took : Takes g.W.Sink.writes l.fn.out (names_text (named_at l.points l.i l.a) l.points.observations l.z) l.out;
  same_count : g.W.Sink.failures l.out ≡ g.W.Sink.failures l.fn.out;
}

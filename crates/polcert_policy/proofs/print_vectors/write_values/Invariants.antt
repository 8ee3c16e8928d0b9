use Rattle.std.proofs.Common.{◌≡◌}
use Rattle.polcert_policy.proofs.Common.{Takes, values_text}
use Rattle.polcert_policy.proofs.print_vectors.write_values.Given as goal

abbrev pub invariant-loop-state : goal.invariant-loop-state
invariant-loop-state g l = record {
  took : Takes g.W.Sink.writes l.fn.out (values_text l.vectors l.node l.state) l.out;
  same_count : g.W.Sink.failures l.out ≡ g.W.Sink.failures l.fn.out;
}

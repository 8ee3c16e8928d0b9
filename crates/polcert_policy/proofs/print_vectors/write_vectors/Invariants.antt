use Rattle.std.proofs.Common.{◌≡◌}
use Rattle.polcert_policy.proofs.Common.{Takes, vectors_text_up_to}
use Rattle.polcert_policy.proofs.print_vectors.write_vectors.Given as goal

abbrev pub invariant-loop-node : goal.invariant-loop-node
invariant-loop-node g l = record {
  took : Takes g.W.Sink.writes l.fn.out (vectors_text_up_to l.graph l.vectors l.node) l.out;
  same_count : g.W.Sink.failures l.out ≡ g.W.Sink.failures l.fn.out;
}

use Rattle.std.proofs.Common.{◌<◌, refl, arith, rules}
use Rattle.polcert_policy.proofs.Common.{nodes}
use Rattle.polcert_policy.proofs.VectorEndLaws.{unfinished_vector, too_few, vectors_read}
use Rattle.polcert_policy.proofs.LimitLaws.{vectors_proper}
use Rattle.polcert_policy.proofs.vectors_reading.VectorsReading.finish.Goals as goal

pub returns-then-self-gt0 : goal.returns-then-self-gt0
returns-then-self-gt0 c = λ way seen h. (
  refl,
  (
    c.args.self.node,
    (
      c.args.self.column,
      unfinished_vector _ seen c.args.self c.args.self.some_states c.if-self-gt0.true h,
      c.if-self-gt0.true,
    ),
  ),
)

pub returns-then-self-nodes : goal.returns-then-self-nodes
returns-then-self-nodes c = λ way seen h.
    let fewer : c.args.self.node < nodes c.args.graph.now = search rules in
    (refl, (c.args.self.node, too_few _ seen c.args.self c.args.self.some_states c.if-self-gt0.false fewer h, fewer))

pub new-requires : goal.new-requires
new-requires c =
    let r = c.args.self in
    let h = c.requires.1.1 in
    let read = vectors_read _ c.requires.1.0 r c.if-self-gt0.false (omega (arith, c.if-self-nodes.false, c.nodes.ensures.count)) h in
    vectors_proper c.args.graph.now r.states c.requires.1.0 _ h.proper.some_nodes h.proper.few_nodes r.some_states r.few_states read

pub returns : goal.returns
returns c = grind (arith, vectors_read)

use Rattle.std.proofs.Common.{◌<◌, refl, sym, rules, arith}
use Rattle.polcert_policy.proofs.Common.{nothing, Down, nodes, vectors_text_up_to}
use Rattle.polcert_text.proofs.Printing.Taking.{took_then}
use Rattle.polcert_policy.specs.FullForm.{vector_text}
use Rattle.polcert_policy.proofs.FullFormLaws.{reads_back}
use Rattle.polcert_text.proofs.Printing.Written.{wrote_part}
use Rattle.polcert_policy.proofs.print_vectors.write_vectors.Goals as goal

pub loop-node-init : goal.loop-node-init
loop-node-init g c = record { took = nothing; same_count = refl }

pub returns-in_err-write_vector : goal.returns-in_err-write_vector
returns-in_err-write_vector g c = let graph = c.args.graph.now in let below : c.loop-node.node < nodes graph = search rules in
    let back = reads_back graph c.args.vectors.now c.nodes-nodes.ensures.proper c.nodes-vector_count.ensures.proper
    (sym c.requires) in
    record {
      written = wrote_part (vectors_text_up_to graph c.args.vectors.now) (vector_text graph c.args.vectors.now)
          (λ n. refl) c.loop-node.node (nodes graph) below _ (search rules)
          c.loop-node.invariant.took c.loop-node.invariant.same_count c.in_err-write_vector.ensures.err c.in_err-write_vector.ensures.count;
      reads_back = back Down;
      either_way = back;
    }

pub loop-node-preserved : goal.loop-node-preserved
loop-node-preserved g c = grind (arith, took_then)

pub returns : goal.returns
returns g c = grind (arith, reads_back)

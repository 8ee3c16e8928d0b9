use Rattle.std.proofs.Common.{rules, arith}
use Rattle.polcert_model.specs.Contents.{meaning}
use Rattle.polcert_optimum.proofs.SeenSums.{best_step, best_part_le}
use Rattle.polcert_optimum.proofs.seen_start.seen_sum.Goals as goal

pub overflow_add-sum : goal.overflow_add-sum
overflow_add-sum c =
    let m = meaning c.args.model.now in
    (best_step m _ c.args.model.now.limits c.nodes-vectors.ensures.proper c.requires _ _
    _ _ _ (omega arith) c.start_weight.ensures
    c.greatest_at.ensures.is (search rules) (search rules) c.start_term-sum.ensures.is c.loop-s.invariant).0

pub loop-s-preserved : goal.loop-s-preserved
loop-s-preserved c =
    let m = meaning c.args.model.now in
    (best_step m _ c.args.model.now.limits c.nodes-vectors.ensures.proper c.requires _ _
    _ _ _ (omega arith) c.start_weight.ensures
    c.greatest_at.ensures.is (search rules) (search rules) c.start_term-sum.ensures.is c.loop-s.invariant).1

pub returns-clause-small : goal.returns-clause-small
returns-clause-small c =
    rw c.loop-s.invariant (best_part_le _ _ c.args.model.now.limits c.nodes-vectors.ensures.proper
    c.requires c.loop-s.s (omega arith))

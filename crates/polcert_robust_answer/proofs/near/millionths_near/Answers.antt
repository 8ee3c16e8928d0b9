use Rattle.std.proofs.Common.{◌≡◌, rules, to_z, of_z, to_z-of_z, FitsSigned}
use Rattle.std.specs.Int.{w128}
use Rattle.polcert_robust_answer.specs.Near.{spread_within}
use Rattle.polcert_robust_answer.proofs.Common.{CellTable, meaning, table_of}
use Rattle.polcert_robust_answer.proofs.Small.{either_small}
use Rattle.polcert_robust_answer.proofs.near.millionths_near.Goals as goal

pub millionths_short-requires-clause-small : goal.millionths_short-requires-clause-small
millionths_short-requires-clause-small c = λ limits.
    let t : CellTable = table_of (meaning c.args.given.now.model) in
    let w = c.args.within.now in
    let fits : FitsSigned w128 c.args.amount = search rules in
    let back : to_z w128 (of_z w128 c.args.amount) ≡ c.args.amount = to_z-of_z fits in
    let (n, s, nl, sl, short) = c.requires.is in
    rw back (either_small t limits c.args.given.now.graph c.args.given.now.vectors c.nodes-nodes.ensures.proper
    c.nodes-vector_count.ensures.proper c.requires.fits
    (spread_within w t.states) (spread_within w t.observations) w.rewards_by w.are_rewards_typed.small n s nl sl c.args.amount short)

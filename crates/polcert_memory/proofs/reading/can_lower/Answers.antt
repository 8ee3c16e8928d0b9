use Rattle.std.proofs.Common.{◌∙◌, sym}
use Rattle.polcert_policy.proofs.LoweringLaws.{can_lower_two, above_least}
use Rattle.polcert_memory.proofs.reading.can_lower.Goals as goal

pub returns : goal.returns
returns c = λ holds.
    let first = above_least c.at-first.result _ c.at-first.ensures.in_range c.at-first.ensures.value c.if-first-leminus10000000000000.false
    in
    let second = above_least c.at-second.result _ c.at-second.ensures.in_range c.at-second.ensures.value
    c.if-second-leminus10000000000000.false in
    can_lower_two c.args.vectors.now (sym c.nodes.ensures.count ∙ c.if-nodes-ne1.false) (sym c.states.ensures ∙ c.if-states-ne2.false)
    first.0 first.1 second.0 second.1

use Rattle.std.proofs.Common.{rules, w64}
use Rattle.polcert_check.proofs.Common.{w128, node_controller}
use Rattle.std.proofs.lemmas.Int.{to_z-of_z}
use Rattle.polcert_check.proofs.Walking.Weighed.{seen_weighed, weight_room, weight_small}
use Rattle.polcert_check.proofs.end_values.observation_value.Goals as goal

pub weigh-requires-clause-weight : goal.weigh-requires-clause-weight
weigh-requires-clause-weight g c = weight_small (seen_weighed _ c.args.node.now.input.proper.cells
    (g.met.C.Cells.is_within_limits _) _ _
    (c.args.node.now.input.proper.closed.actions_in_range _ c.args.node.now.within) c.requires.end) _ _ c.requires.observation
    c.requires.weight

pub weigh-requires-clause-product : goal.weigh-requires-clause-product
weigh-requires-clause-product g c =
    let k = node_controller c.args.node.now in
    let v = c.value_of.result in
    let narrow = to_z-of_z w64 v (search rules) in
    rw (narrow, (to_z-of_z w128 v (search rules)), c.value_of.ensures) (weight_room (seen_weighed _ c.args.node.now.input.proper.cells
    (g.met.C.Cells.is_within_limits _) _ _
    (c.args.node.now.input.proper.closed.actions_in_range _ c.args.node.now.within) c.requires.end) _ _
    (k.value c.in-Some.m c.args.e) c.requires.observation c.requires.weight
    (c.args.node.now.input.values _ _ (c.next.ensures.node _ c.in-Some.is) c.requires.end))

pub returns-in-None-clause-missing : goal.returns-in-None-clause-missing
returns-in-None-clause-missing g c = search rules

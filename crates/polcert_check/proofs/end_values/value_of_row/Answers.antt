use Rattle.polcert_check.proofs.Common.{node_controller}
use Rattle.std.proofs.Common.{rules, arith}
use Rattle.polcert_check.proofs.Walking.Weighed.{ends_weighed, weight_small, weighed_on}
use Rattle.polcert_check.proofs.Walking.Expecting.{expected_room, expected_step}
use Rattle.polcert_check.proofs.Walking.Missing.{before_more, before_on}
use Rattle.polcert_check.proofs.end_values.value_of_row.Goals as goal

pub weigh-value-requires-clause-weight : goal.weigh-value-requires-clause-weight
weigh-value-requires-clause-weight g c =
    let next = rw c.action-a.ensures.value at c.in-Some.ensures.0 in
    weight_small (ends_weighed _ c.args.node.now.input.proper.cells (g.met.C.Cells.is_within_limits _) _ _
    (c.args.node.now.input.proper.closed.actions_in_range _ c.args.node.now.within) c.requires.start) _ _ next.1 next.2

pub weigh-value-requires-clause-product : goal.weigh-value-requires-clause-product
weigh-value-requires-clause-product g c =
    let next = rw c.action-a.ensures.value at c.in-Some.ensures.0 in
    expected_room _ c.args.node.now.input.proper (g.met.C.Cells.is_within_limits _) c.args.node.now.input.values _ _ c.args.node.now.within
    c.requires.start _ _ _
    next.1 next.2 (search rules) (c.requires.value _ _ next.1 (omega (arith, next.2, next.3)) c.value_of-part.ensures).value

pub overflow_add-value : goal.overflow_add-value
overflow_add-value g c =
    let next = rw c.action-a.ensures.value at c.in-Some.ensures.0 in
    (expected_step _ c.args.node.now.input.proper (g.met.C.Cells.is_within_limits _) c.args.node.now.input.values _ _ c.args.node.now.within
    c.requires.start _ _ _ _ _ _ next
    c.loop-end.invariant.sum (search rules) (search rules) c.weigh-value.ensures
    (c.requires.value _ _ next.1 (omega (arith, next.2, next.3)) c.value_of-part.ensures).value).0

pub loop-end-preserved : goal.loop-end-preserved
loop-end-preserved g c =
    let next = rw c.action-a.ensures.value at c.in-Some.ensures.0 in
    rw c.in-Some.ensures.1 (record {
      sum = (expected_step _ c.args.node.now.input.proper (g.met.C.Cells.is_within_limits _)
          c.args.node.now.input.values _ _ c.args.node.now.within c.requires.start _ _ _ _ _ _ next
          c.loop-end.invariant.sum (search rules) (search rules) c.weigh-value.ensures
          (c.requires.value _ _ next.1 (omega (arith, next.2, next.3)) c.value_of-part.ensures).value).1;
      missing = before_more (node_controller c.args.node.now) c.args.node.now.n c.args.s _ _ _ _ _ _ next.0 next.4 next.2 next.3
          c.loop-end.invariant.missing (c.requires.value _ _ next.1 (omega (arith, next.2, next.3)) c.value_of-part.ensures).missing
          c.min_option-missing.ensures;
      within = omega (arith, c.in-Some.ensures.0.1);
    })

pub returns : goal.returns
returns g c =
    let none = rw c.action-a.ensures.value at c.in_default.ensures in
    record {
      value = weighed_on _ _ _ _ _ c.loop-end.invariant.within none c.loop-end.invariant.sum;
      missing = before_on (node_controller c.args.node.now) c.args.node.now.n c.args.s _ _ c.loop-end.invariant.within none _
          c.loop-end.invariant.missing;
    }

use Rattle.std.proofs.Common.{rules, arith, to_z}
use Rattle.polcert_check.proofs.Common.{w128, node_controller, reached}
use Rattle.polcert_check.proofs.Walking.Expecting.{value_step, value_done}
use Rattle.polcert_check.proofs.Walking.Missing.{end_more}
use Rattle.polcert_check.proofs.end_values.end_value.Goals as goal

pub overflow_add-value : goal.overflow_add-value
overflow_add-value g c =
    let next = rw c.action-a.ensures.value at c.in-Some.ensures.0 in
    (value_step _ c.args.node.now.input.proper (g.met.C.Cells.is_within_limits _)
    c.args.node.now.input.values
    _ _ _ _ _ _ c.args.node.now.within c.requires.end next.0 next.1 next.4 c.loop-observation.invariant.sum (search rules)
    c.observation_value-part.ensures.value).0

pub loop-observation-preserved : goal.loop-observation-preserved
loop-observation-preserved g c =
    let k = node_controller c.args.node.now in
    let same = c.action-a.ensures.value in
    let next = rw same at c.in-Some.ensures.0 in
    rw c.in-Some.ensures.1 (record {
      sum = (value_step k c.args.node.now.input.proper (g.met.C.Cells.is_within_limits _)
          c.args.node.now.input.values _ _ _
          _ _ _
          c.args.node.now.within
          c.requires.end next.0 next.1 next.4 c.loop-observation.invariant.sum (search rules) c.observation_value-part.ensures.value).1;
      least = end_more k c.args.node.now.n _ (reached _ c.loop-observation.at) _
          _ _ _ _
          next.0
          next.4 next.2 next.3 c.loop-observation.invariant.least c.observation_value-part.ensures.missing c.min_option-missing.ensures;
      within = omega (arith, c.in-Some.ensures.0.1);
    })

pub returns : goal.returns
returns g c =
    let k = node_controller c.args.node.now in
    let same = c.action-a.ensures.value in
    let none = rw same at c.in_default.ensures in
    record {
      value = value_done k _ _ _
          _ c.loop-observation.invariant.within none c.loop-observation.invariant.sum;
      missing = search rules;
    }

pub loop-observation-init : goal.loop-observation-init
loop-observation-init g c = search rules

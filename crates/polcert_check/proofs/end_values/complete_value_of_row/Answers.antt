use Rattle.std.proofs.Common.{rules, arith, ◌≡◌, ◌∙◌, ℕ, Option, Some, None, false, to_z, refl, sym}
use Rattle.std.specs.Option.{is_some}
use Rattle.polcert_check.proofs.Common.{w128, node_controller, reached}
use Rattle.polcert_check.proofs.Walking.Expecting.{value_step, value_done}
use Rattle.polcert_check.proofs.Walking.Missing.{end_more}
use Rattle.polcert_check.proofs.end_values.complete_value_of_row.Goals as goal

none_is : (o : Option ℕ) → is_some o ≡ false → None ≡ o
none_is None e = refl
none_is (Some x) e = absurd (cc)

pub overflow_add-sum : goal.overflow_add-sum
overflow_add-sum g c =
    let next = rw c.action-a.ensures.value at c.in-Some.ensures.0 in
    (value_step _ c.args.node.now.input.proper (g.met.C.Cells.is_within_limits _) c.args.node.now.input.values
    _ _ _ _ _ _ c.args.node.now.within c.requires.end next.0 next.1 next.4 c.loop-observation.invariant.sum (search rules)
    c.observation_value-part.ensures.value).0

pub loop-observation-preserved : goal.loop-observation-preserved
loop-observation-preserved g c =
    let k = node_controller c.args.node.now in
    let same = c.action-a.ensures.value in
    let next = rw same at c.in-Some.ensures.0 in
    let none =
    none_is c.observation_value-part.result.missing (sym c.is_some.ensures ∙ c.if-is_some.false) in
    rw c.in-Some.ensures.1 (record {
      sum = (value_step k c.args.node.now.input.proper (g.met.C.Cells.is_within_limits _)
          c.args.node.now.input.values _ _ _ _
          _ _ c.args.node.now.within c.requires.end next.0 next.1
          next.4 c.loop-observation.invariant.sum (search rules) c.observation_value-part.ensures.value).1;
      none = end_more k c.args.node.now.n _ (reached _ c.loop-observation.at) _
          _ None _ None next.0 next.4 next.2 next.3
          c.loop-observation.invariant.none c.observation_value-part.ensures.missing none;
      within = omega (arith, c.in-Some.ensures.0.1);
    })

pub returns : goal.returns
returns g c =
    let k = node_controller c.args.node.now in
    let same = c.action-a.ensures.value in
    let none = rw same at c.in_default.ensures in
    record {
      value = value_done k _ _ _ _
          c.loop-observation.invariant.within none c.loop-observation.invariant.sum;
      missing = search rules;
    }

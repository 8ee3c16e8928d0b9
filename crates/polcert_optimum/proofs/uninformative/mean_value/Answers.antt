use Rattle.std.proofs.Common.{rules, arith, ◌∙◌, w64}
use Rattle.polcert_optimum.proofs.Common.{w128, value_of}
use Rattle.std.proofs.lemmas.Int.{to_z-of_z}
use Rattle.polcert_check.proofs.Walking.Weighed.{weight_room, weight_small, weighed_step, weighed_on}
use Rattle.polcert_optimum.proofs.Checking.Pairs.{vectors_small}
use Rattle.polcert_optimum.proofs.Checking.Uninformative.{means_weighed, mean_le}
use Rattle.polcert_optimum.proofs.uninformative.mean_value.Goals as goal

pub weigh-sum-requires-clause-weight : goal.weigh-sum-requires-clause-weight
weigh-sum-requires-clause-weight g c = weight_small (means_weighed _ (g.met.C.Cells.is_proper _) (g.met.C.Cells.is_within_limits _) _ _
    c.args.pair.now.action_within c.args.pair.now.state_within) _ _ c.in-Some.ensures.0.1 c.in-Some.ensures.0.2

pub weigh-sum-requires-clause-product : goal.weigh-sum-requires-clause-product
weigh-sum-requires-clause-product g c =
    let t = g.C.Cells.table _ in
    let pair = c.args.pair.now in
    let next = c.in-Some.ensures.0 in
    let is = to_z-of_z w128 _ (search rules) ∙ to_z-of_z w64 _ (search rules)
    ∙ c.at-value.ensures.value in
    rw is (weight_room (means_weighed t (g.met.C.Cells.is_proper _) (g.met.C.Cells.is_within_limits _) _ _
    pair.action_within pair.state_within) _ _
    (value_of pair.vectors.now _ _) next.1 next.2 (vectors_small t _ pair.fit pair.proper _ _ c.requires next.1))

pub overflow_add-sum : goal.overflow_add-sum
overflow_add-sum g c =
    let t = g.C.Cells.table _ in
    let pair = c.args.pair.now in
    let next = c.in-Some.ensures.0 in
    (weighed_step (means_weighed t (g.met.C.Cells.is_proper _) (g.met.C.Cells.is_within_limits _) _ _
    pair.action_within pair.state_within) _
    (λ e. vectors_small t _ pair.fit pair.proper _ e c.requires)
    _ _ _ _ _
    _ next.0 next.1 next.2 next.4 c.loop-end.invariant.sum (search rules) (search rules)
    c.weigh-sum.ensures (to_z-of_z w64 _ (search rules) ∙ c.at-value.ensures.value)).0

pub loop-end-preserved : goal.loop-end-preserved
loop-end-preserved g c =
    let t = g.C.Cells.table _ in
    let pair = c.args.pair.now in
    let next = c.in-Some.ensures.0 in
    rw c.in-Some.ensures.1 (record {
      sum = (weighed_step (means_weighed t (g.met.C.Cells.is_proper _) (g.met.C.Cells.is_within_limits _) _ _
          pair.action_within pair.state_within) _
          (λ e. vectors_small t _ pair.fit pair.proper _ e c.requires)
          _ _ _ _
          _ _ next.0 next.1 next.2 next.4 c.loop-end.invariant.sum (search rules)
          (search rules) c.weigh-sum.ensures (to_z-of_z w64 _ (search rules) ∙ c.at-value.ensures.value)).1;
      within = omega arith;
    })

pub returns : goal.returns
returns g c =
    let t = g.C.Cells.table _ in
    let pair = c.args.pair.now in
    let is = weighed_on _ _ _
    _ _ c.loop-end.invariant.within c.in_default.ensures c.loop-end.invariant.sum in
    record {
      is = is;
      small = rw is (mean_le t (g.met.C.Cells.is_proper _) _ (λ e. vectors_small t _ pair.fit pair.proper _ e c.requires)
          _ _ pair.action_within pair.state_within);
    }

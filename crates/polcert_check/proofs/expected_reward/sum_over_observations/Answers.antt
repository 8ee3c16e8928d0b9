use Rattle.std.proofs.Common.{rules, arith, to_z, of_z, w64, ◌∙◌}
use Rattle.std.proofs.lemmas.Int.{to_z-of_z}
use Rattle.polcert_check.proofs.Walking.Weighed.{seen_weighed, weight_room, weight_small, weighed_step, weighed_on}
use Rattle.polcert_check.proofs.expected_reward.sum_over_observations.Goals as goal

pub weigh-sum-requires-clause-weight : goal.weigh-sum-requires-clause-weight
weigh-sum-requires-clause-weight g c = weight_small
    (seen_weighed _ (g.met.C.Cells.is_proper _) (g.met.C.Cells.is_within_limits _) _ _ c.requires.action
    c.requires.end) _ _ c.in-Some.ensures.0.1 c.in-Some.ensures.0.2

pub weigh-sum-requires-clause-product : goal.weigh-sum-requires-clause-product
weigh-sum-requires-clause-product g c = grind (arith, to_z, of_z, to_z-of_z, seen_weighed, weight_room)

pub overflow_add-sum : goal.overflow_add-sum
overflow_add-sum g c =
    let next = c.in-Some.ensures.0 in
    (weighed_step (seen_weighed _ (g.met.C.Cells.is_proper _) (g.met.C.Cells.is_within_limits _) _ _
    c.requires.action c.requires.end) _ (λ z. (g.met.C.Cells.is_within_limits _).r _ _ _ z c.requires.action c.requires.start
    c.requires.end) _ _ _ _ _ _ next.0 next.1 next.2 next.4 c.loop-observation.invariant.sum (search rules) (search rules)
    c.weigh-sum.ensures (to_z-of_z w64 _ (search rules) ∙ (c.requires.reward _ _ next.1 c.reward_of-reward.ensures))).0

pub loop-observation-preserved : goal.loop-observation-preserved
loop-observation-preserved g c =
    let next = c.in-Some.ensures.0 in
    rw c.in-Some.ensures.1 (record {
      sum = (weighed_step (seen_weighed _ (g.met.C.Cells.is_proper _) (g.met.C.Cells.is_within_limits _) _ _
          c.requires.action c.requires.end) _ (λ z. (g.met.C.Cells.is_within_limits _).r _ _ _ z c.requires.action c.requires.start
          c.requires.end) _ _ _ _ _ _ next.0 next.1 next.2 next.4 c.loop-observation.invariant.sum (search rules) (search rules)
          c.weigh-sum.ensures (to_z-of_z w64 _ (search rules) ∙ (c.requires.reward _ _ next.1 c.reward_of-reward.ensures))).1;
      within = omega (arith, c.in-Some.ensures.0.1);
    })

pub returns : goal.returns
returns g c = weighed_on _ _ _ _ _ c.loop-observation.invariant.within c.in_default.ensures c.loop-observation.invariant.sum

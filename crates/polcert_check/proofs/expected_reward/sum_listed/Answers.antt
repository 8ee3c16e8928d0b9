use Rattle.std.proofs.Common.{rules, arith, w64}
use Rattle.std.proofs.lemmas.Int.{to_z-of_z}
use Rattle.polcert_check.proofs.Sums.Gaps.{weighed_is}
use Rattle.polcert_check.proofs.Sums.Scales.{scales_small}
use Rattle.polcert_check.proofs.Walking.Weighed.{ends_weighed, weight_small, weighed_on}
use Rattle.polcert_check.proofs.Walking.Earning.{reward_room, reward_step}
use Rattle.polcert_check.proofs.Walking.Listed.{listed_at_end}
use Rattle.polcert_check.proofs.expected_reward.sum_listed.Goals as goal

pub skip_listed-next-requires-clause-room : goal.skip_listed-next-requires-clause-room
skip_listed-next-requires-clause-room g c = (c.requires.rewards.0 0 (g.met.C.Cells.is_within_limits _).observations.0).room

pub skip_listed-next-requires-clause-before : goal.skip_listed-next-requires-clause-before
skip_listed-next-requires-clause-before g c = λ k l. omega (arith, (c.loop-end.invariant.before k l), c.in-Some.ensures.0.0)

pub listed_reward-reward-requires-clause-room : goal.listed_reward-reward-requires-clause-room
listed_reward-reward-requires-clause-room g c = (c.requires.rewards.0 0
    (g.met.C.Cells.is_within_limits _).observations.0).room

pub weigh-at_end-requires-clause-weight : goal.weigh-at_end-requires-clause-weight
weigh-at_end-requires-clause-weight g c = rw c.o_scale-scale.ensures
    (scales_small (g.C.Cells.table _) (g.met.C.Cells.is_within_limits _)).1

pub weigh-sum-requires-clause-weight : goal.weigh-sum-requires-clause-weight
weigh-sum-requires-clause-weight g c = weight_small
    (ends_weighed _ (g.met.C.Cells.is_proper _) (g.met.C.Cells.is_within_limits _) _ _ c.requires.action
    c.requires.start) _ _ c.in-Some.ensures.0.1 c.in-Some.ensures.0.2

pub weigh-sum-requires-clause-product : goal.weigh-sum-requires-clause-product
weigh-sum-requires-clause-product g c =
    let is = listed_at_end _ (g.met.C.Cells.is_proper _) (g.met.C.Cells.is_within_limits _) _ _ _ _ _ _ _ c.requires.action
    c.in-Some.ensures.0.1 c.requires.rewards c.listed_reward-reward.ensures
    (weighed_is _ _ _ _ _ (search rules) c.weigh-at_end.ensures c.o_scale-scale.ensures (to_z-of_z w64 _ (search rules))) in
    reward_room _ (g.met.C.Cells.is_proper _) (g.met.C.Cells.is_within_limits _) _ _ c.requires.action
    c.requires.start _ _ _ c.in-Some.ensures.0.1 c.in-Some.ensures.0.2 (search rules) is

pub overflow_add-sum : goal.overflow_add-sum
overflow_add-sum g c =
    let is = listed_at_end _ (g.met.C.Cells.is_proper _) (g.met.C.Cells.is_within_limits _) _ _ _ _ _ _ _ c.requires.action
    c.in-Some.ensures.0.1 c.requires.rewards c.listed_reward-reward.ensures
    (weighed_is _ _ _ _ _ (search rules) c.weigh-at_end.ensures c.o_scale-scale.ensures (to_z-of_z w64 _ (search rules))) in
    (reward_step _ (g.met.C.Cells.is_proper _) (g.met.C.Cells.is_within_limits _) _ _ c.requires.action
    c.requires.start _ _ _ _ _ _ c.in-Some.ensures.0 c.loop-end.invariant.sum (search rules) (search rules) c.weigh-sum.ensures is).0

pub loop-end-preserved : goal.loop-end-preserved
loop-end-preserved g c =
    let is = listed_at_end _ (g.met.C.Cells.is_proper _) (g.met.C.Cells.is_within_limits _) _ _ _ _ _ _ _ c.requires.action
    c.in-Some.ensures.0.1 c.requires.rewards c.listed_reward-reward.ensures
    (weighed_is _ _ _ _ _ (search rules) c.weigh-at_end.ensures c.o_scale-scale.ensures (to_z-of_z w64 _ (search rules))) in
    rw c.in-Some.ensures.1 (record {
      sum = (reward_step _ (g.met.C.Cells.is_proper _) (g.met.C.Cells.is_within_limits _) _ _ c.requires.action
          c.requires.start _ _ _ _ _ _ c.in-Some.ensures.0 c.loop-end.invariant.sum (search rules) (search rules) c.weigh-sum.ensures is).1;
      within = omega (arith, c.in-Some.ensures.0.1);
      before = λ k l. let b = c.skip_listed-next.ensures.before k l in omega (arith, b);
      listed = c.skip_listed-next.ensures.within;
    })

pub returns : goal.returns
returns g c = weighed_on _ _ _ _ _ c.loop-end.invariant.within c.in_default.ensures c.loop-end.invariant.sum

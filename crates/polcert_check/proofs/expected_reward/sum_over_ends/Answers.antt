use Rattle.std.proofs.Common.{rules, arith, subst}
use Rattle.polcert_check.proofs.Common.{IsEndRun}
use Rattle.std.proofs.lemmas.Option.{same_Some}
use Rattle.polcert_check.proofs.Walking.Weighed.{ends_weighed, weight_small, weighed_on}
use Rattle.polcert_check.proofs.Walking.Earning.{reward_room, reward_step}
use Rattle.polcert_check.proofs.expected_reward.sum_over_ends.Goals as goal

pub weigh-sum-requires-clause-weight : goal.weigh-sum-requires-clause-weight
weigh-sum-requires-clause-weight g c = weight_small
    (ends_weighed _ (g.met.C.Cells.is_proper _) (g.met.C.Cells.is_within_limits _) _ _ c.requires.action
    c.requires.start) _ _ c.in-Some.ensures.0.1 c.in-Some.ensures.0.2

pub weigh-sum-requires-clause-product : goal.weigh-sum-requires-clause-product
weigh-sum-requires-clause-product g c =
    reward_room _ (g.met.C.Cells.is_proper _) (g.met.C.Cells.is_within_limits _) _ _ c.requires.action
    c.requires.start _ _ _ c.in-Some.ensures.0.1 c.in-Some.ensures.0.2 (search rules) c.run_at-here.ensures.here

pub overflow_add-sum : goal.overflow_add-sum
overflow_add-sum g c =
    (reward_step _ (g.met.C.Cells.is_proper _) (g.met.C.Cells.is_within_limits _) _ _ c.requires.action
    c.requires.start _ _ _ _ _ _ c.in-Some.ensures.0 c.loop-end.invariant.sum (search rules) (search rules) c.weigh-sum.ensures
    c.run_at-here.ensures.here).0

pub loop-end-preserved : goal.loop-end-preserved
loop-end-preserved g c =
    rw c.in-Some.ensures.1 (record {
      sum = (reward_step _ (g.met.C.Cells.is_proper _) (g.met.C.Cells.is_within_limits _) _ _ c.requires.action
          c.requires.start _ _ _ _ _ _ c.in-Some.ensures.0 c.loop-end.invariant.sum (search rules) (search rules) c.weigh-sum.ensures
          c.run_at-here.ensures.here).1;
      within = omega (arith, c.in-Some.ensures.0.1);
      run = λ run is.
          subst (IsEndRun (g.C.Cells.table _) c.args.a c.args.s) (same_Some _ _ is) c.run_at-here.ensures.run;
    })

pub returns : goal.returns
returns g c = weighed_on _ _ _ _ _ c.loop-end.invariant.within c.in_default.ensures c.loop-end.invariant.sum

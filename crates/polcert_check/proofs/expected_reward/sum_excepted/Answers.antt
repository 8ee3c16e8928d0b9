use Rattle.std.proofs.Common.{of_z}
use Rattle.std.proofs.Common.{rules, arith, refl, ◌∙◌, ap, to_z, w64}
use Rattle.polcert_check.proofs.Common.{w128}
use Rattle.std.proofs.lemmas.Int.{to_z-of_z}
use Rattle.polcert_check.proofs.Sums.Gaps.{weighed_is}
use Rattle.polcert_check.proofs.Walking.Excepted.{exception_small, exception_room, exception_more, sum_until, sum_until_none, sum_until_all}
use Rattle.polcert_check.proofs.expected_reward.sum_excepted.Goals as goal

pub loop-i-init : goal.loop-i-init
loop-i-init g c = λ w r count b are.
    to_z-of_z w128 c.weigh-shared.result (search rules)
    ∙ weighed_is _ _ _ _ _
    (search rules) c.weigh-shared.ensures refl (to_z-of_z w64 c.args.common.reward (search rules))
    ∙ sum_until_none _ _ _ _ _ _ _ _ are

pub weigh-part-requires-clause-weight : goal.weigh-part-requires-clause-weight
weigh-part-requires-clause-weight g c =
    let (w, r, count, b, are) = c.requires.rewards in
    exception_small _ _ _ _ w r count b are (search rules) _ c.loop-i-test.true _
    c.weight_of-weight.ensures

pub weigh-part-requires-clause-product : goal.weigh-part-requires-clause-product
weigh-part-requires-clause-product g c =
    let (w, r, count, b, are) = c.requires.rewards in
    exception_room _ _ _ _ w r count b are (search rules) _ c.loop-i-test.true _ c.weight_of-weight.ensures
    (search rules)

pub overflow_add-sum : goal.overflow_add-sum
overflow_add-sum g c =
    let (w, r, count, b, are) = c.requires.rewards in
    (exception_more _ _ _ _ w r count b are (search rules) _ c.loop-i-test.true _
    c.weight_of-weight.ensures
    _ _ (search rules) (search rules) c.weigh-part.ensures
    (c.loop-i.invariant w r count b are)).0

pub loop-i-preserved : goal.loop-i-preserved
loop-i-preserved g c = λ w r count b are.
    (exception_more _ _ _ _ w r count b are (search rules) _ c.loop-i-test.true _
    c.weight_of-weight.ensures
    _ _ (search rules) (search rules) c.weigh-part.ensures
    (c.loop-i.invariant w r count b are)).1

pub returns : goal.returns
returns g c = λ w r count b are.
    c.loop-i.invariant w r count b are ∙ ap (sum_until w r count c.args.scale c.args.common c.args.exceptions.now)
    (omega (arith, c.loop-i-test.false, c.loop-i.auto.i-end))
    ∙ sum_until_all _ _ _ _ _ _ _ _ are

use Rattle.std.proofs.Common.{rules, to_z, of_z, w64, refl}
use Rattle.std.proofs.lemmas.Int.{to_z-of_z}
use Rattle.polcert_check.proofs.Sums.Amounts.{amount_from}
use Rattle.polcert_check.proofs.Sums.Gaps.{weighed_is}
use Rattle.polcert_check.proofs.shortfall.shortfall_of.Goals as goal

pub overflow_sub-result : goal.overflow_sub-result
overflow_sub-result c =
    let scaled = weighed_is 1000000 1000000 c.weigh-scaled.result c.weigh-at_scale.result c.weigh-at_scale.result (search rules)
    c.weigh-scaled.ensures refl refl in
    let earned = weighed_is 1000000 1000000 c.weigh-earned.result c.args.reward c.args.reward c.ranges.reward c.weigh-earned.ensures refl
    refl in
    let later = weighed_is c.from.result c.args.discount c.weigh-later.result c.args.expected c.args.expected c.ranges.expected
    c.weigh-later.ensures c.from.ensures refl in
    (amount_from c.args.step_scale c.args.discount c.args.value c.args.reward c.args.expected _ _ _ _ c.requires.scale c.requires.discount
    c.requires.value c.requires.reward c.requires.expected (search rules) (search rules) (search rules)
    (weighed_is c.args.step_scale c.args.step_scale c.weigh-at_scale.result (to_z w64 (of_z w64 c.args.value)) c.args.value (search rules)
    c.weigh-at_scale.ensures refl (to_z-of_z w64 c.args.value c.ranges.value)) scaled earned later).0

pub returns : goal.returns
returns c =
    let scaled = weighed_is 1000000 1000000 c.weigh-scaled.result c.weigh-at_scale.result c.weigh-at_scale.result (search rules)
    c.weigh-scaled.ensures refl refl in
    let earned = weighed_is 1000000 1000000 _ _ _ c.ranges.reward c.weigh-earned.ensures refl
    refl in
    let later = weighed_is _ _ _ _ _ c.ranges.expected
    c.weigh-later.ensures c.from.ensures refl in
    (amount_from _ _ _ _ _ _ _ _ _ c.requires.scale c.requires.discount
    c.requires.value c.requires.reward c.requires.expected (search rules) (search rules) (search rules)
    (weighed_is _ _ _ _ _ (search rules)
    c.weigh-at_scale.ensures refl (to_z-of_z w64 c.args.value c.ranges.value)) scaled earned later).1

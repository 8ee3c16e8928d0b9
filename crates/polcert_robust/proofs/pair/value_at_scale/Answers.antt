use Rattle.std.proofs.Common.{w64, rules, refl}
use Rattle.std.proofs.lemmas.Int.{to_z-of_z}
use mir.Syntax.{w128}
use Rattle.polcert_check.proofs.Sums.Gaps.{weighed_is}
use Rattle.polcert_robust.proofs.Worths.{scaled_small, scaled_value}
use Rattle.polcert_robust.proofs.pair.value_at_scale.Goals as goal

pub returns : goal.returns
returns c =
    let at_scale =
    weighed_is _ _ _ _ _
    (search rules)
    c.weigh_number-at_scale.ensures refl (to_z-of_z w64 _ c.ranges.value) in
    let scaled =
    weighed_is 1000000 1000000 c.weigh_number.result c.weigh_number-at_scale.result c.weigh_number-at_scale.result (search rules)
    c.weigh_number.ensures refl refl in
    rw (to_z-of_z w128 c.weigh_number.result (search rules)) (record {
      is = scaled_value c.args.step_scale _ _ _ at_scale scaled;
      small = scaled_small _ _ _ _ c.requires.scale c.requires.value at_scale scaled;
    })

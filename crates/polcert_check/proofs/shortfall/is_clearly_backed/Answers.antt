use Rattle.std.proofs.Common.{rules, pos, ◌-ℤ◌, ◌*ℤ◌, to_z, of_z, w64, refl}
use Rattle.polcert_check.proofs.Common.{w128}
use Rattle.std.proofs.lemmas.Int.{to_z-of_z}
use Rattle.polcert_check.proofs.Sums.Amounts.{lead_is}
use Rattle.polcert_check.proofs.Sums.Gaps.{weighed_is}
use Rattle.polcert_check.proofs.Sums.UpperBits.{above_zero, below_zero, by_lead, by_upper_bits, one_more}
use Rattle.polcert_check.proofs.shortfall.is_clearly_backed.Goals as goal

pub upper_bits-lead-requires : goal.upper_bits-lead-requires
upper_bits-lead-requires c =
    (lead_is _ _ _ _ c.requires.scale c.requires.value c.requires.reward (search rules)
    c.ranges.reward (weighed_is _ _ _ _ _
    (search rules) c.weigh.ensures refl (to_z-of_z w64 c.args.value c.ranges.value))).0

pub returns-in-Below : goal.returns-in-Below
returns-in-Below c test =
    let at_scale =
    weighed_is _ _ _ _ _ (search rules)
    c.weigh.ensures refl (to_z-of_z w64 _ c.ranges.value) in
    let lead = (lead_is c.args.step_scale c.args.value c.args.reward c.weigh.result c.requires.scale c.requires.value c.requires.reward
    (search rules) c.ranges.reward at_scale).1 in
    let later = to_z-of_z w128 _ c.ranges.expected in
    let difference = pos c.args.step_scale *ℤ c.args.value -ℤ c.args.reward in
    let l = c.upper_bits-lead.result in
    let h = c.upper_bits-later.result in
    let whole = to_z-of_z w64 h (search rules) in
    let less = rw (one_more l c.upper_bits-lead.ensures.small, whole) at (c.is_at_most.ensures test) in
    let above = rw lead at c.upper_bits-lead.ensures.above in
    let below = rw later at c.upper_bits-later.ensures.below in
    rw c.in-Below.is (below_zero _ _ _
    (by_lead c.args.step_scale c.args.discount c.args.value c.args.reward c.args.expected)
    (by_upper_bits 1000000 c.args.discount difference c.args.expected l h above below less))

pub returns-in-Above : goal.returns-in-Above
returns-in-Above c test =
    let at_scale =
    weighed_is _ _ _ _ _ (search rules)
    c.weigh.ensures refl (to_z-of_z w64 _ c.ranges.value) in
    let lead = (lead_is c.args.step_scale c.args.value c.args.reward c.weigh.result c.requires.scale c.requires.value c.requires.reward
    (search rules) c.ranges.reward at_scale).1 in
    let later = to_z-of_z w128 _ c.ranges.expected in
    let difference = pos c.args.step_scale *ℤ c.args.value -ℤ c.args.reward in
    let l = c.upper_bits-lead.result in
    let h = c.upper_bits-later.result in
    let whole = to_z-of_z w64 l (search rules) in
    let less = rw (one_more h c.upper_bits-later.ensures.small, whole) at (c.is_at_most-in-Above.ensures test) in
    let above = rw later at c.upper_bits-later.ensures.above in
    rw c.in-Above.is (above_zero (pos 1000000 *ℤ difference) (pos c.args.discount *ℤ c.args.expected) _
    (by_lead c.args.step_scale c.args.discount c.args.value c.args.reward c.args.expected)
    (by_upper_bits c.args.discount 1000000 c.args.expected difference h l above (rw lead at c.upper_bits-lead.ensures.below) less))

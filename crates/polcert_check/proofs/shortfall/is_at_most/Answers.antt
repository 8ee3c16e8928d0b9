use Rattle.std.proofs.Common.{rules, w64, ◌∙◌}
use Rattle.std.proofs.lemmas.Int.{to_z-of_z}
use Rattle.polcert_check.proofs.Sums.UpperBits.{product_fits, product_le}
use Rattle.polcert_check.proofs.shortfall.is_at_most.Goals as goal

pub overflow_mul-result : goal.overflow_mul-result
overflow_mul-result c = rw (to_z-of_z w64 c.args.number c.ranges.number, to_z-of_z w64 c.from.result (search rules), c.from.ensures)
    (product_fits _ _ c.requires.weight c.requires.number)

pub returns : goal.returns
returns c test =
    let number = to_z-of_z w64 _ c.ranges.number in
    let other = to_z-of_z w64 _ c.ranges.other in
    let weight = to_z-of_z w64 _ (search rules) ∙ c.from.ensures in
    product_le _ _ _ _ c.requires.weight c.requires.other_weight c.requires.number
    c.requires.other (rw (weight, number, (to_z-of_z w64 c.from-2.result (search rules) ∙ c.from-2.ensures), other) at test)

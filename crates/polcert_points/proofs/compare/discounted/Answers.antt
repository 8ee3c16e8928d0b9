use Rattle.std.proofs.Common.{◌≡◌, ℕ, ℤ, pos, ◌+ℤ◌, ◌≤◌, unsigned_abs, to_z, of_z, arith, rules}
use Rattle.std.proofs.lemmas.Int.{to_z-of_z, to_z_pos}
use Rattle.polcert_points.proofs.Common.{w128}
use Rattle.polcert_points.proofs.Comparing.{fits_of, sum_small, discounted_value}
use Rattle.polcert_points.proofs.compare.discounted.Goals as goal

sum_is : (main : ℤ) (part : ℕ) → unsigned_abs main ≤ 50000000000000000000000000000001000000 → part ≤ 1000000
    → to_z w128 (of_z w128 (to_z w128 (of_z w128 main) +ℤ to_z w128 part)) ≡ main +ℤ pos part
sum_is main part small few =
    rw (
      to_z-of_z w128 main (fits_of main 50000000000000000000000000000001000000 small (omega arith)),
      to_z_pos w128 part
          (omega (arith, few)),
    )
    (to_z-of_z w128 (main +ℤ pos part) (fits_of (main +ℤ pos part) 50000000000000000000000000000002000000 (sum_small main part small few)
    (omega arith)))

pub returns-clause-value : goal.returns-clause-value
returns-clause-value c =
    rw (sum_is c.discounted_whole-main.result c.discounted_rest-more.result c.discounted_whole-main.ensures.small
    c.discounted_rest-more.ensures.small)
    ((discounted_value c.args.discount c.rest_of-rest.result c.discounted_rest-more.result c.args.number c.whole_part-whole.result
    c.discounted_whole-main.result (rw (
      to_z-of_z w128 c.args.number c.ranges.number,
      to_z-of_z w128 c.whole_part-whole.result
          (search rules),
    ) at c.rest_of-rest.ensures.value) (rw (to_z-of_z w128 c.whole_part-whole.result (search rules)) at
    c.discounted_whole-main.ensures.value) c.discounted_rest-more.ensures.enough c.discounted_rest-more.ensures.least).0)

pub returns-clause-least : goal.returns-clause-least
returns-clause-least c =
    rw (sum_is c.discounted_whole-main.result c.discounted_rest-more.result c.discounted_whole-main.ensures.small
    c.discounted_rest-more.ensures.small)
    ((discounted_value c.args.discount c.rest_of-rest.result c.discounted_rest-more.result c.args.number c.whole_part-whole.result
    c.discounted_whole-main.result (rw (
      to_z-of_z w128 c.args.number c.ranges.number,
      to_z-of_z w128 c.whole_part-whole.result
          (search rules),
    ) at c.rest_of-rest.ensures.value) (rw (to_z-of_z w128 c.whole_part-whole.result (search rules)) at
    c.discounted_whole-main.ensures.value) c.discounted_rest-more.ensures.enough c.discounted_rest-more.ensures.least).1)

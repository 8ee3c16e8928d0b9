use Rattle.std.proofs.Common.{◌≡◌, ℤ, pos, ◌+ℤ◌, ◌-ℤ◌, ◌*ℤ◌, ◌≤◌, unsigned_abs, FitsSigned, to_z, of_z, arith}
use Rattle.std.proofs.lemmas.Int.{to_z-of_z}
use Rattle.polcert_points.proofs.Common.{ints, w128, one}
use Rattle.polcert_points.proofs.Comparing.{fits_of, excess_value}
use Rattle.polcert_points.proofs.compare.excess.Goals as goal

pub discounted-after-requires-clause-discount : goal.discounted-after-requires-clause-discount
unfolding one
discounted-after-requires-clause-discount c = c.requires.discount

difference_small : (reward worth : ℤ) → unsigned_abs reward ≤ 50000000000000000000000000000000000000
    → unsigned_abs worth ≤ 50000000000000000000000000000000000000 → unsigned_abs (reward -ℤ worth) ≤ 100000000000000000000000000000000000000
difference_small reward worth h k = omega (arith, ints, h, k)

all_small : (x after : ℤ) → unsigned_abs x ≤ 100000000000000000000000000000000000000
    → unsigned_abs after ≤ 50000000000000000000000000000002000000 → unsigned_abs (x +ℤ after) ≤ 150000000000000000000000000000002000000
all_small x after h k = omega (arith, ints, h, k)

difference_is : (reward worth : ℤ) → FitsSigned w128 reward → FitsSigned w128 worth
    → unsigned_abs reward ≤ 50000000000000000000000000000000000000 → unsigned_abs worth ≤ 50000000000000000000000000000000000000
    → to_z w128 (of_z w128 (to_z w128 (of_z w128 reward) -ℤ to_z w128 (of_z w128 worth))) ≡ reward -ℤ worth
difference_is reward worth fr fw h k =
    rw (to_z-of_z w128 reward fr, to_z-of_z w128 worth fw)
    (to_z-of_z w128 (reward -ℤ worth) (fits_of (reward -ℤ worth) 100000000000000000000000000000000000000 (difference_small reward worth h k)
    (omega arith)))

pub overflow_add-result : goal.overflow_add-result
overflow_add-result c =
    let after = c.discounted-after.result in
    rw (
      difference_is c.args.reward c.args.worth c.ranges.reward c.ranges.worth c.requires.reward c.requires.worth,
      to_z-of_z w128 after
          (fits_of after 50000000000000000000000000000002000000 c.discounted-after.ensures.small (omega arith)),
    )
    (fits_of ((c.args.reward -ℤ c.args.worth) +ℤ after) 150000000000000000000000000000002000000
    (all_small (c.args.reward -ℤ c.args.worth) after (difference_small c.args.reward c.args.worth c.requires.reward c.requires.worth)
    c.discounted-after.ensures.small) (omega arith))

pub returns : goal.returns
unfolding one
returns c =
    let after = c.discounted-after.result in
    let x = c.args.reward -ℤ c.args.worth in
    rw (
      difference_is c.args.reward c.args.worth c.ranges.reward c.ranges.worth c.requires.reward c.requires.worth,
      to_z-of_z w128 after (fits_of after 50000000000000000000000000000002000000 c.discounted-after.ensures.small (omega arith)),
      to_z-of_z w128 (x +ℤ after) (fits_of (x +ℤ after) 150000000000000000000000000000002000000
          (all_small x after (difference_small c.args.reward c.args.worth c.requires.reward c.requires.worth)
          c.discounted-after.ensures.small) (omega arith)),
    )
    (excess_value 1000000 c.args.reward (pos c.args.discount *ℤ c.args.later) c.args.worth after after
    (rw (to_z-of_z w128 c.args.later c.ranges.later) at c.discounted-after.ensures.value)
    (rw (to_z-of_z w128 c.args.later c.ranges.later) at c.discounted-after.ensures.least))

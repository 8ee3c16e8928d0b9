use Rattle.std.proofs.Common.{rules, arith}
use Rattle.polcert_optimum.proofs.Common.{w128, value_of, one}
use Rattle.std.proofs.lemmas.Int.{to_z-of_z}
use Rattle.polcert_check.proofs.Sums.Scales.{discount_le}
use Rattle.polcert_check.proofs.Lowerings.Least.{at_one}
use Rattle.polcert_optimum.proofs.Checking.Raising.{least_zero, no_constant}
use Rattle.polcert_optimum.proofs.raise.least_raise_of_any_size.Goals as goal

pub least_below_one-requires-clause-discount : goal.least_below_one-requires-clause-discount
unfolding one
least_below_one-requires-clause-discount g c = omega arith

pub returns-in-Yes-clause-least : goal.returns-in-Yes-clause-least
returns-in-Yes-clause-least g c =
    let t = g.C.Cells.table _ in
    least_zero t (g.met.C.Cells.is_proper _) (discount_le t (g.met.C.Cells.is_within_limits _))
    (value_of c.args.vectors.now) c.in-Yes.ensures.verdict

pub returns-in-Exceeded-clause-refused : goal.returns-in-Exceeded-clause-refused
returns-in-Exceeded-clause-refused g c =
    let t = g.C.Cells.table _ in
    let limits = g.met.C.Cells.is_within_limits _ in
    let v = c.in-Exceeded.ensures.verdict in
    rw (to_z-of_z w128 c.in-Exceeded.amount (search rules)) (
      no_constant t (g.met.C.Cells.is_proper _) (discount_le t limits) (value_of c.args.vectors.now) (at_one t limits (omega arith)) _ _ v.0
          v.1 (rw (← v.3) v.4),
      v,
      c.in-Exceeded.ensures.small,
    )

use Rattle.std.proofs.Common.{rules, w64, arith}
use Rattle.std.proofs.lemmas.Int.{ints, to_z-of_z}
use Rattle.polcert_robust.proofs.robust_lower.is_moved_in_range.Goals as goal

pub is_lowered_in_range-requires : goal.is_lowered_in_range-requires
is_lowered_in_range-requires c = omega (arith, ints)

pub returns : goal.returns
returns c =
    rw ((to_z-of_z w64 c.turned.result (search rules)), c.turned.ensures.is, to_z-of_z w64 c.args.value c.ranges.value) at
    c.is_lowered_in_range.ensures

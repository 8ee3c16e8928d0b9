use Rattle.std.proofs.Common.{rules, arith, ◌/◌, ◌%◌, w64, length, pos, slice_index_or}
use Rattle.std.proofs.lemmas.Int.{to_z-of_z}
use Rattle.polcert_policy.specs.Vectors.{value_of}
use Rattle.polcert_points.proofs.LeastCharges.{filled_more, at_place}
use Rattle.polcert_points.proofs.charges.fill_values.Goals as goal

pub loop-k-preserved : goal.loop-k-preserved
loop-k-preserved c =
    rw (to_z-of_z w64 c.at.result (search rules))
    (filled_more (λ j. value_of c.args.vectors.now (j / c.args.vectors.now.states) (j % c.args.vectors.now.states)) c.loop-k.charges
    c.loop-k.k c.at.result (omega (arith, c.loop-k-test.true, c.loop-k.auto)) c.loop-k.invariant
    (rw c.states-states.ensures at c.at.ensures.value))

pub returns : goal.returns
returns c =
    λ a s al sl.
    at_place (value_of c.args.vectors.now) (λ j. slice_index_or c.loop-k.charges j (pos 0)) c.args.vectors.now.states
    c.args.vectors.now.nodes (length c.args.charges.now) a s c.requires
    (λ j jl. c.loop-k.invariant j (omega (arith, jl, c.loop-k.auto, c.loop-k-test.false))) al sl

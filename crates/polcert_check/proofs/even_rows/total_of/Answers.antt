use Rattle.std.proofs.Common.{rules, arith, ◌≡◌, ℕ, ℤ, pos, slice_index_or, to_z, w64, refl}
use Rattle.polcert_check.proofs.Walking.Products.{number_more}
use Rattle.polcert_check.proofs.even_rows.total_of.Goals as goal

pub overflow_add-sum : goal.overflow_add-sum
overflow_add-sum c =
    let f : ℕ → ℤ = λ i. slice_index_or c.args.numbers.now i (pos 0) in
    (number_more f c.loop-i.i (to_z w64 c.loop-i.sum-bits) (f c.loop-i.i) (omega (arith, c.loop-i-test.true, c.requires.few))
    c.loop-i.invariant.sum c.loop-i.invariant.small (search rules) refl (c.requires.limited c.loop-i.i c.loop-i-test.true)).0

pub loop-i-preserved : goal.loop-i-preserved
loop-i-preserved c =
    let f : ℕ → ℤ = λ i. slice_index_or c.args.numbers.now i (pos 0) in
    let more = number_more f c.loop-i.i (to_z w64 c.loop-i.sum-bits) (f c.loop-i.i) (omega (arith, c.loop-i-test.true, c.requires.few))
    c.loop-i.invariant.sum c.loop-i.invariant.small (search rules) refl (c.requires.limited c.loop-i.i c.loop-i-test.true) in
    record { sum = more.1; small = more.2 }

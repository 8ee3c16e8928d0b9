use Rattle.std.proofs.Common.{◌≡◌, ◌∙◌, ℕ, ◌*◌, ◌≤◌, ℤ, pos, negsuc, ◌<ℤ◌, unsigned_abs, arith, refl, ap, subst, rules, w64}
use Rattle.std.proofs.Common.{to_z-of_z, FitsSigned}
use Rattle.std.specs.Int.{w128}
use Rattle.polcert_check.proofs.Common.{ints, largest, one, IsCeilQuotient}
use Rattle.polcert_check.proofs.Sums.Scales.{scales_le}
use Rattle.polcert_check.proofs.shortfall.millionths_short.Goals as goal

small_enough : (amount t o : ℕ) → amount ≤ 4 * (t * o * one) * largest → amount ≤ t * o * 1000000 * 40000000000000
unfolding one
small_enough amount t o small = omega (arith, small)

positive : (amount : ℤ) → pos 0 <ℤ amount → pos (unsigned_abs amount) ≡ amount
positive (pos n) some = refl
positive (negsuc n) some = absurd (omega (arith, ints, some))

quotient : (amount : ℤ) (t o : ℕ) (q : ℤ) → pos 0 <ℤ amount → IsCeilQuotient (pos (unsigned_abs amount)) (t * o * 1000000) q
    → IsCeilQuotient amount (t * o * one) q
unfolding one
quotient amount t o q some is = subst (λ a. IsCeilQuotient a (t * o * 1000000) q) (positive amount some) is

pub small_quotient-requires-clause-small : goal.small_quotient-requires-clause-small
small_quotient-requires-clause-small g c =
    let small = c.requires.small (g.met.C.Cells.is_within_limits c.args.cells.now) in
    grind (arith, to_z-of_z, small_enough, small)

pub overflow_mul-scale : goal.overflow_mul-scale
overflow_mul-scale g c = grind (arith, scales_le)

pub returns : goal.returns
returns g c =
    let fits : FitsSigned w128 c.args.amount = search rules in
    let same = c.unsigned_abs.ensures.value ∙ ap unsigned_abs (to_z-of_z {w = w128} fits) in
    let narrow_fits : FitsSigned w64 c.small_quotient.result = search rules in
    rw (to_z-of_z {w = w64} narrow_fits) (quotient _ _ _ _ c.requires.short
    (rw (same, c.t_scale.ensures, c.o_scale.ensures) at c.small_quotient.ensures))

use Rattle.std.proofs.Common.{◌≡◌, ◌∙◌, ◌++◌, take, sym, ap, arith, append-nil}
use Rattle.polcert_text.proofs.Common.{decimals}
use Rattle.polcert_text.proofs.Numbers.DecimalLaws.{decimals-zero, next_digit}
use Rattle.polcert_text.proofs.number.put_decimals.Goals as goal

pub nonzero_div-rest : goal.nonzero_div-rest
nonzero_div-rest c = let d = next_digit c.loop-rest.unit c.loop-rest.rest _ _ c.loop-rest.invariant.0 (omega arith) in omega (arith, d.some)

pub nonzero_rem-rest : goal.nonzero_rem-rest
nonzero_rem-rest c = let d = next_digit c.loop-rest.unit c.loop-rest.rest _ _ c.loop-rest.invariant.0 (omega arith) in omega (arith, d.some)

pub loop-rest-preserved : goal.loop-rest-preserved
loop-rest-preserved c =
    let d = next_digit c.loop-rest.unit c.loop-rest.rest _ _ c.loop-rest.invariant.0 (omega arith) in
    grind (arith, d.next)

pub returns-clause-text : goal.returns-clause-text
returns-clause-text c =
    let none : c.loop-rest.rest ≡ 0 = omega arith in
    let u = c.loop-rest.invariant.0 in
    let front = take c.loop-rest.end c.loop-rest.text in
    sym (append-nil front) ∙ ap (λ xs. front ++ xs) (sym (decimals-zero u.places))
    ∙ ap (λ r. front ++ decimals u.places r) (sym none) ∙ u.written

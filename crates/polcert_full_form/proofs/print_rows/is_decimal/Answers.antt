use Rattle.std.proofs.Common.{arith}
use Rattle.polcert_full_form.proofs.Printing.WalkedRows.{decimal_other, decimal_more, decimal_end}
use Rattle.polcert_full_form.proofs.print_rows.is_decimal.Goals as goal

pub loop-step-init : goal.loop-step-init
loop-step-init c = grind arith

pub returns-then-step-columns-ne0 : goal.returns-then-step-columns-ne0
returns-then-step-columns-ne0 c =
    decimal_other _ _ _
    _
    _ ((c.in-Some.ensures _ _ c.weights-weights.ensures).0) c.if-step-columns-ne0.true

pub loop-step-smaller : goal.loop-step-smaller
loop-step-smaller c =
    let next = (c.in-Some.ensures _ _ c.weights-weights.ensures).0 in
    let following = (c.in-Some.ensures _ _ c.weights-weights.ensures).1 in
    omega arith

pub loop-step-preserved : goal.loop-step-preserved
loop-step-preserved c =
    let next = (c.in-Some.ensures _ _ c.weights-weights.ensures).0 in
    rw ((c.in-Some.ensures _ _ c.weights-weights.ensures).1) (record {
      within = omega arith;
      multiples = decimal_more _ _ _ _ _ next c.if-step-columns-ne0.false c.loop-step.invariant.multiples;
    })

pub returns : goal.returns
returns c =
    decimal_end _ _ _
    c.loop-step.invariant.within (c.in_default.ensures _ _ c.weights-weights.ensures)
    c.loop-step.invariant.multiples

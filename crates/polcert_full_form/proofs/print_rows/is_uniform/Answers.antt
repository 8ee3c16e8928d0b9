use Rattle.std.proofs.Common.{arith}
use Rattle.polcert_full_form.proofs.Printing.WalkedRows.{uniform_gap, uniform_other, uniform_end}
use Rattle.polcert_full_form.proofs.print_rows.is_uniform.Goals as goal

pub loop-step-init : goal.loop-step-init
loop-step-init c = grind arith

pub returns-then-step-column : goal.returns-then-step-column
returns-then-step-column c =
    uniform_gap _ _ _ _ _ (rw c.loop-step.invariant.reached at (c.in-Some.ensures _ _ c.weights-weights.ensures).0)
    c.if-step-column.true

pub returns-then-step-ne-ONE : goal.returns-then-step-ne-ONE
returns-then-step-ne-ONE c =
    uniform_other _ _ _ _ _ (rw c.loop-step.invariant.reached at (c.in-Some.ensures _ _ c.weights-weights.ensures).0)
    c.if-step-ne-ONE.true

pub overflow_add-column : goal.overflow_add-column
overflow_add-column c = omega arith

pub loop-step-smaller : goal.loop-step-smaller
loop-step-smaller c =
    let next = rw c.loop-step.invariant.reached at (c.in-Some.ensures _ _ c.weights-weights.ensures).0 in
    omega arith

pub loop-step-preserved : goal.loop-step-preserved
loop-step-preserved c =
    let next = rw c.loop-step.invariant.reached at (c.in-Some.ensures _ _ c.weights-weights.ensures).0 in
    record {
      reached = (c.in-Some.ensures _ _ c.weights-weights.ensures).1;
      within = omega arith;
      ones = grind arith;
    }

pub returns : goal.returns
returns c =
    uniform_end _ _ _ c.loop-step.invariant.within (rw c.loop-step.invariant.reached at c.in_default.ensures _ _ c.weights-weights.ensures)
    c.loop-step.invariant.ones

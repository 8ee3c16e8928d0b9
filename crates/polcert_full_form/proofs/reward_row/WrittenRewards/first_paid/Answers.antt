use Rattle.std.proofs.Common.{◌∙◌, sym, arith}
use Rattle.polcert_full_form.proofs.Common.{row_width}
use Rattle.polcert_full_form.proofs.Printing.PrintedParts.{all_zero}
use Rattle.polcert_full_form.proofs.Denoting.RewardBlocks.{zero_to, paid_from}
use Rattle.polcert_full_form.proofs.reward_row.WrittenRewards.first_paid.Goals as goal

pub loop-first-init : goal.loop-first-init
loop-first-init c = grind arith

pub returns-then-not-are_zero-clause-paid : goal.returns-then-not-are_zero-clause-paid
returns-then-not-are_zero-clause-paid c =
    let row = c.args.self.now in
    let loop = c.loop-first.invariant in
    let size = rw c.columns-columns.ensures.columns at c.min-size.ensures in
    let some = sym c.are_zero.ensures ∙ c.if-not-are_zero.true in
    record {
      before = loop.before;
      within = omega arith;
      paid = paid_from _ _ _ _ _ c.fill.ensures size loop.within some;
    }

pub loop-first-preserved : goal.loop-first-preserved
loop-first-preserved c =
    let row = c.args.self.now in
    let loop = c.loop-first.invariant in
    let size = rw c.columns-columns.ensures.columns at c.min-size.ensures in
    let none = sym c.are_zero.ensures ∙ c.if-not-are_zero.false in
    record {
      within = grind arith;
      before = zero_to _ _ _ _ _ c.fill.ensures size loop.within none loop.before;
    }

pub returns-clause-paid : goal.returns-clause-paid
returns-clause-paid c =
    all_zero (row_width c.args.self.now) _
    (λ k l. c.loop-first.invariant.before k (omega arith))

use Rattle.std.proofs.Common.{◌∙◌, sym, ap, rules, arith, ◌==◌, ◌||◌}
use Rattle.polcert_full_form.proofs.Common.{meaning, states_of}
use Rattle.polcert_full_form.proofs.Printing.PrintedParts as texts
use Rattle.polcert_full_form.proofs.print_model.is_choice.Goals as goal
use Rattle.polcert_full_form.proofs.Denoting.RowEntries.{test_apart}
use Rattle.polcert_cells.proofs.Basics.{or_false_from}

pub returns-then-start_weight-gt1 : goal.returns-then-start_weight-gt1
returns-then-start_weight-gt1 c =
    texts.test_fails (states_of (meaning c.args.model.now)) _
    _ (search rules)
    (ap (λ w. w == 0 || w == 1) (sym c.start_weight.ensures)
    ∙ or_false_from _ _ (test_apart c.start_weight.result 0 (λ e. omega arith))
    (grind arith))

pub loop-state-preserved : goal.loop-state-preserved
loop-state-preserved c = grind arith

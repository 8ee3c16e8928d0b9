use Rattle.std.proofs.Common.{rules, arith}
use Rattle.polcert_full_form.proofs.Common.{meaning, states_of}
use Rattle.polcert_full_form.proofs.Printing.PrintedParts as texts
use Rattle.polcert_full_form.proofs.print_model.has_uniform_start.Goals as goal

pub returns-then-start_weight-ne1 : goal.returns-then-start_weight-ne1
returns-then-start_weight-ne1 c =
    texts.test_fails (states_of (meaning c.args.model.now)) c.loop-state.state _
    (search rules) (grind arith)

pub loop-state-preserved : goal.loop-state-preserved
loop-state-preserved c = grind arith

use Rattle.polcert_text.proofs.Printing.Written.{as_text}
use Rattle.polcert_full_form.proofs.Common.{meaning}
use Rattle.polcert_full_form.proofs.Printing.PrintedParts as texts
use Rattle.polcert_full_form.proofs.print_model.write_start.Goals as goal

pub returns-then-has_uniform_start : goal.returns-then-has_uniform_start
returns-then-has_uniform_start g c = as_text (texts.start_whole (meaning c.args.model.now).start _
    c.args.model.now.limits.start_count c.args.model.now.limits.start_sum (cc))
    c.write_all.ensures

pub returns-then-is_choice : goal.returns-then-is_choice
returns-then-is_choice g c = as_text (texts.start_choice (meaning c.args.model.now).start _
    c.args.model.now.limits.start_count c.args.model.now.limits.start_sum (cc)
    (cc)) c.write_start_line.ensures

pub returns-else-is_choice : goal.returns-else-is_choice
returns-else-is_choice g c = as_text (texts.start_shares (meaning c.args.model.now).start _
    c.args.model.now.limits.start_count c.args.model.now.limits.start_sum (cc)
    (cc)) c.write_start_line-else-is_choice.ensures

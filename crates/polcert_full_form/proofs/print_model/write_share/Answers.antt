use Rattle.std.proofs.Common.{◌∙◌, pos, ap, rules, arith}
use Rattle.polcert_full_form.proofs.Common.{meaning, to_z_pos}
use Rattle.polcert_text.proofs.Printing.Written.{and_then, unwritten, stopped}
use mir.Syntax.{w64}
use Rattle.polcert_full_form.proofs.Printing.PrintedParts as texts
use Rattle.polcert_full_form.proofs.print_model.write_share.Goals as goal

pub returns-in_err-write_all : goal.returns-in_err-write_all
returns-in_err-write_all g c = stopped (search rules) (unwritten _ c.in_err-write_all.ensures)

pub returns : goal.returns
returns g c =
    let m = meaning c.args.model.now in
    let limits = c.args.model.now.limits in
    let small = texts.share_small _ _ limits.start_count limits.start_sum limits.start_most _ c.requires in
    let share = to_z_pos w64 _ (omega arith) ∙ ap pos c.start_weight.ensures in
    and_then c.in_ok-write_all.ensures (grind arith)

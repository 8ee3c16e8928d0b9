use Rattle.std.proofs.Common.{◌∙◌, ◌/◌, pos, ap, sym, rules, FitsSigned, arith}
use Rattle.polcert_text.proofs.Printing.Written.{as_text}
use Rattle.polcert_full_form.proofs.Common.{cell_line, row_weights, column_text}
use Rattle.polcert_full_form.proofs.Printing.WrittenParts.{wrote_nothing}
use Rattle.std.proofs.lemmas.Int.{to_z-of_z}
use mir.Syntax.{w64}
use Rattle.polcert_full_form.proofs.Printing.PrintedParts as texts
use Rattle.polcert_full_form.proofs.print_rows.write_column.Goals as goal

pub millionths_of-scaled-requires-clause-small : goal.millionths_of-scaled-requires-clause-small
millionths_of-scaled-requires-clause-small g c = grind arith

pub returns-in-Decimals : goal.returns-in-Decimals
returns-in-Decimals g c = grind arith

pub returns-then-step-eq-ONE : goal.returns-then-step-eq-ONE
returns-then-step-eq-ONE g c =
    let row = c.args.row.now in
    wrote_nothing (grind arith)

pub returns-else-step-eq-ONE : goal.returns-else-step-eq-ONE
returns-else-step-eq-ONE g c =
    let row = c.args.row.now in
    let n = row.columns in
    let w = row_weights row in
    let k = c.args.step.column in
    let fits : FitsSigned w64 c.millionths_of-scaled.result = search rules in
    let value =
    to_z-of_z w64 _ fits ∙ c.millionths_of-scaled.ensures ∙ ap (λ x. pos (x / n)) c.requires.weight in
    as_text (ap (cell_line row.table _ _ k) value
    ∙ texts.cell_is _ _ _ k _
    ∙ texts.cell_single _ _ _ n w k (grind arith)
    ∙ ap (λ form. column_text form row k) (sym c.in-Cells.is)) c.write_cell_line.ensures

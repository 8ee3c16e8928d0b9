use Rattle.std.proofs.Common.{◌∙◌, sym, arith}
use Rattle.polcert_text.proofs.Printing.Written.{as_text}
use Rattle.polcert_full_form.proofs.Common.{row_weights}
use Rattle.polcert_full_form.proofs.Printing.PrintedParts as texts
use Rattle.polcert_full_form.proofs.Printing.WalkedRows.{some_columns}
use Rattle.polcert_full_form.proofs.print_rows.write_body.Goals as goal

pub returns-then-is_uniform : goal.returns-then-is_uniform
returns-then-is_uniform g c = grind arith

pub returns-then-is_decimal : goal.returns-then-is_decimal
returns-then-is_decimal g c =
    let r = c.args.row.now in
    let w = row_weights r in
    let uniform = sym c.is_uniform.ensures ∙ c.if-is_uniform.false in
    as_text (texts.body_decimal _ _ _ _ w uniform (cc) (some_columns r.columns w uniform))
    c.write_decimals_line.ensures

pub returns-else-is_decimal : goal.returns-else-is_decimal
returns-else-is_decimal g c = grind arith

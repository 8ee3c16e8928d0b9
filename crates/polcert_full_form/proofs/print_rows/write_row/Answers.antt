use Rattle.std.proofs.Common.{rules}
use Rattle.polcert_text.proofs.Printing.Written.{and_then, unwritten, stopped, as_text}
use Rattle.polcert_full_form.proofs.Common.{columns}
use Rattle.polcert_full_form.proofs.Printing.PrintedParts as texts
use Rattle.polcert_full_form.proofs.print_rows.write_row.Goals as goal

pub returns-in_err-write_head : goal.returns-in_err-write_head
returns-in_err-write_head g c =
    as_text (texts.row_is _ _ _ (columns c.args.model.now.kept.preamble c.args.table) _)
    (stopped (search rules) (unwritten _ c.in_err-write_head.ensures))

pub returns : goal.returns
returns g c =
    let n = columns c.args.model.now.kept.preamble c.args.table in
    as_text (texts.row_is _ _ _ n _)
    (and_then c.in_ok-write_head.ensures (rw c.columns.ensures.columns at c.write_body.ensures))

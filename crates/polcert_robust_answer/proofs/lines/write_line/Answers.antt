use Rattle.std.proofs.Common.{◌≡◌, rules, to_z, of_z, w64, to_z-of_z, FitsSigned, ap, sym}
use Rattle.polcert_text.proofs.Printing.Written.{as_text}
use Rattle.polcert_robust_answer.specs.Lines.{line_text}
use Rattle.polcert_robust_answer.proofs.lines.write_line.Goals as goal

pub returns-in-Short : goal.returns-in-Short
returns-in-Short g c =
    let fits : FitsSigned w64 c.in-Short.by = search rules in
    let back : to_z w64 (of_z w64 c.in-Short.by) ≡ c.in-Short.by = to_z-of_z fits in
    as_text (ap (λ l. line_text c.args.within.now l) (sym c.in-Short.is)) (rw back at c.write_near_amount.ensures)

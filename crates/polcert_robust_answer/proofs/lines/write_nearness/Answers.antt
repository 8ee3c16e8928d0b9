use Rattle.std.proofs.Common.{rules, codes, [], if◌then◌else◌}
use Rattle.polcert_text.proofs.Printing.Written.{and_then, unwritten, stopped}
use Rattle.polcert_robust_answer.proofs.lines.write_nearness.Goals as goal

pub returns-in_err-write_all : goal.returns-in_err-write_all
returns-in_err-write_all g c =
    stopped (search rules) (unwritten (if c.args.within.now.is_percent then codes " %" else []) c.in_err-write_all.ensures)

pub returns : goal.returns
returns g c = and_then c.in_ok-write_all.ensures (rw c.unit_of.ensures at c.write_all-2.ensures)

use Rattle.std.proofs.Common.{rules}
use Rattle.std.proofs.lemmas.Int.{to_z-of_z}
use mir.Syntax.{w64}
use Rattle.polcert_text.proofs.Printing.Written.{and_then, unwritten, stopped}
use Rattle.polcert_robust_answer.proofs.lines.write_near_amount.Goals as goal

pub returns-in_err-write_near_pair : goal.returns-in_err-write_near_pair
returns-in_err-write_near_pair g c = stopped (search rules) (unwritten _ (unwritten _ c.in_err-write_near_pair.ensures))

pub returns-in_err-write_scaled : goal.returns-in_err-write_scaled
returns-in_err-write_scaled g c =
    stopped (search rules) (unwritten _ (and_then c.in_ok-write_near_pair.ensures
    (rw (to_z-of_z w64 c.args.by c.ranges.by) at c.in_err-write_scaled.ensures.written)))

pub returns : goal.returns
returns g c =
    and_then (and_then c.in_ok-write_near_pair.ensures (rw (to_z-of_z w64 c.args.by c.ranges.by) at c.in_ok-write_scaled.ensures.written))
    c.write_all.ensures

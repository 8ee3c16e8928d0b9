use Rattle.std.proofs.Common.{rules, codes}
use Rattle.std.proofs.lemmas.Int.{to_z-of_z}
use mir.Syntax.{w64}
use Rattle.polcert_text.specs.Millionths.{scaled_text}
use Rattle.polcert_text.proofs.Printing.Written.{and_then, unwritten, stopped}
use Rattle.polcert_robust_answer.proofs.Common.{count_text}
use Rattle.polcert_robust_answer.proofs.lines.write_worth.Goals as goal

pub returns-in_err-write_models : goal.returns-in_err-write_models
returns-in_err-write_models g c =
    stopped (search rules) (unwritten (codes "\n") (unwritten (scaled_text c.args.worth)
    (unwritten (count_text c.args.node (codes ", at least ")) (unwritten (codes ", start node ") c.in_err-write_models.ensures))))

pub returns-in_err-write_all : goal.returns-in_err-write_all
returns-in_err-write_all g c =
    stopped (search rules) (unwritten (codes "\n") (unwritten (scaled_text c.args.worth)
    (unwritten (count_text c.args.node (codes ", at least ")) (and_then c.in_ok-write_models.ensures c.in_err-write_all.ensures))))

pub returns-in_err-write_count : goal.returns-in_err-write_count
returns-in_err-write_count g c =
    stopped (search rules) (unwritten _ (unwritten _ (and_then (and_then c.in_ok-write_models.ensures c.in_ok-write_all.ensures)
    c.in_err-write_count.ensures)))

pub returns-in_err-write_scaled : goal.returns-in_err-write_scaled
returns-in_err-write_scaled g c =
    stopped (search rules) (unwritten _ (and_then (and_then (and_then c.in_ok-write_models.ensures c.in_ok-write_all.ensures)
    c.in_ok-write_count.ensures) (rw (to_z-of_z w64 c.args.worth c.ranges.worth) at c.in_err-write_scaled.ensures.written)))

pub returns : goal.returns
returns g c =
    and_then (and_then (and_then (and_then c.in_ok-write_models.ensures c.in_ok-write_all.ensures) c.in_ok-write_count.ensures)
    (rw (to_z-of_z w64 c.args.worth c.ranges.worth) at c.in_ok-write_scaled.ensures.written)) c.write_all-2.ensures

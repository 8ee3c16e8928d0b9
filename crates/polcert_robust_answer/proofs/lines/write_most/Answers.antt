use Rattle.std.proofs.Common.{rules, codes}
use Rattle.std.proofs.lemmas.Int.{to_z-of_z}
use mir.Syntax.{w64}
use Rattle.polcert_text.specs.Millionths.{scaled_text}
use Rattle.polcert_text.proofs.Printing.Written.{and_then, unwritten, stopped}
use Rattle.polcert_robust_answer.proofs.lines.write_most.Goals as goal

pub returns-in_err-write_models : goal.returns-in_err-write_models
returns-in_err-write_models g c =
    stopped (search rules) (unwritten (codes "\n") (unwritten (scaled_text c.args.most)
    (unwritten (codes ", every start node, at most ") c.in_err-write_models.ensures)))

pub returns-in_err-write_all : goal.returns-in_err-write_all
returns-in_err-write_all g c =
    stopped (search rules) (unwritten (codes "\n") (unwritten (scaled_text c.args.most)
    (and_then c.in_ok-write_models.ensures c.in_err-write_all.ensures)))

pub returns-in_err-write_scaled : goal.returns-in_err-write_scaled
returns-in_err-write_scaled g c =
    stopped (search rules) (unwritten _ (and_then (and_then c.in_ok-write_models.ensures c.in_ok-write_all.ensures)
    (rw (to_z-of_z w64 c.args.most c.ranges.most) at c.in_err-write_scaled.ensures.written)))

pub returns : goal.returns
returns g c =
    and_then (and_then (and_then c.in_ok-write_models.ensures c.in_ok-write_all.ensures)
    (rw (to_z-of_z w64 c.args.most c.ranges.most) at c.in_ok-write_scaled.ensures.written)) c.write_all-2.ensures

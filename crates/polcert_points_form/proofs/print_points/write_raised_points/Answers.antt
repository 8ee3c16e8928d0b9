use Rattle.std.proofs.Common.{refl, rules, arith}
use Rattle.polcert_text.specs.Sink.{nothing}
use Rattle.polcert_text.proofs.Printing.Taking.{took_then}
use Rattle.polcert_text.proofs.Printing.Written.{wrote_part}
use Rattle.polcert_policy.specs.Points.{PointValues, point_count}
use Rattle.polcert_points_form.specs.FullForm.{points_text_up_to, point_text}
use Rattle.polcert_points_form.specs.RaisedSet.{raised_set}
use Rattle.polcert_points_form.proofs.WrittenPoints.{raised_reads_back}
use Rattle.polcert_points_form.proofs.print_points.write_raised_points.Goals as goal

pub loop-i-init : goal.loop-i-init
loop-i-init g c = record { took = nothing; same_count = refl }

pub returns-in_err-write_point : goal.returns-in_err-write_point
returns-in_err-write_point g c =
    let p : PointValues = c.args.points.now in
    record {
      written = wrote_part (points_text_up_to (raised_set p c.args.by)) (point_text (raised_set p c.args.by)) (λ n. refl) c.loop-i.i
          (point_count p) (search rules) _ (search rules)
          c.loop-i.invariant.took c.loop-i.invariant.same_count c.in_err-write_point.ensures.err c.in_err-write_point.ensures.count;
      reads_back = λ states actions observations text is short. raised_reads_back states actions observations text p c.args.by
          c.count-i-end.ensures.proper is c.requires.room short;
    }

pub loop-i-preserved : goal.loop-i-preserved
loop-i-preserved g c = grind (arith, took_then)

pub returns-clause-reads_back : goal.returns-clause-reads_back
returns-clause-reads_back g c = λ states actions observations text is short. raised_reads_back states actions observations text
    c.args.points.now c.args.by c.count-i-end.ensures.proper is c.requires.room short

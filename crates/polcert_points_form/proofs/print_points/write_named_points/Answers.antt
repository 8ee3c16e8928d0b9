use Rattle.std.proofs.Common.{refl, rules, arith}
use Rattle.polcert_text.specs.Sink.{nothing}
use Rattle.polcert_text.proofs.Printing.Taking.{took_then}
use Rattle.polcert_text.proofs.Printing.Written.{wrote_part}
use Rattle.polcert_policy.specs.Points.{PointValues, named_at}
use Rattle.polcert_points_form.specs.FullForm.{names_text, point_name_text}
use Rattle.polcert_points_form.proofs.print_points.write_named_points.Goals as goal

pub loop-z-init : goal.loop-z-init
loop-z-init g c = record { took = nothing; same_count = refl }

pub returns-in_err-write_named_point : goal.returns-in_err-write_named_point
returns-in_err-write_named_point g c =
    let p : PointValues = c.args.points.now in
    wrote_part (names_text (named_at p c.args.i c.args.a) p.observations) (point_name_text (named_at p c.args.i c.args.a) p.observations)
    (λ n. refl) c.loop-z.z p.observations (search rules) _ (search rules)
    c.loop-z.invariant.took c.loop-z.invariant.same_count c.in_err-write_named_point.ensures.err c.in_err-write_named_point.ensures.count

pub loop-z-preserved : goal.loop-z-preserved
loop-z-preserved g c = grind (arith, took_then)

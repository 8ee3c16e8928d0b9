use Rattle.std.proofs.Common.{refl, rules, arith}
use Rattle.polcert_text.specs.Sink.{nothing}
use Rattle.polcert_text.proofs.Printing.Taking.{took_then}
use Rattle.polcert_text.proofs.Printing.Written.{wrote_part}
use Rattle.polcert_policy.specs.Points.{PointValues, point_weight}
use Rattle.polcert_points_form.specs.FullForm.{weights_text, weight_text}
use Rattle.polcert_points_form.proofs.print_points.write_weights.Goals as goal

pub loop-s-init : goal.loop-s-init
loop-s-init g c = record { took = nothing; same_count = refl; next = c.first_step-next.ensures }

pub returns-in_err-write_weight : goal.returns-in_err-write_weight
returns-in_err-write_weight g c =
    let p : PointValues = c.args.points.now in
    wrote_part (weights_text (point_weight p c.args.i) p.states) (weight_text (point_weight p c.args.i) p.states) (λ n. refl) c.loop-s.s
    p.states
    (search rules) _ (search rules)
    c.loop-s.invariant.took c.loop-s.invariant.same_count c.in_err-write_weight.ensures.err c.in_err-write_weight.ensures.count

pub loop-s-preserved : goal.loop-s-preserved
loop-s-preserved g c = grind (arith, took_then)

pub write_weight-requires-clause-weight : goal.write_weight-requires-clause-weight
write_weight-requires-clause-weight g c =
    let p : PointValues = c.args.points.now in
    c.weight_here.ensures (point_weight p c.args.i) p.states c.weights-row.result
    (omega (arith, c.loop-s-test.true, c.states-s-end.ensures))
    c.loop-s.invariant.next

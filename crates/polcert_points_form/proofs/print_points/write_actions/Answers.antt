use Rattle.std.proofs.Common.{refl, rules, arith}
use Rattle.polcert_text.specs.Sink.{nothing}
use Rattle.polcert_text.proofs.Printing.Taking.{took_then}
use Rattle.polcert_text.proofs.Printing.Written.{wrote_part}
use Rattle.polcert_policy.specs.Points.{PointValues}
use Rattle.polcert_points_form.specs.FullForm.{actions_text, action_text}
use Rattle.polcert_points_form.specs.RaisedSet.{raised_set}
use Rattle.polcert_points_form.proofs.print_points.write_actions.Goals as goal

pub loop-a-init : goal.loop-a-init
loop-a-init g c = record { took = nothing; same_count = refl }

pub returns-in_err-write_action : goal.returns-in_err-write_action
returns-in_err-write_action g c =
    let p : PointValues = c.args.points.now in
    wrote_part (actions_text (raised_set p c.args.by) c.args.i) (action_text (raised_set p c.args.by) c.args.i) (λ n. refl) c.loop-a.a
    p.actions (search rules) _ (search rules)
    c.loop-a.invariant.took c.loop-a.invariant.same_count c.in_err-write_action.ensures.err c.in_err-write_action.ensures.count

pub loop-a-preserved : goal.loop-a-preserved
loop-a-preserved g c = grind (arith, took_then)

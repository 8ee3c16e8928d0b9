use Rattle.std.proofs.Common.{refl, rules, arith}
use Rattle.polcert_policy.proofs.Common.{nothing, values_text}
use Rattle.polcert_text.proofs.Printing.Taking.{took_then}
use Rattle.polcert_policy.specs.FullForm.{value_text}
use Rattle.polcert_text.proofs.Printing.Written.{wrote_part}
use Rattle.polcert_policy.proofs.print_vectors.write_values.Goals as goal

pub loop-state-init : goal.loop-state-init
loop-state-init g c = record { took = nothing; same_count = refl }

pub returns-in_err-write_value : goal.returns-in_err-write_value
returns-in_err-write_value g c =
    let v = c.args.vectors.now in
    wrote_part (values_text v c.args.node) (value_text v c.args.node) (λ n. refl) c.loop-state.state v.states (search rules) _
    (search rules)
    c.loop-state.invariant.took c.loop-state.invariant.same_count c.in_err-write_value.ensures.err c.in_err-write_value.ensures.count

pub loop-state-preserved : goal.loop-state-preserved
loop-state-preserved g c = grind (arith, took_then)

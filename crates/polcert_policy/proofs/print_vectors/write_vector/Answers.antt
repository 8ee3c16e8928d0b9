use Rattle.std.proofs.Common.{arith}
use Rattle.polcert_text.proofs.Printing.Taking.{front_then, wrote_front, wrote_next}
use Rattle.polcert_policy.proofs.Common.{action_line, values_text}
use Rattle.polcert_policy.proofs.print_vectors.write_vector.Goals as goal

pub returns-in_err-write_action_line : goal.returns-in_err-write_action_line
returns-in_err-write_action_line g c = grind (arith, front_then, wrote_front)

pub returns : goal.returns
returns g c =
    wrote_next (action_line c.args.graph.now c.args.node) (values_text c.args.vectors.now c.args.node c.args.vectors.now.states) _
    c.in_ok-write_action_line.ensures.ok c.in_ok-write_action_line.ensures.same_count c.write_values.ensures

use Rattle.std.proofs.Common.{◌≡◌, rules, codes, decimal, arith}
use Rattle.polcert_text.proofs.Printing.Taking.{front_then, wrote_front, wrote_next}
use Rattle.polcert_policy.proofs.Common.{action_of}
use Rattle.polcert_policy.proofs.print_vectors.write_action_line.Goals as goal

pub returns-in_err-write_all : goal.returns-in_err-write_all
returns-in_err-write_all g c = grind (arith, front_then, wrote_front)

pub returns : goal.returns
returns g c =
    let number : c.as_bytes.result.now ≡ decimal (action_of c.args.graph.now c.args.node) = search rules in
    wrote_next (decimal (action_of c.args.graph.now c.args.node)) (codes "\n") _
    (rw number at c.in_ok-write_all.ensures.ok) c.in_ok-write_all.ensures.same_count c.write_all-2.ensures

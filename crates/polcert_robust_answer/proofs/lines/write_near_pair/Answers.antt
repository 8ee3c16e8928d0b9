use Rattle.std.proofs.Common.{rules, codes}
use Rattle.polcert_robust_answer.proofs.Common.{count_text}
use Rattle.polcert_text.proofs.Printing.Written.{and_then, unwritten, stopped}
use Rattle.polcert_robust_answer.proofs.lines.write_near_pair.Goals as goal

pub returns-in_err-write_all : goal.returns-in_err-write_all
returns-in_err-write_all g c = stopped (search rules)
    (unwritten (count_text c.args.state c.args.words.now)
    (unwritten (count_text c.args.node (codes ", state ")) c.in_err-write_all.ensures))

pub returns-in_err-write_count : goal.returns-in_err-write_count
returns-in_err-write_count g c = stopped (search rules) (unwritten _ (and_then c.in_ok-write_all.ensures c.in_err-write_count.ensures))

pub returns : goal.returns
returns g c = and_then (and_then c.in_ok-write_all.ensures c.in_ok-write_count.ensures) c.write_count-2.ensures

use Rattle.std.proofs.Common.{rules}
use Rattle.polcert_text.proofs.Printing.Written.{and_then, unwritten, stopped}
use Rattle.polcert_answer.proofs.lines.write_counts.Goals as goal

pub returns-in_err-write_all : goal.returns-in_err-write_all
returns-in_err-write_all g c =
    stopped (search rules) (unwritten _
    (unwritten _ (unwritten _ (rw (c.kind_word.ensures, c.is_mdp.ensures) at c.in_err-write_all.ensures))))

pub returns-in_err-write_count : goal.returns-in_err-write_count
returns-in_err-write_count g c =
    let first = rw (c.kind_word.ensures, c.is_mdp.ensures) at c.in_ok-write_all.ensures in
    stopped (search rules) (unwritten _ (unwritten _ (and_then first (rw c.states.ensures.elements at c.in_err-write_count.ensures))))

pub returns-in_err-write_count-2 : goal.returns-in_err-write_count-2
returns-in_err-write_count-2 g c =
    let first = rw (c.kind_word.ensures, c.is_mdp.ensures) at c.in_ok-write_all.ensures in
    let second = rw c.states.ensures.elements at c.in_ok-write_count.ensures in
    stopped (search rules) (unwritten _ (and_then (and_then first second)
    (rw c.actions.ensures.elements at c.in_err-write_count-2.ensures)))

pub returns : goal.returns
returns g c =
    let first = rw (c.kind_word.ensures, c.is_mdp.ensures) at c.in_ok-write_all.ensures in
    let second = rw c.states.ensures.elements at c.in_ok-write_count.ensures in
    and_then (and_then (and_then first second) (rw c.actions.ensures.elements at c.in_ok-write_count-2.ensures))
    c.write_observation_count.ensures

use Rattle.std.proofs.Common.{◌+◌, length, arith}
use Rattle.polcert_rules.proofs.Indexes.NotedLaws.{noted_last}
use Rattle.polcert_rules.proofs.row_rules.note_last.Goals as goal

pub first_at-requires-clause-from : goal.first_at-requires-clause-from
first_at-requires-clause-from c = λ r among. ((c.rules_from.ensures.kept r).0 among).1

pub note_each-requires-clause-from : goal.note_each-requires-clause-from
note_each-requires-clause-from c = λ r among. ((c.rules_between.ensures.kept r).0 among).1

pub note_each-requires-clause-to : goal.note_each-requires-clause-to
note_each-requires-clause-to c = λ r among. omega (arith, ((c.rules_between.ensures.kept r).0 among).2, c.note_all.auto.noted)

pub returns : goal.returns
returns c = λ i l. noted_last _ _ _ _ _ _ i _ _ _ _ _ (omega (arith, l, c.note_all.auto.noted)) (omega arith)
    c.rules_from.ensures.kept c.first_at.ensures (c.note_all.ensures i l) c.rules_between.ensures.kept
    (c.note_each.ensures i (omega (arith, l, c.note_all.auto.noted)))

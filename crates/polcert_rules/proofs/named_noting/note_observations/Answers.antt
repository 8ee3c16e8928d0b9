use Rattle.std.proofs.Common.{◌≡◌, ◌+◌, ◌-◌, subst, arith}
use Rattle.polcert_rules.proofs.Common.{key_base, noted_at, IsNoted, IsLastPlace}
use Rattle.polcert_rules.proofs.Indexes.NotedLaws.{noted_last, noted_end}
use Rattle.polcert_rules.proofs.named_noting.note_observations.Goals as goal

pub first_at-requires-2-clause-from : goal.first_at-requires-2-clause-from
first_at-requires-2-clause-from c r among = ((c.rules_from.ensures.kept r).0 among).1

pub note_named_rules-requires : goal.note_named_rules-requires
note_named_rules-requires c = record { from = λ r among. ((c.rules_between.ensures.kept r).0 among).1 }

pub returns : goal.returns
returns c = λ t z l.
    let rules = c.args.rules.now in
    let low = c.args.low in
    let first = noted_at c.note_all.new.self z in
    let after = noted_at c.note_named_rules.new.list z in
    let same : 0 + z ≡ z = omega arith in
    let last = noted_last _ _ _ low 0 _ z _ _
    _ (noted_at c.note_all-2.new.self z) _
    (omega (arith, l)) (omega arith) c.rules_from.ensures.kept c.first_at-2.ensures (c.note_all-2.ensures z) c.rules_between.ensures.kept
    (c.note_named_rules.ensures t z) in
    noted_end _ low z _ (noted_at c.args.list.now z) _ _ c.first_at.ensures (c.note_all.ensures z)
    (subst (λ y. IsNoted rules (IsLastPlace low y) first after) same last)

use Rattle.std.proofs.Common.{◌≡◌, ◌+◌, ◌-◌, List, get_or, take, take_all, Some, sym, subst, arith, ⊎_elim}
use Rattle.polcert_rules.proofs.Common.{take_more, Contains-get_or, max_option, noted_at, Rule, IsNoted}
use Rattle.polcert_rules.proofs.Indexes.NotedLaws.{noted_hit, noted_skip, same_or_not}
use Rattle.polcert_rules.proofs.named_noting.note_named_rules.Goals as goal

pub overflow_sub-observation : goal.overflow_sub-observation
overflow_sub-observation c =
    c.requires.from (get_or c.args.rules.now c.loop-rule.rule-index (record { key = 0; number = 0 }))
    (Contains-get_or _ _ _ c.loop-rule-test.true)

pub loop-rule-preserved : goal.loop-rule-preserved
loop-rule-preserved c = λ z.
    let xs : List Rule = c.args.rules.now in
    let at = c.loop-rule.rule-index in
    let r : Rule = get_or xs at (record { key = 0; number = 0 }) in
    let from = c.requires.from r (Contains-get_or xs at (record { key = 0; number = 0 }) c.loop-rule-test.true) in
    let new = c.note_rule.new.self in
    subst (λ ys. IsNoted ys (λ k. k ≡ c.args.start + z) (noted_at c.args.list.now z) (noted_at new z))
    (sym (take_more xs at (record { key = 0; number = 0 }) c.loop-rule-test.true))
    (⊎_elim
    (λ hit. let place : r.key - c.args.start ≡ z = omega (arith, hit, from) in
    noted_hit _ r (λ k. k ≡ c.args.start + z) _ _ _ (c.loop-rule.invariant z) hit
    (subst (λ y. noted_at new y ≡ max_option (noted_at c.loop-rule.list y) (Some r.number)) place
    (c.note_rule.ensures.here c.if-not-note_rule.false)))
    (λ miss. noted_skip _ r (λ k. k ≡ c.args.start + z) _ _ _ (c.loop-rule.invariant z) miss
    (c.note_rule.ensures.other c.if-not-note_rule.false z (λ e. miss (omega (arith, e, from)))))
    (same_or_not _ _))

pub returns : goal.returns
returns c = λ t z. subst (λ rules. IsNoted rules (λ k. k ≡ c.args.start + z) (noted_at c.args.list.now z) (noted_at c.loop-rule.list z))
    (take_all _ _ c.loop-rule-test.false) (c.loop-rule.invariant z)

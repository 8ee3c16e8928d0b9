use Rattle.std.proofs.Common.{◌≡◌, ◌+◌, List, None, get_or, take, take_all, sym, subst, arith, ⊎_elim}
use Rattle.polcert_rules.proofs.Common.{take_more, Contains-get_or, Rule, IsNoted}
use Rattle.polcert_rules.proofs.Indexes.NotedLaws.{noted_hit, noted_skip, same_or_not}
use Rattle.polcert_rules.proofs.row_rules.note_each.Goals as goal

pub note_rule-requires-clause-from : goal.note_rule-requires-clause-from
note_rule-requires-clause-from c =
    c.requires.from (get_or c.args.rules.now c.loop-rule.rule-index (record { key = 0; number = 0 }))
    (Contains-get_or _ _ _ c.loop-rule-test.true)

pub note_rule-requires-clause-to : goal.note_rule-requires-clause-to
note_rule-requires-clause-to c =
    let below = c.requires.to (get_or c.args.rules.now c.loop-rule.rule-index (record { key = 0; number = 0 }))
    (Contains-get_or _ _ _ c.loop-rule-test.true) in
    omega (arith, below, c.loop-rule.auto.noted)

pub loop-rule-preserved : goal.loop-rule-preserved
loop-rule-preserved c = λ i l.
    let xs : List Rule = c.args.rules.now in
    let at = c.loop-rule.rule-index in
    let r : Rule = get_or xs at (record { key = 0; number = 0 }) in
    subst (λ ys. IsNoted ys (λ k. k ≡ c.args.start + i) (get_or c.args.noted.now i None)
    (get_or c.note_rule.new.noted i None)) (sym (take_more xs at (record { key = 0; number = 0 }) c.loop-rule-test.true))
    (⊎_elim
    (λ hit. noted_hit _ r (λ k. k ≡ c.args.start + i) _ _ _ (c.loop-rule.invariant i l) hit (c.note_rule.ensures.here i hit))
    (λ miss. noted_skip _ r (λ k. k ≡ c.args.start + i) _ _ _ (c.loop-rule.invariant i l) miss
    (c.note_rule.ensures.other i miss))
    (same_or_not _ _))

pub returns : goal.returns
returns c = λ i l. subst (λ rules. IsNoted rules (λ k. k ≡ c.args.start + i) (get_or c.args.noted.now i None)
    (get_or c.loop-rule.noted i None)) (take_all _ _ c.loop-rule-test.false)
    (c.loop-rule.invariant i l)

use Rattle.std.proofs.Common.{◌≡◌, ◌+◌, ◌-◌, ◌*◌, ◌/◌, ◌≤◌, ⊎_elim, inl, inr, ℕ, Some, None, List, [], ◌∷◌, Contains, ap, sym, arith}
use Rattle.std.specs.List.{slice_get}
use Rattle.polcert_rules.proofs.Common.{Rule, IsRising, cases_lt, key_base}
use Rattle.polcert_rules.proofs.Indexes.Newer.{after_first}
use Rattle.polcert_rules.proofs.Indexes.FittingLaws.{end_alone, end_key}
use Rattle.polcert_rules.proofs.fitting_rules.RulePart.same_until.Goals as goal

none_first : (rules : List Rule) → None ≡ slice_get rules 0 → (r : Rule) → Contains rules r → ⊥
none_first [] none r c = omega (arith, c.1)
none_first (x ∷ xs) none r c = cc

-- the first of the rules names this end state
first_far : (rules : List Rule) (x : Rule) (low n : ℕ) → IsRising rules → slice_get rules 0 ≡ Some x → low + 2 * key_base ≤ x.key
    → n ≡ (x.key - low) / key_base - 2 → (r : Rule) → Contains rules r → low + (n + 2) * key_base ≤ r.key
first_far rules x low n up is far named r c = ⊎_elim (λ same. omega (arith, ap (λ (y : Rule). y.key) same, far, named))
    (λ more. omega (arith, more, far, named)) (after_first _ x up is r c)

pub returns-in-None : goal.returns-in-None
returns-in-None c r among =
    end_key _ _ _ _ (⊎_elim inl
    (λ l. absurd (none_first c.rules_from.result.now c.in-None.ensures.value r ((c.rules_from.ensures.kept r).1 (among, omega (arith, l)))))
    (cases_lt _ (c.args.self.now.low + (c.args.end + 2) * key_base)))

pub returns-then-rule-key : goal.returns-then-rule-key
returns-then-rule-key c r among =
    end_key _ _ _ _ (⊎_elim inl
    (λ l. inr (first_far c.rules_from.result.now c.in-Some.rule.now c.args.self.now.low _ c.rules_from.ensures.rising
    (sym c.in-Some.ensures.value) (omega (arith, c.if-rule-key.true)) (omega arith) r
    ((c.rules_from.ensures.kept r).1 (among, omega (arith, l)))))
    (cases_lt _ (c.args.self.now.low + (c.args.end + 2) * key_base)))

pub returns-else-rule-key : goal.returns-else-rule-key
returns-else-rule-key c r among = end_alone _ _ _ _ (omega arith)

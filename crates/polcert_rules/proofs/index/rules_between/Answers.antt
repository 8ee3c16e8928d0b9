use Rattle.polcert_rules.proofs.Keyed.KeyRanges.{none_between}
use Rattle.polcert_rules.proofs.index.rules_between.Goals as goal

pub returns-clause-kept : goal.returns-clause-kept
returns-clause-kept c = λ r.
    let outer = c.rules_before.ensures.kept r in
    let inner = c.rules_from.ensures.kept r in
    ((λ h. let o = outer.0 h in let i = inner.0 o.0 in (i.0, i.1, o.1)), (λ h. outer.1 (inner.1 (h.0, h.1), h.2)))

pub returns-then-none_below-clause-kept : goal.returns-then-none_below-clause-kept
returns-then-none_below-clause-kept c = none_between _ _ _ (c.none_below.ensures c.if-none_below.true)

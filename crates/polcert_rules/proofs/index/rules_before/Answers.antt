use Rattle.polcert_rules.proofs.index.rules_before.Goals as goal

pub returns-then-all_below-clause-kept : goal.returns-then-all_below-clause-kept
returns-then-all_below-clause-kept c = λ r. ((λ among. (among, c.all_below.ensures c.if-all_below.true r among)), (λ h. h.0))

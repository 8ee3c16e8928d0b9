use Rattle.std.proofs.Common.{◌+◌, ◌^◌, List, [], subst}
use Rattle.polcert_rules.proofs.Common.{Rule, key_base}
use Rattle.polcert_rules.proofs.Indexes.Newer.{IsSpan}
use Rattle.polcert_rules.proofs.Keyed.KeyRanges.{none_between}
use Rattle.polcert_rules.proofs.row_rules.RowRules.rules_after.Goals as goal

pub returns-in-Some-clause-kept : goal.returns-in-Some-clause-kept
returns-in-Some-clause-kept c =
    subst (λ rules. IsSpan rules c.rules_between_at.result.now c.args.low (key_base ^ 2)) c.as_slice-rules.ensures.value
    (subst (λ n. IsSpan c.as_slice-rules.result.now c.rules_between_at.result.now c.args.low n) c.span.ensures
    c.rules_between_at.ensures.kept)

pub returns-in-None-clause-kept : goal.returns-in-None-clause-kept
returns-in-None-clause-kept c =
    subst (λ rules. IsSpan rules c.rules_between.result.now c.args.low (key_base ^ 2)) c.as_slice-rules.ensures.value
    (subst (λ n. IsSpan c.as_slice-rules.result.now c.rules_between.result.now c.args.low n) c.span.ensures c.rules_between.ensures.kept)

pub returns-then-none_below-clause-kept : goal.returns-then-none_below-clause-kept
returns-then-none_below-clause-kept c =
    let kept = none_between _ _ _ (c.none_below.ensures c.if-none_below.true)
    in
    subst (λ rules. IsSpan rules [] c.args.low (key_base ^ 2)) c.as_slice-rules.ensures.value
    (subst (IsSpan c.as_slice-rules.result.now [] c.args.low) c.span.ensures kept)

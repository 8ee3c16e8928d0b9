use Rattle.std.proofs.Common.{◌∙◌, ◌+◌, ◌*◌, ◌^◌, ◌≤◌, List, Contains, subst, sym, ap, arith}
use Rattle.polcert_rules.proofs.Common.{Rule, key_base}
use Rattle.polcert_rules.proofs.index.Index.lacks_action.Goals as goal

pub returns : goal.returns
returns c t r among low =
    let low_is = ap (λ s. c.table_digit.result * s) c.span.ensures ∙ ap (λ d. d * key_base ^ 4) c.table_digit.ensures in
    let end = c.none_below.ensures t r ((c.rules_from.ensures.kept r).1 (
      subst (λ rules. Contains rules r) (sym (c.as_slice.ensures.value ∙ c.self.view_is)) among,
      subst (λ k. k + (c.args.action + 2) * key_base ^ 3 ≤ r.key) (sym low_is) low,
    )) in
    omega (arith, end, low_is)

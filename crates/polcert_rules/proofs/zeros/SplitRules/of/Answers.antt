use Rattle.std.proofs.Common.{◌≡◌, ◌∙◌, ◌==◌, length, sym, ap, rules}
use Rattle.polcert_rules.proofs.RowLaws.SplitLaws.{no_zeros}
use Rattle.polcert_rules.proofs.zeros.SplitRules.of.Goals as goal

pub returns-then-is_empty-clause-others : goal.returns-then-is_empty-clause-others
returns-then-is_empty-clause-others c =
    let size : length c.in_ok-zeros.zeros.items ≡ c.in_ok-zeros.zeros.len = search rules in
    no_zeros _ _ _ (ap (λ k. k == 0) size ∙ sym c.if-is_empty.ensures)
    c.in_ok-zeros.ensures

use Rattle.std.proofs.Common.{◌∙◌, sym, ap, subst, Option, ℕ, ◌∷◌, []}
use Rattle.polcert_rules.proofs.Common.{max_option, IsNewest}
use Rattle.polcert_rules.specs.Keys.{FitsKey}
use Rattle.polcert_rules.proofs.Indexes.CellLaws.{named_cells}
use Rattle.polcert_rules.proofs.row_rules.cell_rules_of.Goals as goal

pub first_at-requires-clause-from : goal.first_at-requires-clause-from
first_at-requires-clause-from c r among = ((c.rules_from-open.ensures.kept r).0 among).1

pub first_at-requires-2-clause-from : goal.first_at-requires-2-clause-from
first_at-requires-2-clause-from c r among = ((c.rules_from-both.ensures.kept r).0 among).1

pub returns-clause-newest : goal.returns-clause-newest
returns-clause-newest c = λ e z el zl x n. subst (λ w. IsNewest c.args.rules.now (FitsKey 2 c.args.low (e ∷ z ∷ [])) (max_option w x))
    (sym (c.max_option.ensures ∙ ap (max_option c.first_at-3.result) c.max_option-here.ensures))
    (named_cells _ _ _ _ _ e z
    _ _ _ x zl
    c.rules_from-open.ensures.kept c.rules_from-both.ensures.kept c.rules_from-named.ensures.kept
    (c.none_below.ensures c.if-not-none_below.false) c.first_at-3.ensures c.first_at.ensures c.first_at-2.ensures n)

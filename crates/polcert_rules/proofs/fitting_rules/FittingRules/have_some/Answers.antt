use Rattle.std.proofs.Common.{◌∙◌, ◌+◌, inl, inr, sym}
use Rattle.polcert_rules.proofs.Indexes.FittingLaws.{some_fits, some_in, last_fits}
use Rattle.polcert_rules.proofs.fitting_rules.FittingRules.have_some.Goals as goal

pub returns-then-is_some : goal.returns-then-is_some
returns-then-is_some c rules a s are = some_fits _ a s _ are (sym c.if-is_some.true ∙ c.is_some.ensures)

pub returns-then-not-is_empty : goal.returns-then-not-is_empty
returns-then-not-is_empty c rules a s are =
    let found = some_in _ 1 1 _ are.of_all _ c.is_empty.ensures c.if-not-is_empty.true in
    (found.0, found.1, inr (inl (inl found.2)))

pub returns-then-not-is_empty-2 : goal.returns-then-not-is_empty-2
returns-then-not-is_empty-2 c rules a s are =
    let found = some_in _ 1 _ _ are.of_state _ c.is_empty-2.ensures
    c.if-not-is_empty-2.true in
    (found.0, found.1, inr (inl (inr found.2)))

pub returns-then-not-is_empty-3 : goal.returns-then-not-is_empty-3
returns-then-not-is_empty-3 c rules a s are =
    let found = some_in _ _ 1 _ are.of_action _ c.is_empty-3.ensures
    c.if-not-is_empty-3.true in
    (found.0, found.1, inr (inr (inl found.2)))

pub returns : goal.returns
returns c rules a s are =
    last_fits _ a s _ are (sym c.if-is_some.false ∙ c.is_some.ensures) _ _
    _ _ c.is_empty.ensures c.if-not-is_empty.false c.is_empty-2.ensures c.if-not-is_empty-2.false
    c.is_empty-3.ensures c.if-not-is_empty-3.false c.is_empty-4.ensures

use Rattle.std.proofs.Common.{◌≡◌, ◌∙◌, Bool, List, Some, ap, sym}
use Rattle.std.specs.List.{slice_get}
use Rattle.polcert_rules.proofs.Common.{slice_get-get_or}
use Rattle.polcert_rules.proofs.Indexes.KeptLaws.{proper_is}
use Rattle.polcert_rules.proofs.row_store.RowStore.is_proper.Goals as goal

pub returns-in-Some : goal.returns-in-Some
returns-in-Some c columns entries weights all row =
    let found = c.in-Some.ensures.lookup.3 in
    let proper = c.in-Some.proper.now in
    proper_is _ _ _ _ _ _ all row
    (ap (λ bs. slice_get bs c.args.number) (sym c.deref.ensures.value)
    ∙ (slice_get-get_or c.deref.result.now c.args.number proper found.0 ∙ ap Some (sym (found.1 proper))))

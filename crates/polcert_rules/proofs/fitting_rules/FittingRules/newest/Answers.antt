use Rattle.std.proofs.Common.{◌∙◌, ◌∷◌, subst, sym, ap}
use Rattle.polcert_rules.proofs.Common.{Reward, IsNewest, max_option, most_places, table_key}
use Rattle.polcert_rules.specs.Keys.{FitsKey}
use Rattle.polcert_rules.proofs.Indexes.FittingLaws.{newest_of_parts}
use Rattle.polcert_rules.proofs.fitting_rules.FittingRules.newest.Goals as goal

pub returns : goal.returns
returns c rules a s are =
    subst (IsNewest rules (FitsKey _ _ (a ∷ s ∷ c.args.rest.now)))
    (sym (c.max_option-2.ensures ∙ ap (max_option c.args.self.now.whole) (c.max_option.ensures
    ∙ ap (λ k. max_option k c.max_option-of_this.result) c.max_option-of_each.ensures
    ∙ ap (max_option (max_option c.newest.result c.newest-2.result)) c.max_option-of_this.ensures)))
    (newest_of_parts _ a s _ are _ _ _ _ _
    c.requires c.newest.ensures c.newest-2.ensures c.newest-3.ensures c.newest-4.ensures)

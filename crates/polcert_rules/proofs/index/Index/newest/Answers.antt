use Rattle.std.proofs.Common.{◌∙◌, List, subst}
use Rattle.polcert_rules.proofs.Common.{IsNewest, Rule, most_places, table_key}
use Rattle.polcert_rules.specs.Keys.{FitsKey}
use Rattle.polcert_rules.proofs.Keyed.Covering.{last_number, last_is}
use Rattle.polcert_rules.proofs.index.Index.newest.Goals as goal

pub returns-clause-number : goal.returns-clause-number
returns-clause-number c entries index =
    last_number _ _ _ _ _ index c.requires (subst (λ (rules : List Rule). IsNewest rules
    (FitsKey most_places (table_key c.args.table) c.args.indices.now) c.newest_of_table.result)
    (c.as_slice.ensures.value ∙ c.self.view_is) c.newest_of_table.ensures)

pub returns-clause-last : goal.returns-clause-last
returns-clause-last c entries index =
    last_is _ _ _ _ (last_number _ _ _ _ _ index
    c.requires (subst (λ (rules : List Rule). IsNewest rules (FitsKey most_places (table_key c.args.table) c.args.indices.now)
    c.newest_of_table.result) (c.as_slice.ensures.value ∙ c.self.view_is) c.newest_of_table.ensures))

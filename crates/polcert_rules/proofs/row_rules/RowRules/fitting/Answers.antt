use Rattle.std.proofs.Common.{◌∙◌, ◌+◌, ◌*◌, ◌^◌, List, [], ◌∷◌, subst, sym, ap}
use Rattle.polcert_rules.proofs.Common.{Reward, Rule, IsNewest, key_base, max_option, most_places, table_key}
use Rattle.polcert_rules.specs.Keys.{FitsKey}
use Rattle.polcert_rules.proofs.Indexes.Newer.{newest_end, newest_of_three}
use Rattle.polcert_rules.proofs.row_rules.RowRules.fitting.Goals as goal

pub returns : goal.returns
returns c =
    let rules : List Rule = c.args.self.now.rules.items in
    let low = table_key Reward in
    let a = c.args.action in
    let s = c.args.start in
    record {
      whole = subst (IsNewest rules (FitsKey _ _ _))
          (sym (c.max_option-2.ensures ∙ ap (max_option c.rule_at-here.result) c.max_option.ensures))
          (newest_of_three _ 3 low a [] c.rule_at-here.result _ _ c.rule_at-here.ensures
          (newest_end _ 3 _ _ c.rule_at-of_each.ensures)
          (newest_end _ 3 _ _ c.rule_at-of_this.ensures));
      of_all = c.rules_of_places.ensures;
      of_state = c.rules_of_places-2.ensures;
      of_action = c.rules_of_places-3.ensures;
      of_row = c.rules_of_places-4.ensures;
    }

use Rattle.std.proofs.Common.{◌≡◌, ◌∙◌, ◌<◌, Some, length, refl, sym, ap, arith}
use Rattle.polcert_rules.proofs.Common.{NamedRule, max_option, rule_at}
use Rattle.polcert_rules.proofs.Indexes.NotedLaws.{later_left, later_right}
use Rattle.polcert_rules.proofs.Indexes.NamedLaws.{renewed_here, renewed_other}
use Rattle.polcert_rules.proofs.named_rules.NamedRules.replace_newest.Goals as goal
use Rattle.polcert_rules.proofs.named_rules.NamedRules.replace_newest.Goals.{then-noted-number, else-noted-number}

pub returns-clause-here : goal.returns-clause-here
returns-clause-here c =
    let list = c.args.self.now in
    let old : NamedRule = rule_at list.rules c.args.place in
    let new : NamedRule = record { observation = old.observation; number = c.if-noted-number.newest } in
    renewed_here _ _ new (omega (arith, list.room, list.within, c.requires)) _ c.requires refl list.whole c.args.number list.distinct
    (elim c.if-noted-number.branch [
      | then-noted-number w ↦ later_right old.number c.args.number (omega (arith, w.if-noted-number.true)) ∙ ap Some (sym w.newest-is)
      | else-noted-number w ↦ later_left old.number c.args.number (omega (arith, w.if-noted-number.false)) ∙ ap Some (sym w.newest-is)
    ])

pub returns-clause-other : goal.returns-clause-other
returns-clause-other c = λ z d.
    let list = c.args.self.now in
    let new : NamedRule = record { observation = (rule_at list.rules c.args.place).observation; number = c.if-noted-number.newest } in
    renewed_other _ _ new (omega (arith, list.room, list.within, c.requires)) _ c.requires refl list.whole z d

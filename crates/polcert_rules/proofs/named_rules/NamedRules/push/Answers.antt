use Rattle.std.proofs.Common.{◌<◌, length, arith}
use Rattle.polcert_rules.proofs.Common.{NamedRule}
use Rattle.polcert_rules.proofs.Indexes.NamedLaws.{pushed_here, pushed_other}
use Rattle.polcert_rules.proofs.named_rules.NamedRules.push.Goals as goal

pub returns-clause-here : goal.returns-clause-here
returns-clause-here c = λ t.
    let list = c.args.self.now in
    pushed_here _ _ (record { observation = c.args.observation; number = c.args.number })
    (omega (arith, list.room, list.within, c.if-count-eq-FEW_NAMED.false)) _ c.requires

pub returns-clause-other : goal.returns-clause-other
returns-clause-other c = λ t z d.
    let list = c.args.self.now in
    pushed_other _ _ (record { observation = c.args.observation; number = c.args.number })
    (omega (arith, list.room, list.within, c.if-count-eq-FEW_NAMED.false)) _ z d

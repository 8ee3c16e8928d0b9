use Rattle.std.proofs.Common.{sym}
use Rattle.polcert_rules.proofs.Indexes.Newer.{first_is, first_is_not}
use Rattle.polcert_rules.proofs.index.first_at.Goals as goal

pub returns-then-rule-key : goal.returns-then-rule-key
returns-then-rule-key c = first_is _ _ _ c.requires.rising (sym c.in-Some.ensures.value) c.if-rule-key.true

pub returns-else-rule-key : goal.returns-else-rule-key
returns-else-rule-key c =
    first_is_not _ _ _ c.requires.rising c.requires.from (sym c.in-Some.ensures.value)
    c.if-rule-key.false

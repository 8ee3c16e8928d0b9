use Rattle.std.proofs.Common.{sym}
use borrow.Author.Tests.{ltb-true}
use Rattle.polcert_rules.proofs.Keyed.KeyRanges.{below_last}
use Rattle.polcert_rules.proofs.index.all_below.Goals as goal

pub returns-in-Some : goal.returns-in-Some
returns-in-Some c is = below_last _ _ _ c.requires (sym c.in-Some.ensures.value) (ltb-true c.in-Some.rule.now.key c.args.key is)

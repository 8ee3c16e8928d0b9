use Rattle.std.proofs.Common.{sym}
use borrow.Author.Tests.{leb-true}
use Rattle.polcert_rules.proofs.Keyed.KeyRanges.{above_first}
use Rattle.polcert_rules.proofs.index.none_below.Goals as goal

pub returns-in-Some : goal.returns-in-Some
returns-in-Some c is = above_first _ _ _ c.requires (sym c.in-Some.ensures.value) (leb-true _ _ is)

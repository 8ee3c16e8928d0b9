use Rattle.std.proofs.Common.{rules}
use Rattle.polcert_check.proofs.Mirrors.OneAbove as one
use Rattle.polcert_check.proofs.laws_above.one_raising.Goals as goal

pub returns : goal.returns
returns c = search (rules, one.one_raise, one.one_raise_reason, one.raise_or_reason)

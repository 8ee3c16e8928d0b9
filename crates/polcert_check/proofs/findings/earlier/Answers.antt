use Rattle.std.proofs.Common.{rules}
use Rattle.polcert_check.proofs.findings.earlier.Goals as goal

pub returns-then-names_until : goal.returns-then-names_until
returns-then-names_until c = search rules

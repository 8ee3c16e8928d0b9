use Rattle.std.proofs.Common.{length}
use Rattle.polcert_rules.proofs.index.+newest.Given as goal

abbrev pub decreases-newest : goal.decreases-newest
decreases-newest l = length l.indices.now

use Rattle.std.proofs.Common.{length}
use Rattle.polcert_rules.proofs.row_rules.+note.Given as goal

abbrev pub decreases-note : goal.decreases-note
decreases-note l = length l.indices.now

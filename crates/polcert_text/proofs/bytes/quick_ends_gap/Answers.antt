use Rattle.std.proofs.lemmas.Bool.{ltb-true}
use Rattle.polcert_text.proofs.Scanning.Classes.{from_true, above_hash}
use Rattle.polcert_text.proofs.bytes.quick_ends_gap.Goals as goal

pub returns-clause-blank : goal.returns-clause-blank
returns-clause-blank c = λ h. (above_hash c.args.byte (ltb-true 35 c.args.byte (from_true _ h))).0

pub returns-clause-hash : goal.returns-clause-hash
returns-clause-hash c = λ h. (above_hash c.args.byte (ltb-true 35 c.args.byte (from_true _ h))).1

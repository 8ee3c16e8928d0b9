use Rattle.std.proofs.Common.{arith}
use Rattle.std.proofs.lemmas.Bool.{leb-true}
use Rattle.polcert_text.proofs.Scanning.Classes.{from_true, small_between, capital_between}
use Rattle.polcert_text.proofs.bytes.quick_is_letter.Goals as goal

pub returns-then-byte-le122 : goal.returns-then-byte-le122
returns-then-byte-le122 c = λ _. small_between c.args.byte (omega arith) (omega arith)

pub returns-then-byte-ge65 : goal.returns-then-byte-ge65
returns-then-byte-ge65 c = λ h. capital_between c.args.byte (omega arith) (leb-true c.args.byte 90 (from_true _ h))

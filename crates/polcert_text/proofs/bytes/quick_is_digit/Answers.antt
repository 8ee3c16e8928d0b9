use Rattle.std.proofs.Common.{arith}
use Rattle.std.proofs.lemmas.Bool.{leb-true}
use Rattle.polcert_text.proofs.Scanning.Classes.{from_true, digit_between}
use Rattle.polcert_text.proofs.bytes.quick_is_digit.Goals as goal

pub returns-then-byte-ge48 : goal.returns-then-byte-ge48
returns-then-byte-ge48 c = λ h. digit_between c.args.byte (omega arith) (leb-true c.args.byte 57 (from_true _ h))

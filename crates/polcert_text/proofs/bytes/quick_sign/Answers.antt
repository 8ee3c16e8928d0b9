use Rattle.std.proofs.Common.{◌≡◌, ◌∙◌, ap, arith}
use Rattle.polcert_text.proofs.Common.{class_of}
use Rattle.polcert_text.proofs.Scanning.Classes.{minus_at_45, plus_at_43}
use Rattle.polcert_text.proofs.bytes.quick_sign.Goals as goal

pub returns-then-byte-eq45 : goal.returns-then-byte-eq45
returns-then-byte-eq45 c = let is : c.args.byte ≡ 45 = omega arith in ap class_of is ∙ minus_at_45

pub returns-then-byte-eq43 : goal.returns-then-byte-eq43
returns-then-byte-eq43 c = let is : c.args.byte ≡ 43 = omega arith in ap class_of is ∙ plus_at_43

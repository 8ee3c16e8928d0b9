use Rattle.std.proofs.Common.{inl, inr, ap, ◌∙◌}
use Rattle.std.proofs.lemmas.Bool.{eqb-true}
use Rattle.polcert_text.proofs.Common.{class_of}
use Rattle.polcert_text.proofs.Scanning.Classes.{from_true, blank_at_32, line_end_at_10}
use Rattle.polcert_text.proofs.bytes.quick_is_blank.Goals as goal

pub returns-then-byte-eq32 : goal.returns-then-byte-eq32
returns-then-byte-eq32 c = λ h. inl (ap class_of (eqb-true c.args.byte 32 (from_true _ h)) ∙ blank_at_32)

pub returns-else-byte-eq32 : goal.returns-else-byte-eq32
returns-else-byte-eq32 c = λ h. inr (ap class_of (eqb-true c.args.byte 10 (from_true _ h)) ∙ line_end_at_10)

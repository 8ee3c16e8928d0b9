use Rattle.std.proofs.Common.{ap, ◌∙◌}
use Rattle.std.proofs.lemmas.Bool.{eqb-true}
use Rattle.polcert_text.proofs.Common.{class_of}
use Rattle.polcert_text.proofs.Scanning.Classes.{from_true, colon_at_58}
use Rattle.polcert_text.proofs.bytes.quick_is_colon.Goals as goal

pub returns : goal.returns
returns c = λ h. ap class_of (eqb-true c.args.byte 58 (from_true _ h)) ∙ colon_at_58

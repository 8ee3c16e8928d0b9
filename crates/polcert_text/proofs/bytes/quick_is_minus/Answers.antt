use Rattle.std.proofs.Common.{◌≡◌, ◌∙◌, refl, ap}
use Rattle.std.proofs.lemmas.Bool.{eqb-true}
use Rattle.polcert_text.proofs.Common.{class_of}
use Rattle.polcert_text.proofs.Scanning.Classes.{from_true}
use Rattle.polcert_text.specs.declared.bytes.ByteClass.TheVariants.{Minus}
use Rattle.polcert_text.proofs.bytes.quick_is_minus.Goals as goal

minus_at_45 : class_of 45 ≡ Minus
unfolding class_of
minus_at_45 = refl

pub returns : goal.returns
returns c = λ h. ap class_of (eqb-true c.args.byte 45 (from_true _ h)) ∙ minus_at_45

use Rattle.polcert_full_form.proofs.Denoting.SameForms.{same_forms}
use Rattle.polcert_full_form.proofs.Writable.WritableTexts.{one_form}
use Rattle.polcert_full_form.proofs.laws.one_full_form.Goals as goal

pub returns : goal.returns
returns c = record { equal = same_forms; same = one_form }

use Rattle.polcert_full_form.proofs.Writable.WritableModels.{kept_short, kept_reads_back}
use Rattle.polcert_full_form.proofs.Writable.WritableTexts.{reads_back}
use Rattle.polcert_full_form.proofs.laws.full_form_reads_back.Goals as goal

pub returns : goal.returns
returns c = record { short = kept_short; contents = kept_reads_back; text = reads_back }

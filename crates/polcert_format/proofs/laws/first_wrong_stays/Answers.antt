use Rattle.polcert_format.proofs.ReadLaws as laws
use Rattle.polcert_format.proofs.laws.first_wrong_stays.Goals as goal

pub returns : goal.returns
returns c = record { within = laws.wrong_within; at_word = laws.wrong_at_word; at_end = laws.wrong_at_end; at_fault = laws.wrong_at_fault }

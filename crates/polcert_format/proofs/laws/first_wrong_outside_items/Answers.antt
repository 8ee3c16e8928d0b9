use Rattle.polcert_format.proofs.ReadLaws as laws
use Rattle.polcert_format.proofs.laws.first_wrong_outside_items.Goals as goal

pub returns : goal.returns
returns c = record { before = laws.wrong_before_items; at_once = laws.wrong_at_once; following = laws.wrong_after_items }

use Rattle.polcert_format.proofs.OrderLaws as laws
use Rattle.polcert_format.proofs.laws.order_is_decided.Goals as goal

pub returns : goal.returns
returns c = record { at_word = laws.wrong_at_word; incomplete = laws.not_complete; complete = laws.is_complete }

use Rattle.polcert_text.proofs.TextLaws as laws
use Rattle.polcert_text.proofs.laws.one_end.Goals as goal

pub returns : goal.returns
returns c = record { end = laws.one_end; no_token = laws.token_or_end }

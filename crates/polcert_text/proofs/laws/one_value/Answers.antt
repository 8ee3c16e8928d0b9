use Rattle.polcert_text.proofs.TextLaws as laws
use Rattle.polcert_text.proofs.laws.one_value.Goals as goal

pub returns : goal.returns
returns c = record { exact = laws.one_exact_value; floor = laws.one_floor; ceil = laws.one_ceil }

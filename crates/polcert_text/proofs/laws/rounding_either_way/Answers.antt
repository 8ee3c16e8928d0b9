use Rattle.polcert_text.proofs.TextLaws as laws
use Rattle.polcert_text.proofs.laws.rounding_either_way.Goals as goal

pub returns : goal.returns
returns c = record { exact = laws.exact_is_rounded; ordered = laws.floor_below_ceil }

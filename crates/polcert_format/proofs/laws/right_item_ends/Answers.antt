use Rattle.polcert_format.proofs.ReadLaws as laws
use Rattle.polcert_format.proofs.laws.right_item_ends.Goals as goal

pub returns : goal.returns
returns c = laws.item_ends

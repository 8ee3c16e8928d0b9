use Rattle.polcert_format.proofs.OneRefusal as laws
use Rattle.polcert_format.proofs.laws.one_model_refusal.Goals as goal

pub returns : goal.returns
returns c = laws.one_refusal

use Rattle.polcert_format.proofs.FirstNumbers as laws
use Rattle.polcert_format.proofs.laws.one_late_refusal.Goals as goal

pub returns : goal.returns
returns c = record { one = laws.one_late_refusal; undecided = laws.late_undecided }

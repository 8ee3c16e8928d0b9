use Rattle.polcert_points_answer.proofs.OneAnswer.{one_verdict, no_refusal, one_refusal}
use Rattle.polcert_points_answer.proofs.laws.one_point_answer.Goals as goal

pub returns : goal.returns
returns c = record { verdict = one_verdict; no_refusal = no_refusal; refusal = one_refusal }

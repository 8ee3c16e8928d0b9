use Rattle.polcert_answer.proofs.Below.{whys}
use Rattle.polcert_answer.proofs.bound.LowerBound.moved.Goals as goal

pub returns : goal.returns
returns g c = record { moved = c.lowered_watched.ensures.lowered; not_moved = whys _ _ _ _ c.lowered_watched.ensures.not_lowered }

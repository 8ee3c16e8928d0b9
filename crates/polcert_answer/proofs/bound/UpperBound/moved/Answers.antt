use Rattle.polcert_answer.proofs.Above.{whys}
use Rattle.polcert_answer.proofs.bound.UpperBound.moved.Goals as goal

pub returns : goal.returns
returns g c = record { moved = c.raised_watched.ensures.raised; not_moved = whys _ _ _ _ c.raised_watched.ensures.not_raised }

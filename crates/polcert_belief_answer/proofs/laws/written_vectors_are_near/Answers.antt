use Rattle.polcert_belief_answer.proofs.Written.{shifted_are_moved, some_written, written_picks}
use Rattle.polcert_belief_answer.proofs.laws.written_vectors_are_near.Goals as goal

pub returns : goal.returns
returns c = record { picks = written_picks; lowered = shifted_are_moved; exist = some_written }

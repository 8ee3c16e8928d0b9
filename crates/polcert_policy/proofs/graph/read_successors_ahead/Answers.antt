use Rattle.std.proofs.Common.{arith}
use Rattle.polcert_text.proofs.Taken.TakenAhead.{ahead_passed}
use Rattle.polcert_policy.proofs.graph.read_successors_ahead.Goals as goal

pub returns-in-Ok-clause-read : goal.returns-in-Ok-clause-read
returns-in-Ok-clause-read c = grind (arith, ahead_passed)

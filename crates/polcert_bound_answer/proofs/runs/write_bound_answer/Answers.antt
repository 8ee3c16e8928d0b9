use Rattle.std.proofs.Common.{arith}
use Rattle.polcert_bound_answer.proofs.runs.write_bound_answer.Goals as goal

pub check_informed_watched-verdict-requires : goal.check_informed_watched-verdict-requires
check_informed_watched-verdict-requires g c = c.requires.fit

pub returns-in-Ok-clause-answered : goal.returns-in-Ok-clause-answered
returns-in-Ok-clause-answered g c = grind arith

pub returns-in-Err-clause-answered : goal.returns-in-Err-clause-answered
returns-in-Err-clause-answered g c = grind arith

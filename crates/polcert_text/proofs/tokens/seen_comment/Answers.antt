use Rattle.std.proofs.Common.{arith}
use Rattle.polcert_text.proofs.Scanning.Runs.{comment_continues, comment_ends}
use Rattle.polcert_text.proofs.tokens.seen_comment.Goals as goal

pub returns-in-Some-clause-state : goal.returns-in-Some-clause-state
returns-in-Some-clause-state c = grind (arith, comment_ends)

pub returns-in-None-clause-state : goal.returns-in-None-clause-state
returns-in-None-clause-state c = comment_continues c.args.bytes.now (λ k below is. c.in-None.ensures k (omega arith) below is)

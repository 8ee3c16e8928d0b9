use Rattle.polcert_check.proofs.Walking.Walked.{pair_passed}
use Rattle.polcert_check.proofs.findings.Findings.note.Goals as goal

pub returns-in-Yes-clause-found : goal.returns-in-Yes-clause-found
returns-in-Yes-clause-found c = λ k s pair checked_controller is.
    pair_passed k _ s c.args.self.now pair (rw c.in-Yes.is at checked_controller) is

use Rattle.std.proofs.Common.{rules, ◌+◌, ◌∙◌, ap, unsigned_abs, arith}
use Rattle.polcert_check.proofs.Common.{w128, IsWalked}
use Rattle.std.proofs.lemmas.Int.{to_z-of_z}
use Rattle.polcert_check.proofs.Walking.Found.{noted_failure, noted_lack, noted_short}
use Rattle.polcert_check.proofs.Walking.Walked.{next_pair, pair_passed}
use Rattle.polcert_check.proofs.findings.Findings.keep.Goals as goal

pub returns-in-Yes-clause-found : goal.returns-in-Yes-clause-found
returns-in-Yes-clause-found c = λ k s pair checked_controller is.
    pair_passed k _ s c.args.self.now pair (rw c.in-Yes.is at checked_controller) is

pub returns-in-Check-clause-found : goal.returns-in-Check-clause-found
returns-in-Check-clause-found c = grind (arith, noted_failure, next_pair)

pub returns-in-Lowering-clause-found : goal.returns-in-Lowering-clause-found
returns-in-Lowering-clause-found c = λ k s pair checked_controller is.
    noted_short k _ _ _ s
    (next_pair k _ s pair) _ is _ _ _ _
    _ _ c.in-Lowering.is
    (rw c.in-Short.is at checked_controller) c.earlier-self-in-Lowering.ensures
    (c.unsigned_abs.ensures.value ∙ ap unsigned_abs (to_z-of_z w128 c.in-Short.amount (search rules))) c.greater-self.ensures.left
    c.greater-self.ensures.right c.greater-self.ensures.is_one

pub returns-in-NoSuccessor-clause-found : goal.returns-in-NoSuccessor-clause-found
returns-in-NoSuccessor-clause-found c = grind (arith, noted_lack, next_pair)

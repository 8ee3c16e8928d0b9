use Rattle.std.proofs.Common.{rules}
use Rattle.std.proofs.lemmas.Int.{to_z-of_z}
use mir.Syntax.{w128}
use Rattle.polcert_robust.proofs.Surveying.{short_noted, yes_noted}
use Rattle.polcert_robust.proofs.findings.with_finding.Goals as goal

pub returns-in-Yes : goal.returns-in-Yes
returns-in-Yes c = λ i k n s nl sl pair has is. yes_noted i k n s _ nl sl is (rw c.in-Yes.is at pair)

pub returns-in-NoSuccessor : goal.returns-in-NoSuccessor
returns-in-NoSuccessor c = λ i k n s nl sl pair has is. absurd (rw c.in-NoSuccessor.is at has)

pub returns-in-Short : goal.returns-in-Short
returns-in-Short c = λ i k n s nl sl pair has is. short_noted i k n s _ nl sl is _ _ _ _ _
    _ (rw c.in-Short.is at pair) c.keep_first_no.ensures
    (cc (c.unsigned_abs.ensures.value, to_z-of_z w128 c.in-Short.amount (search rules))) c.max_amount.ensures.left
    c.max_amount.ensures.right c.max_amount.ensures.is_one

use Rattle.std.proofs.Common.{subst}
use Rattle.polcert_text.proofs.Common.{Measures}
use Rattle.polcert_text.proofs.Numbers.SignedLaws.{no_exact}
use Rattle.polcert_text.proofs.number.scaled_of.Goals as goal

pub returns-then-size-clause-fault : goal.returns-then-size-clause-fault
returns-then-size-clause-fault c =
    let size = c.in_ok-size.ensures.value in
    let inexact = subst (Measures c.args.numeral.now c.in_ok-size.size.floor) c.if-size.true size.1 in
    (size.0, no_exact c.args.numeral.now c.in_ok-size.size.floor c.args.negative inexact)

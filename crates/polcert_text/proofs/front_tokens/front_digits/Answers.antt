use Rattle.std.proofs.Common.{subst}
use Rattle.polcert_text.proofs.Common.{take_rest, EndsAsDigits}
use Rattle.polcert_text.proofs.Taken.BeginLaws.{digits_begin}
use Rattle.polcert_text.proofs.front_tokens.front_digits.Goals as goal

pub returns-in-Some : goal.returns-in-Some
returns-in-Some c = λ place.
    let bs = c.args.bytes.now in
    let gap = c.near_gap-start.result in
    digits_begin place bs gap c.in-Some.number c.near_gap-start.ensures.gap
    (subst (λ xs. EndsAsDigits xs c.in-Some.number) (take_rest bs gap) c.in-Some.ensures)

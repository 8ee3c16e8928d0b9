use Rattle.std.proofs.Common.{ap, arith}
use Rattle.polcert_text.proofs.Taken.TakenAhead.{ahead_passed}
use Rattle.polcert_model.proofs.reader.read_ahead.Goals as goal

pub returns-in-Ok-clause-read : goal.returns-in-Ok-clause-read
returns-in-Ok-clause-read c =
    ahead_passed _ _ _ _ c.lookahead.ensures c.skip.ensures
    c.in-Ok.ensures.read

pub returns-in-Ok-clause-number : goal.returns-in-Ok-clause-number
returns-in-Ok-clause-number c =
    let place = ap (λ s. s.ahead.place) c.skip.ensures in
    omega (arith, place, c.in-Ok.ensures.number)

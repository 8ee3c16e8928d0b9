use Rattle.polcert_model.proofs.Common.{err_from_is_err_and}
use Rattle.polcert_text.proofs.Streams.ReadTexts.{value_turned, value_refused, fault_passed_on}
use Rattle.polcert_model.proofs.reader.read_model_from.Goals as goal

pub returns-in_err-known : goal.returns-in_err-known
returns-in_err-known g c =
    let p = err_from_is_err_and c.from_residual.result c.from_residual.ensures.1 in
    rw (p.1, p.2) (record { read = fault_passed_on c.in_err-known.ensures.read })

pub returns-in-Ok : goal.returns-in-Ok
returns-in-Ok g c = record { read = value_turned _ c.in_ok-known.ensures.read (λ text is. c.in-Ok.ensures text is) }

pub returns-in-Err : goal.returns-in-Err
returns-in-Err g c = record { read = value_refused _ c.in_ok-known.ensures.read (λ text is. c.in-Err.ensures text is) }

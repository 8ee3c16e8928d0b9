use Rattle.std.proofs.Common.{subst}
use Rattle.polcert_text.proofs.Streams.ReadTexts.{value_turned, fault_passed_on}
use Rattle.polcert_model.proofs.Common.{IsTextOf}
use Rattle.polcert_model.proofs.reader.read_text_from.Goals as goal

pub returns-in-Ok : goal.returns-in-Ok
returns-in-Ok g c = record {
  read = value_turned _ c.in-Ok.ensures.read (λ text is. subst (IsTextOf text) (cc) is);
}

pub returns-in-Err : goal.returns-in-Err
returns-in-Err g c = record { read = fault_passed_on c.in-Err.ensures.read }

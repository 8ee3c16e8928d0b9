use Rattle.std.proofs.Common.{subst}
use Rattle.polcert_model.proofs.Common.{Refuses}
use Rattle.polcert_model.proofs.TextReading.{not_begun, item_takes, item_refuses}
use Rattle.polcert_model.proofs.reader.TextReader.feed.Goals as goal

pub returns-in_default-clause-read : goal.returns-in_default-clause-read
returns-in_default-clause-read c = λ seen read inside text ts further tokens same.
    subst (Refuses ts) (cc) (not_begun seen _ _ read c.in_default.is inside text ts
    _ tokens same)

pub returns-in-Ok-clause-read : goal.returns-in-Ok-clause-read
returns-in-Ok-clause-read c = λ seen read inside.
    let e = c.in-Ok.ensures in
    item_takes seen _ _ _ _ read c.in-Some.is inside e.topic e.fed

pub returns-in-Err-Refused-clause-read : goal.returns-in-Err-Refused-clause-read
returns-in-Err-Refused-clause-read c = λ seen read inside text ts further tokens same.
    let refuses = rw c.in-Err-Refused.field-0-is at c.in-Err-Refused.ensures.refused in
    subst (Refuses ts) (cc)
    (item_refuses seen _ _ _ _ read c.in-Some.is inside refuses
    text ts _ tokens same)

use Rattle.std.proofs.Common.{subst}
use Rattle.polcert_model.proofs.Common.{Refuses}
use Rattle.polcert_model.proofs.TextReading.{item_opened, item_not_opened}
use Rattle.polcert_model.proofs.reader.TextReader.open.Goals as goal

pub returns-in-Some-clause-read : goal.returns-in-Some-clause-read
returns-in-Some-clause-read c = λ seen word read about at text ts further tokens same. subst (Refuses ts) (cc)
    (item_not_opened seen _ word _ c.in-Some.kind _ read about (cc)
    at text ts _ tokens same)

pub returns-clause-read : goal.returns-clause-read
returns-clause-read c = λ seen word read about at. item_opened seen _ word _ _ read about (cc) c.new.ensures

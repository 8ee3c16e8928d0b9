use Rattle.std.proofs.Common.{refl}
use Rattle.polcert_policy.proofs.VectorReadLaws.{none_read}
use Rattle.polcert_policy.proofs.vectors_reading.VectorsReading.new.Goals as goal

pub returns-clause-read : goal.returns-clause-read
returns-clause-read c = λ way graph proper. none_read graph _ proper refl refl c.new.ensures.items refl

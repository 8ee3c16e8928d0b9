use Rattle.polcert_points.proofs.RaisedSets.{yes_above}
use Rattle.polcert_points.proofs.laws.raising_keeps_a_yes.Goals as goal

pub returns : goal.returns
returns c = λ t m less vectors p fit proper all by more l can yes verdict is. yes_above p all proper t m less vectors fit more by l can yes
    verdict is

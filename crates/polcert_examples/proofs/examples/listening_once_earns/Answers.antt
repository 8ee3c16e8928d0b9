use Rattle.polcert_examples.proofs.TigerBound as computed
use Rattle.polcert_examples.proofs.examples.listening_once_earns.Goals as goal

pub returns : goal.returns
returns c = computed.two_steps

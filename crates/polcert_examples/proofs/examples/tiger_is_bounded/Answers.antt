use Rattle.std.proofs.Common.{rules}
use Rattle.polcert_examples.proofs.TigerBound as computed
use Rattle.polcert_examples.proofs.examples.tiger_is_bounded.Goals as goal

pub returns : goal.returns
returns c = search (rules, computed.listen, computed.tiger_door, computed.other_door, computed.exceeded, computed.one_vector)

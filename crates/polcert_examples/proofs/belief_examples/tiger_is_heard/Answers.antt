use Rattle.std.proofs.Common.{rules}
use Rattle.polcert_examples.proofs.TigerPicks as picks
use Rattle.polcert_examples.proofs.belief_examples.tiger_is_heard.Goals as goal

pub returns : goal.returns
returns c = search (rules, picks.earns)

use Rattle.std.proofs.Common.{rules}
use Rattle.polcert_check.proofs.Walking.EvenRows.{gain_is}
use Rattle.polcert_check.proofs.even_rows.gain.Goals as goal

pub returns-clause-value : goal.returns-clause-value
returns-clause-value c = (gain_is c.args.weight c.args.common c.args.number c.weigh.result c.weigh-2.result c.requires.weight
    c.requires.common (search rules) (search rules) (search rules) (search rules) (search rules)).0

pub returns-clause-small : goal.returns-clause-small
returns-clause-small c = (gain_is c.args.weight c.args.common c.args.number c.weigh.result c.weigh-2.result c.requires.weight
    c.requires.common (search rules) (search rules) (search rules) (search rules) (search rules)).1

use Rattle.polcert_robust_answer.proofs.DistanceLaws.{percent_from, no_percent}
use Rattle.polcert_robust_answer.proofs.within.percent_of.Goals as goal

pub returns-clause-found : goal.returns-clause-found
returns-clause-found c = percent_from c.args.text.now c.reward_distance_of.result c.small_percent.result c.reward_distance_of.ensures.found
    c.small_percent.ensures.some

pub returns-clause-none : goal.returns-clause-none
returns-clause-none c = no_percent c.args.text.now c.reward_distance_of.result c.small_percent.result c.reward_distance_of.ensures.found
    c.reward_distance_of.ensures.none c.small_percent.ensures.none

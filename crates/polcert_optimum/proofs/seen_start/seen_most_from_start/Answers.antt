use Rattle.std.proofs.Common.{◌∙◌, rules, w64}
use Rattle.std.proofs.lemmas.Int.{to_z-of_z}
use Rattle.polcert_optimum.proofs.Common.{w128}
use Rattle.polcert_optimum.proofs.seen_start.seen_most_from_start.Goals as goal

pub returns : goal.returns
returns c =
    rw (to_z-of_z w64 c.ceil_mean.result (search rules))
    (rw (to_z-of_z w128 _ (search rules) ∙ c.seen_sum.ensures.is, c.start_total.ensures) at c.ceil_mean.ensures)

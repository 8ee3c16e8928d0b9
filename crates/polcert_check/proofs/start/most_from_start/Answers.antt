use Rattle.polcert_check.proofs.Common.{Meaning}
use Rattle.std.proofs.Common.{◌∙◌, rules, w64}
use Rattle.polcert_check.proofs.Common.{w128, meaning}
use Rattle.std.proofs.lemmas.Int.{to_z-of_z}
use Rattle.polcert_check.proofs.start.most_from_start.Goals as goal

pub returns : goal.returns
returns c =
    let m : Meaning = meaning c.args.model.now in
    let best = c.best_start-sum in (
      best.result.0,
      best.ensures.node,
      rw (to_z-of_z w64 c.ceil_mean.result (search rules))
          (rw (to_z-of_z w128 best.result.1 (search rules) ∙ best.ensures.sum, c.start_total.ensures) at c.ceil_mean.ensures),
    )

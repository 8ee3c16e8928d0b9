use Rattle.std.proofs.Common.{◌∙◌, ap}
use Rattle.polcert_items.proofs.Common.{is_level_at}
use Rattle.polcert_items.proofs.StartShares.{level_is}
use Rattle.polcert_items.proofs.start_reader.is_level.Goals as goal

pub returns : goal.returns
returns c = c.is_level_at.ensures ∙ ap (λ m. is_level_at m c.args.probabilities.now) c.first_above_0.ensures
    ∙ level_is c.args.probabilities.now

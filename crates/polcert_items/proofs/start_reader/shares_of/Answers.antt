use Rattle.std.proofs.Common.{◌∙◌, sym, ap}
use Rattle.polcert_items.proofs.Common.{is_level}
use Rattle.polcert_items.proofs.StartShares.{level_shares_are}
use Rattle.polcert_items.proofs.start_reader.shares_of.Goals as goal

pub returns-then-is_level : goal.returns-then-is_level
returns-then-is_level c =
    level_shares_are c.level_shares.result c.args.probabilities c.as_slice-then-is_level.result.now c.as_slice-then-is_level.ensures
    (ap is_level (sym c.as_slice.ensures) ∙ sym c.if-is_level.ensures) c.level_shares.ensures.weights c.level_shares.ensures.total

use Rattle.std.proofs.Common.{◌∙◌, arith, rules, sym}
use Rattle.polcert_rules.proofs.Indexes.FittingLaws.{none_whole}
use Rattle.polcert_rules.proofs.RewardLaws.RewardEnds.{same_ends}
use Rattle.polcert_rules.proofs.rewards.Rewards.until_of.Goals as goal

pub returns-then-is_some : goal.returns-then-is_some
returns-then-is_some c p entries are f z from to fl zl = absurd (omega (arith, from, to))

pub returns : goal.returns
returns c p entries are f z from to fl zl =
    same_ends p _ _ are _ _ _ _ f z
    (none_whole _ _ _ (c.newest.ensures _ _ _ c.requires.fitting) (sym c.if-is_some.false ∙ c.is_some.ensures))
    (c.same_until.ensures _ _ _ c.requires.fitting) from to (search rules) (search rules)

use Rattle.std.proofs.Common.{arith}
use Rattle.polcert_rules.proofs.Indexes.FittingLaws.{ends_of_parts}
use Rattle.polcert_rules.proofs.fitting_rules.FittingRules.same_until.Goals as goal

pub returns : goal.returns
returns c rules a s are =
    ends_of_parts _ a s _ are _ _ _ _ _
    _ (omega arith) (omega arith) (omega arith) (omega arith) c.same_until.ensures c.same_until-2.ensures
    c.same_until-3.ensures c.same_until-4.ensures

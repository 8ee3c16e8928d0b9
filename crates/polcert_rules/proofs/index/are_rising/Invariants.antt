use Rattle.std.proofs.Common.{drop}
use Rattle.polcert_rules.proofs.Indexes.Building.{RisesAbove}
use Rattle.polcert_rules.proofs.index.are_rising.Given as goal

abbrev pub invariant-loop-rule : goal.invariant-loop-rule
invariant-loop-rule l = RisesAbove l.last (drop l.rule-index l.rest) → RisesAbove l.initial.last l.rest

use Rattle.std.proofs.Common.{◌-◌, ◌≤◌, List, ◌∷◌, [], length, take, drop, get_or, sym, subst, arith}
use Rattle.polcert_rules.proofs.Common.{Rule, IsRising, drop_all}
use Rattle.polcert_rules.proofs.Indexes.Building.{RisesAbove, rising_after}
use Rattle.polcert_rules.proofs.Keyed.KeyRanges.{drop_whole}
use Rattle.polcert_rules.proofs.index.are_rising.Goals as goal

from_first : (d : Rule) (rules : List Rule) → 1 ≤ length rules → RisesAbove (get_or rules 0 d).key (take (length rules - 1) (drop 1 rules))
    → IsRising rules
from_first d [] some up = absurd (omega arith)
from_first d (x ∷ xs) some up = rising_after x xs (subst (RisesAbove x.key) (drop_whole 1 (x ∷ xs)) up)

pub returns : goal.returns
returns c u = from_first _ c.args.rules.now c.in-len1-up.len_at_least
    (c.loop-rule.invariant (subst (RisesAbove c.loop-rule.last) (sym (drop_all _ _ c.loop-rule-test.false)) tt))

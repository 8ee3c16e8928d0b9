use Rattle.std.proofs.Common.{List, Contains, subst, sym}
use Rattle.polcert_rules.proofs.Common.{Rule}
use Rattle.polcert_rules.proofs.Keyed.KeyRanges.{drop_whole, gap_between}
use Rattle.polcert_rules.proofs.index.has_gap.Goals as goal

pub returns-then-all_below : goal.returns-then-all_below
returns-then-all_below c above =
    gap_between _ _ _ _ (c.all_below.ensures c.if-all_below.true)
    (λ r among. c.none_below.ensures above r (subst (λ xs. Contains xs r) (sym (drop_whole c.args.place c.args.rules.now))
    among))

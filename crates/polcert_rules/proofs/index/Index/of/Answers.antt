use Rattle.std.proofs.Common.{List, subst, sym}
use Rattle.std.specs.List.Sorted.{IsPermutation}
use Rattle.polcert_rules.proofs.Common.{Rule, IsRising, IsIndexOf}
use Rattle.polcert_rules.proofs.Indexes.Building.{each_rises, is_index}
use Rattle.polcert_rules.proofs.index.Index.of.Goals as goal

pub invariant_of-result : goal.invariant_of-result
invariant_of-result c = let s = c.sort_newest.ensures in subst IsRising (sym s.is) (each_rises _ s.ordered)

pub returns : goal.returns
returns c =
    let s = c.sort_newest.ensures in
    subst (IsIndexOf c.args.table c.args.entries.now) (sym s.is)
    (is_index _ _ _ c.requires (subst (λ (xs : List Rule). IsPermutation xs s.sorted) c.in_ok-rules.ensures s.permutation))

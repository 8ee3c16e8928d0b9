use Rattle.std.proofs.Common.{ltb, rules}
use Rattle.polcert_rules.proofs.Common.{IsPartitionPoint-from_clause, Rule}
use Rattle.polcert_rules.proofs.Keyed.KeyRanges.{parted, found_cut, cut_front}
use Rattle.polcert_rules.proofs.index.rules_before_at.Goals as goal

pub returns-then-is_cut-clause-kept : goal.returns-then-is_cut-clause-kept
returns-then-is_cut-clause-kept c = cut_front _ _ _ (c.is_cut.ensures c.if-is_cut.true)

pub returns-clause-kept : goal.returns-clause-kept
returns-clause-kept c =
    let xs = c.args.rules.now in
    let n = c.partition_point-end.result in
    cut_front xs _ n (found_cut xs n _ c.partition_point-end.ensures.bound
    (IsPartitionPoint-from_clause (λ (x : Rule). ltb x.key c.args.high) xs n c.partition_point-end.ensures.partitioned
    (parted xs c.args.high c.requires) (λ a x q k. search rules)))

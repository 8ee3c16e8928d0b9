use Rattle.std.proofs.Common.{◌≤◌, ◌↔◌, Contains, ltb, subst, sym, rules}
use Rattle.polcert_rules.proofs.Common.{IsPartitionPoint-from_clause, Rule}
use Rattle.polcert_rules.proofs.Keyed.KeyRanges.{parted, found_cut, cut_rest, drop_whole}
use Rattle.polcert_rules.proofs.index.rules_from.Goals as goal

pub returns-clause-kept : goal.returns-clause-kept
returns-clause-kept c =
    let xs = c.args.rules.now in
    let n = c.partition_point-start.result in
    let cut = IsPartitionPoint-from_clause (λ r. ltb r.key c.args.low) xs n c.partition_point-start.ensures.partitioned
    (parted xs _ c.requires) (λ a r q k. search rules) in
    λ r. subst (λ ys. Contains ys r ↔ (Contains xs r × (c.args.low ≤ r.key))) (sym (drop_whole n xs))
    (cut_rest xs _ n (found_cut xs n _ c.partition_point-start.ensures.bound cut) r)

pub returns-then-none_below-clause-kept : goal.returns-then-none_below-clause-kept
returns-then-none_below-clause-kept c = λ r. ((λ among. (among, c.none_below.ensures c.if-none_below.true r among)), (λ h. h.0))

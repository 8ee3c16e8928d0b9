use Rattle.std.proofs.Common.{◌≤◌, ◌↔◌, Contains, subst, sym}
use Rattle.polcert_rules.proofs.Keyed.KeyRanges.{cut_rest, drop_whole}
use Rattle.polcert_rules.proofs.index.rules_from_at.Goals as goal

pub returns-then-is_cut-clause-kept : goal.returns-then-is_cut-clause-kept
returns-then-is_cut-clause-kept c =
    let xs = c.args.rules.now in
    λ r. subst (λ ys. Contains ys r ↔ (Contains xs r × (c.args.low ≤ r.key))) (sym (drop_whole _ xs))
    (cut_rest xs _ _ (c.is_cut.ensures c.if-is_cut.true) r)

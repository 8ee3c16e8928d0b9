use Rattle.std.proofs.Common.{subst, sym, rules}
use Rattle.std.proofs.lemmas.List.Sorted.{IsPermutation-refl}
use Rattle.polcert_rules.proofs.Common.{IsNonDecreasingBy-from_sort_by_key, Rule, IsRising}
use Rattle.polcert_rules.proofs.Indexes.Building.{rising_order, newest_rising}
use Rattle.polcert_rules.proofs.index.sort_newest.Goals as goal

pub returns-then-are_rising : goal.returns-then-are_rising
returns-then-are_rising c =
    let rising = subst IsRising c.as_slice.ensures.value (c.are_rising.ensures c.if-are_rising.true) in
    record {
      sorted = c.args.rules.now.items;
      permutation = IsPermutation-refl c.args.rules.now.items;
      ordered = rising_order _ rising;
      is = sym (newest_rising _ rising);
    }

pub returns : goal.returns
returns c = record {
  sorted = c.sort_unstable_by_key.new.self.items;
  permutation = c.sort_unstable_by_key.ensures.permutation;
  ordered = IsNonDecreasingBy-from_sort_by_key (λ (r : Rule). r.key) _ c.sort_unstable_by_key.ensures.sorted (λ a r q k. search rules);
  is = c.keep_newest_of_each.ensures;
}

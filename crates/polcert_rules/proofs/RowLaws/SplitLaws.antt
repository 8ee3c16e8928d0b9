-- The rules of a table in two lists.
use Rattle.std.proofs.Common.{◌≡◌, ◌∙◌, ◌==◌, suc, ◌<◌, ◌⊎◌, inl, inr, ⊎_elim, Bool, true, false, cond, List, [], ◌∷◌, Contains, length}
use Rattle.std.proofs.Common.{refl, sym, subst, arith}
use Rattle.polcert_rules.proofs.Common.{nat_tests, AllPairs-cons, Entry, Rule, SplitRules, IsRising, IsSplit, others_in, is_zero_entry}
use Rattle.polcert_rules.proofs.Common.{zeros_of}
use Rattle.polcert_rules.proofs.Common.{names_column, others_of, wholes_of}
use Rattle.std.proofs.lemmas.List.Kept.{AllPairs-filter}
use Rattle.std.specs.Prelude.{not}
use Rattle.polcert_rules.specs.Steps.Rows.{AreExact}
use Rattle.polcert_rules.specs.Steps.Zeros.{is_shared_zero, names_row}
use Rattle.polcert_rules.proofs.Indexes.Building.{Among, among_from, contains_from}
use Rattle.polcert_rules.proofs.RowLaws.Cells.{all_of}

module _ (entries : List Entry) where
  zeros_old : (rs : List Rule) (q : Rule) → Among q (zeros_of entries rs)
      → Among q rs × (is_zero_entry entries q.number ≡ true) × (names_row q.key ≡ false)
  zeros_old [] q a = absurd a
  zeros_old (r ∷ rs) q a = grind (arith, ⊎_elim, zeros_old rs q)

  others_old : (rs : List Rule) (q : Rule) → Among q (others_of entries rs) → Among q rs
  others_old [] q a = absurd a
  others_old (r ∷ rs) q a = grind (arith, ⊎_elim, others_old rs q)

  none_lost : (rs : List Rule) (q : Rule) → Among q rs → Among q (zeros_of entries rs) ⊎ Among q (others_of entries rs)
  none_lost [] q a = absurd a
  none_lost (r ∷ rs) q a = grind (arith, ⊎_elim, none_lost rs q)

  -- ---- both rise
  rest_rises : (r : Rule) (rs : List Rule) → IsRising (r ∷ rs) → IsRising rs
  rest_rises r rs up i j d less l = up (suc i) (suc j) d (omega arith) (omega arith)

  below_rest : (r : Rule) (rs : List Rule) (q : Rule) → IsRising (r ∷ rs) → Among q rs → r.key < q.key
  below_rest r rs q up a =
      let c = contains_from rs q a in
      subst (λ x. r.key < x.key) c.2 (up 0 (suc c.0) q (omega arith) (let l = c.1 in omega arith))

  pub zeros_rise : (rs : List Rule) → IsRising rs → IsRising (zeros_of entries rs)
  zeros_rise [] up = up
  zeros_rise (r ∷ rs) up = at (is_shared_zero entries r) (zeros_rise rs (rest_rises r rs up))
    where
      at : (b : Bool) → IsRising (zeros_of entries rs) → IsRising (cond b (r ∷ zeros_of entries rs) (zeros_of entries rs))
      at true ih = AllPairs-cons (λ x y. x.key < y.key) r (zeros_of entries rs)
          (all_of (λ q. r.key < q.key) (zeros_of entries rs) (λ q c. below_rest r rs q up
          (zeros_old rs q (among_from (zeros_of entries rs) q c)).0)) ih
      at false ih = ih

  pub others_rise : (rs : List Rule) → IsRising rs → IsRising (others_of entries rs)
  others_rise [] up = up
  others_rise (r ∷ rs) up = at (is_shared_zero entries r) (others_rise rs (rest_rises r rs up))
    where
      at : (b : Bool) → IsRising (others_of entries rs) → IsRising (cond b (others_of entries rs) (r ∷ others_of entries rs))
      at true ih = ih
      at false ih = AllPairs-cons (λ x y. x.key < y.key) r (others_of entries rs) (all_of (λ q. r.key < q.key) (others_of entries rs)
          (λ q c. below_rest r rs q up (others_old rs q (among_from (others_of entries rs) q c)))) ih

  pub split_is : (rules : List Rule) (split : SplitRules) → IsRising rules → split.zeros.items ≡ zeros_of entries rules
      → others_in split.others ≡ others_of entries rules
      → split.wholes.items ≡ wholes_of rules → (split.is_exact ≡ true → AreExact rules) → IsSplit entries rules split
  split_is rules split up z o w exact = record {
    zeros_rise = subst IsRising (sym z) (zeros_rise rules up);
    others_rise = subst IsRising (sym o) (others_rise rules up);
    each = λ r. (⊎_elim (λ c. contains_from rules r (old_zero r c).0) (λ c. contains_from rules r (old_other r c)), new r);
    zero = λ r c. (old_zero r c).1;
    shared = λ r c. (old_zero r c).2;
    wholes = w;
    wholes_rise = subst IsRising (sym w) (AllPairs-filter (λ x y. x.key < y.key) (λ x. not (names_column x.key)) rules up);
    exact = exact;
  }
    where
      old_zero : (r : Rule) → Contains split.zeros.items r
          → Among r rules × (is_zero_entry entries r.number ≡ true) × (names_row r.key ≡ false)
      old_zero r c = zeros_old rules r (among_from (zeros_of entries rules) r (subst (λ xs. Contains xs r) z c))

      old_other : (r : Rule) → Contains (others_in split.others) r → Among r rules
      old_other r c = others_old rules r (among_from (others_of entries rules) r (subst (λ xs. Contains xs r) o c))

      new : (r : Rule) → Contains rules r → Contains split.zeros.items r ⊎ Contains (others_in split.others) r
      new r c = ⊎_elim (λ a. inl (subst (λ xs. Contains xs r) (sym z) (contains_from (zeros_of entries rules) r a)))
          (λ a. inr (subst (λ xs. Contains xs r) (sym o) (contains_from (others_of entries rules) r a)))
          (none_lost rules r (among_from rules r c))

  -- without zeros the others are all rules
  all_others : (rs : List Rule) → zeros_of entries rs ≡ [] → others_of entries rs ≡ rs
  all_others [] e = refl
  all_others (r ∷ rs) e = grind (arith, all_others rs)

  pub no_zeros : (rs zeros : List Rule) → (length zeros == 0) ≡ true → zeros ≡ zeros_of entries rs → rs ≡ others_of entries rs
  no_zeros rs zeros none is = sym (all_others rs (sym is ∙ empty zeros none))
    where
      empty : (xs : List Rule) → (length xs == 0) ≡ true → xs ≡ []
      empty [] e = refl
      empty (x ∷ xs) e = absurd (grind (arith, nat_tests))

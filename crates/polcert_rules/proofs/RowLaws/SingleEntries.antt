-- The entries of single cells.
use Rattle.std.proofs.Common.{◌≡◌, ◌∙◌, ℕ, ◌+◌, ◌<◌, List, [], ◌∷◌, All, Some, subst, arith}
use Rattle.std.specs.List.{slice_get}
use Rattle.polcert_rules.proofs.Common.{Table, Only, Entry, Rule, key_base, table_key, most_places, IsIndexOf, IsCell, IsSingleEntry}
use Rattle.polcert_rules.proofs.Keyed.Fitting.{fit_digits}
use Rattle.polcert_rules.proofs.Keyed.Covering.{same_keys}
use Rattle.polcert_rules.proofs.RowLaws.RowNumbers.{single_fit}

pub single_entry : (entries : List Entry) (rules : List Rule) (table : Table) (a s : ℕ) → IsIndexOf table entries rules → a + 2 < key_base
    → s + 2 < key_base
    → (x : Rule) → IsCell rules (table_key table) a s x → IsSingleEntry entries table x
single_entry entries rules table a s index la ls x c =
    let entry = index.sound c.rule c.among in
    let places = c.single.first ∷ c.single.second ∷ Only x.key ∷ [] in
    let same = same_keys entry.0.table table _ places entry.4
    (fit_digits most_places places (a ∷ s ∷ x.key ∷ []) (omega arith, (omega arith, (omega arith, tt)))
    (single_fit (table_key table) a s x.key c.rule.key c.single)) (entry.2 ∙ c.single.is) in
    record {
      entry = entry.0;
      is = subst (λ n. slice_get entries n ≡ Some entry.0) c.number_is entry.1;
      of_table = same.0;
      first = c.single.first;
      second = c.single.second;
      places = same.1;
    }

pub single_entries : (entries : List Entry) (rules : List Rule) (table : Table) (a s : ℕ) (xs : List Rule) → IsIndexOf table entries rules
    → a + 2 < key_base → s + 2 < key_base
    → All (IsCell rules (table_key table) a s) xs → All (IsSingleEntry entries table) xs
single_entries entries rules table a s xs index la ls h k d l = single_entry _ _ _ a s index la ls _ (h k d l)

-- Rows of actions that no entry names.
use Rattle.std.proofs.Common.{◌≡◌, ◌∙◌, ℕ, ◌+◌, ◌<◌, ⊎_elim, Option, List, [], ◌∷◌, Contains, sym, ap, arith}
use Rattle.polcert_rules.proofs.Common.{Table, Entry, last_covering, value_or, Rule, key_base, table_key, most_places, IsNewest, IsIndexOf}
use Rattle.polcert_rules.proofs.Common.{entry_at, newest_in, entry_weight, weight_by_entries}
use Rattle.polcert_rules.specs.Keys.{FitsKey}
use Rattle.polcert_cells.proofs.CellLaws as cells
use Rattle.polcert_rules.specs.Steps.Repeats.{NamesNoAction}
use Rattle.polcert_rules.proofs.Keyed.Fitting.{fits_low, fits_high, fits_here, fits_next, fits_every}
use Rattle.polcert_rules.proofs.Indexes.Matching.{newest_is}
use Rattle.polcert_rules.proofs.Keyed.Covering.{last_is, last_number}
use Rattle.polcert_rules.proofs.Indexes.Greatest.{greatest_as, greatest_of, newest_of}

-- ---- where no pattern names an action, whatever fits it fits another
other_fits : (rules : List Rule) (table : Table) (a b s c : ℕ) (r : Rule) → Contains rules r → NamesNoAction rules table a
    → s + 2 < key_base → c + 2 < key_base
    → FitsKey most_places (table_key table) (a ∷ s ∷ c ∷ []) r.key → FitsKey most_places (table_key table) (b ∷ s ∷ c ∷ []) r.key
other_fits rules table a b s c r among none ls lc f = ⊎_elim (λ here. fits_here 4 _ _ _ here)
    (λ next. ⊎_elim (λ every. fits_every 3 _ b _ _ every)
    (λ only.
    let low = fits_low 3 _ _ _ only in
    let high = fits_high 3 _ _ _ (ls, (lc, tt)) only in
    absurd (omega (arith, high, none r among low))) next)
    (fits_next 3 _ a _ _ f)

-- ---- the rows of two such actions
module _ (entries : List Entry) (rules : List Rule) (table : Table) (index : IsIndexOf table entries rules) where
  covering_is : (d e c : ℕ) (found : Option ℕ) → d + 2 < key_base → e + 2 < key_base → c + 2 < key_base
      → IsNewest rules (FitsKey most_places (table_key table) (d ∷ e ∷ c ∷ [])) found
      → last_covering entries table (d ∷ e ∷ c ∷ []) ≡ entry_at entries found
  covering_is d e c found ld le lc n =
      sym (cells.last_is_one entries table (d ∷ e ∷ c ∷ []) _
      (last_is _ _ _ found (last_number entries rules table (d ∷ e ∷ c ∷ []) found index (ld, (le, (lc, tt))) n)))

  -- an action that no pattern names, and another
  pub as_named : (a b s columns c : ℕ) → NamesNoAction rules table a → NamesNoAction rules table b → a + 2 < key_base → b + 2 < key_base
      → s + 2 < key_base → c + 2 < key_base
      → weight_by_entries columns entries table a s c ≡ weight_by_entries columns entries table b s c
  as_named a b s columns c na nb la lb ls lc =
      let found = newest_in most_places (table_key table) rules (a ∷ s ∷ c ∷ []) in
      let one = newest_is most_places (table_key table) rules (a ∷ s ∷ c ∷ []) in
      ap (value_or 0 (λ e. entry_weight columns e s c)) (covering_is a s c found la ls lc one
      ∙ sym (covering_is b s c found lb ls lc (newest_of rules (FitsKey most_places (table_key table) (b ∷ s ∷ c ∷ [])) found
      (greatest_as _ _ found (λ r f. (f.0, other_fits rules table a b s c r f.0 na ls lc f.1))
      (λ r f. (f.0, other_fits rules table b a s c r f.0 nb ls lc f.1)) (greatest_of rules _ found one)))))

-- A row of the index: what covers the whole row, the zeros, and the other single cells.
use Rattle.std.proofs.Common.{◌≡◌, ℕ, ◌+◌, ◌<◌, ◌⊎◌, inl, inr, ⊎_elim, true, Option, Some, List, [], ◌∷◌, All, Contains, sym, subst, arith}
use Rattle.std.specs.Prelude.{IfSome}
use Rattle.polcert_rules.proofs.Common.{Table, Entry, Rule, SplitRules, RowZeros, EntryRow, key_base, table_key, most_places, IsRising}
use Rattle.polcert_rules.proofs.Common.{IsNewest}
use Rattle.polcert_rules.proofs.Common.{IsIndexOf, IsLastNumber, max_option, IsSingleCellKey, IsCell, HasNoSuchColumn, HaveColumns}
use Rattle.polcert_rules.proofs.Common.{at_column}
use Rattle.polcert_rules.proofs.Common.{no_column, IsSplit, others_in, IsEntryRowOf, is_zero_entry, zero_of, number_under}
use Rattle.polcert_rules.specs.Keys.{FitsKey}
use Rattle.polcert_rules.specs.Steps.Zeros.{HasOrderedZeros}
use Rattle.polcert_rules.proofs.Keyed.Covering.{covered_fits, fits_covered, last_number, keyed_at}
use Rattle.polcert_rules.proofs.RowLaws.RowNumbers.{fits_split, single_fits, covers_any}
use Rattle.polcert_rules.proofs.RowLaws.SingleEntries.{single_entries}
use Rattle.polcert_rules.proofs.Indexes.Greatest.{greatest_as, greatest_of, newest_of, greatest_of_two}

pub under_is : (whole : Option ℕ) (zeros : Option RowZeros) (c : ℕ) → number_under whole zeros c ≡ max_option whole (zero_of zeros c)
under_is whole zeros c = grind arith

-- what covers the whole row fits each column
module _ (entries : List Entry) (rules : List Rule) (table : Table) (a s : ℕ) (columns : HaveColumns entries)
    (index : IsIndexOf table entries rules)
    (la : a + 2 < key_base) (ls : s + 2 < key_base) where
  pub widened : (c : ℕ) (r : Rule) → Contains rules r → FitsKey most_places (table_key table) (a ∷ s ∷ no_column ∷ []) r.key
      → FitsKey most_places (table_key table) (a ∷ s ∷ c ∷ []) r.key
  widened c r among f =
      let entry = index.sound r among in
      let back = subst (FitsKey most_places (table_key table) (a ∷ s ∷ no_column ∷ [])) (sym entry.2) f in
      subst (FitsKey most_places (table_key table) (a ∷ s ∷ c ∷ [])) entry.2
      (covered_fits table (a ∷ s ∷ c ∷ []) entry.0 (covers_any _ entry.0 a s c
      (keyed_at (λ (e : Entry). HasNoSuchColumn e.places) entries r.number entry.0 columns entry.1)
      (fits_covered table (a ∷ s ∷ no_column ∷ []) entry.0 entry.4 (omega arith, (omega arith, (omega arith, tt))) back)))

module _ (entries : List Entry) (rules : List Rule) (table : Table) (a s : ℕ) (split : SplitRules) (columns : HaveColumns entries)
    (index : IsIndexOf table entries rules)
    (parted : IsSplit entries rules split) (la : a + 2 < key_base) (ls : s + 2 < key_base) where
  -- the three kinds of rules that fit a cell
  abbrev Three : ℕ → Rule → Type 0
  Three c r =
      ((Contains rules r × FitsKey most_places (table_key table) (a ∷ s ∷ no_column ∷ []) r.key)
      ⊎ (Contains split.zeros.items r × IsSingleCellKey (table_key table) a s c r.key))
      ⊎ (Contains (others_in split.others) r × IsSingleCellKey (table_key table) a s c r.key)

  three_fit : (c : ℕ) (r : Rule) → Three c r → Contains rules r × FitsKey most_places (table_key table) (a ∷ s ∷ c ∷ []) r.key
  three_fit c r e = ⊎_elim (λ two. ⊎_elim (λ w. (w.0, widened _ _ _ a s columns index la ls c r w.0 w.1))
      (λ z. ((parted.each r).0 (inl z.0), single_fits _ a s c _ z.1)) two)
      (λ o. ((parted.each r).0 (inr o.0), single_fits _ a s c _ o.1)) e

  fit_three : (c : ℕ) → c < no_column → (r : Rule) → Contains rules r × FitsKey most_places (table_key table) (a ∷ s ∷ c ∷ []) r.key
      → Three c r
  fit_three c small r f = ⊎_elim (λ w. inl (inl (f.0, w)))
      (λ single. ⊎_elim (λ z. inl (inr (z, single))) (λ o. inr (o, single)) ((parted.each r).1 f.0))
      (fits_split _ a s c _ _ f.1)

  row_number : (c : ℕ) (whole zero cell : Option ℕ) → c < no_column
      → IsNewest rules (FitsKey most_places (table_key table) (a ∷ s ∷ no_column ∷ [])) whole
      → IsNewest split.zeros.items (IsSingleCellKey (table_key table) a s c) zero
      → IsNewest (others_in split.others) (IsSingleCellKey (table_key table) a s c) cell
      → IsLastNumber entries table (a ∷ s ∷ c ∷ []) (max_option (max_option whole zero) cell)
  row_number c whole zero cell small w z o =
      let two = greatest_of_two _
      _
      _ zero (greatest_of _ _ _ w) (greatest_of _ _ zero z) in
      let three = greatest_of_two _ _
      _ cell two (greatest_of _ _ cell o) in
      let all = newest_of _ _ _
      (greatest_as _ _ _ (three_fit c) (fit_three c small) three) in
      last_number _ _ _ _ _ index (omega arith, (omega arith, (omega arith, tt))) all

  of_index : (x : Rule) → IsCell (others_in split.others) (table_key table) a s x → IsCell rules (table_key table) a s x
  of_index x c = record {
    rule = _;
    among = (parted.each _).0 (inr c.among);
    single = c.single;
    column = c.column;
    number_is = c.number_is;
  }

  zero_is : (c n : ℕ) (o : Option ℕ) → o ≡ Some n → IsNewest split.zeros.items (IsSingleCellKey (table_key table) a s c) o
      → is_zero_entry entries n ≡ true
  zero_is c n o h1 h2 = grind arith

  pub row_is : (row : EntryRow) → IsNewest rules (FitsKey most_places (table_key table) (a ∷ s ∷ no_column ∷ [])) row.whole
      → IsRising row.cells.rules.items
      → ((c : ℕ) → c + 2 < key_base → IsNewest (others_in split.others) (IsSingleCellKey (table_key table) a s c)
      (at_column row.cells.rules.items c))
      → All (IsCell (others_in split.others) (table_key table) a s) row.cells.rules.items → IfSome row.zeros HasOrderedZeros
      → ((c : ℕ) → c + 2 < key_base → IsNewest split.zeros.items (IsSingleCellKey (table_key table) a s c) (zero_of row.zeros c))
      → IsEntryRowOf entries table a s row
  row_is row w up newest each ordered zeros = record {
    rising = up;
    ordered = ordered;
    single = single_entries _ _ _ a s _ index la ls (λ k d l. of_index _ (each k d l));
    zeros = λ c n l e. zero_is c n _ e (zeros c (omega arith));
    whole = last_number _ _ _ _ _ index (omega arith, (omega arith, (omega arith, tt))) w;
    last = λ c l. subst (λ u. IsLastNumber entries table (a ∷ s ∷ c ∷ []) (max_option u (at_column row.cells.rules.items c)))
        (sym (under_is row.whole row.zeros c))
        (row_number c _ _ _ l w (zeros c (omega arith))
        (newest c (omega arith)));
  }

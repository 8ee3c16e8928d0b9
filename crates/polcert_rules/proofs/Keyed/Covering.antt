-- An entry covers a cell exactly where its key fits the indices: the newest that fits is the last that covers.
use Rattle.std.proofs.Common.{◌≡◌, ◌∙◌, ℕ, suc, ◌+◌, ◌^◌, ◌<◌, ◌≤◌, Bool, true, false, ◌&&◌, ◌||◌, Option, Some, None, List, [], ◌∷◌}
use Rattle.std.proofs.Common.{◌++◌, take, drop, length, All, Contains, refl, sym, ap, subst, arith}
use Rattle.polcert_rules.proofs.Common.{list_any, drop_more, slice_get_within, get_or_from_slice_get, Table, Place, Entry, is_table}
use Rattle.polcert_rules.proofs.Common.{fit_places, covers, IsLastCovering, last, Rule, key_base, key_in, key_of, table_key, AreDigits}
use Rattle.polcert_rules.proofs.Common.{AreIndices, most_places, IsNewest, IsIndexOf, IsLastNumber, entry_at}
use Rattle.std.specs.List.{slice_get}
use Rattle.polcert_cells.proofs.Basics.{slice_get-drop}
use Rattle.std.proofs.lemmas.List.{take-append-drop}
use Rattle.polcert_cells.specs.Cells.{none}
use Rattle.polcert_rules.specs.Keys.{table_digit, FitsKey}
use Rattle.polcert_rules.proofs.Keyed.Fitting.{fit_digits, and_true}
use Rattle.polcert_rules.proofs.Keyed.Keying.{same_digit, same_places}
use Rattle.polcert_rules.proofs.Indexes.Newer.{IsSpan, newest_of_span}

pub same_table : (t u : Table) → is_table t u ≡ true → t ≡ u
same_table t u h1 = grind arith

equal_table : (t : Table) → is_table t t ≡ true
equal_table t = grind arith

pub table_of_digit : (t u : Table) → table_digit t ≡ table_digit u → t ≡ u
table_of_digit t u h1 = grind arith

-- the one fact: what covers fits, and what fits covers
pub covered_fits : (table : Table) (indices : List ℕ) (e : Entry) → covers table indices e ≡ true
    → FitsKey most_places (table_key table) indices (key_of e)
covered_fits table indices e c = grind arith

pub same_keys : (t u : Table) (ps qs : List Place) → AreDigits most_places ps → AreDigits most_places qs
    → key_in most_places (table_key t) ps ≡ key_in most_places (table_key u) qs
    → (t ≡ u) × (ps ≡ qs)
same_keys t u ps qs a b e =
    let zero_t : 0 + table_key t ≡ table_key t = omega arith in
    let zero_u : 0 + table_key u ≡ table_key u = omega arith in
    let tables = table_of_digit t u (same_digit _ 0 _ _ ps qs a b
    (ap (λ l. key_in most_places l ps) zero_t ∙ e ∙ ap (λ l. key_in most_places l qs) (sym zero_u))) in
    (tables, same_places _ _ ps qs a b (e ∙ ap (λ v. key_in most_places (table_key v) qs) (sym tables)))

pub fits_covered : (table : Table) (indices : List ℕ) (e : Entry) → AreDigits most_places e.places → AreIndices most_places indices
    → FitsKey most_places (table_key table) indices (key_of e) → covers table indices e ≡ true
fits_covered table indices e digits a f =
    let same = same_keys _ _ _ _ digits (fit_digits _ _ _ a f.fits) f.is in
    ap (λ b. b && fit_places e.places indices) (ap (λ t. is_table t table) same.0 ∙ equal_table table)
    ∙ ap (λ ps. fit_places ps indices) same.1 ∙ f.fits

-- ---- the last that covers
false_from : (b : Bool) → (b ≡ true → ⊥) → b ≡ false
false_from b h1 = grind arith

none_of : (p : Entry → Bool) (es : List Entry) → ((k : ℕ) (e : Entry) → slice_get es k ≡ Some e → p e ≡ true → ⊥) → list_any p es ≡ false
none_of p [] h = refl
none_of p (e ∷ es) h = ap (λ b. b || list_any p es) (false_from (p e) (h 0 e refl)) ∙ (none_of p es (λ k x is. h (suc k) x is))

last_at : (entries : List Entry) (table : Table) (indices : List ℕ) (n : ℕ) (e : Entry) → slice_get entries n ≡ Some e
    → covers table indices e ≡ true
    → ((k : ℕ) (x : Entry) → slice_get entries k ≡ Some x → covers table indices x ≡ true → k ≤ n)
    → IsLastCovering entries table indices (Some e)
last_at entries table indices n e is covered greatest =
    let split =
    drop_more _ n e (slice_get_within entries n e is) ∙ ap (λ x. x ∷ drop (n + 1) entries) (get_or_from_slice_get _ n e e is) in
    last (take n entries) e (drop (n + 1) entries) (sym (take-append-drop n entries) ∙ ap (λ xs. take n entries ++ xs) split)
    covered
    (none_of (covers table indices) (drop (n + 1) entries)
    (λ k x found c. let at = greatest (n + 1 + k) x (sym (slice_get-drop (n + 1) k entries) ∙ found) c in absurd (omega arith)))

-- the entry of the last number is the last
pub last_is : (entries : List Entry) (table : Table) (indices : List ℕ) (number : Option ℕ) → IsLastNumber entries table indices number
    → IsLastCovering entries table indices (entry_at entries number)
last_is entries table indices None l = none (none_of (covers table indices) entries l)
last_is entries table indices (Some n) l = grind (arith, last_at)

pub keyed_at : (P : Entry → Type 0) (entries : List Entry) (k : ℕ) (e : Entry) → All P entries → slice_get entries k ≡ Some e → P e
keyed_at P entries k e keyed is = subst P (get_or_from_slice_get _ k e e is) (keyed k e (slice_get_within entries k e is))

pub number_within : (table : Table) (entries : List Entry) (rules : List Rule) → IsIndexOf table entries rules → (r : Rule)
    → Contains rules r → r.number < length entries
number_within table entries rules index r among = let e = index.sound r among in slice_get_within _ _ e.0 e.1

-- what covers a cell is an entry of the table
pub covers_own : (table : Table) (indices : List ℕ) (e : Entry) → covers table indices e ≡ true → e.table ≡ table
covers_own table indices e c = same_table _ _ (and_true _ _ c).0

pub last_number : (entries : List Entry) (rules : List Rule) (table : Table) (indices : List ℕ) (result : Option ℕ)
    → IsIndexOf table entries rules
    → AreIndices most_places indices → IsNewest rules (FitsKey most_places (table_key table) indices) result
    → IsLastNumber entries table indices result
last_number entries rules table indices None index a n = λ k e is c.
    let r = index.complete k e is (covers_own table indices e c) in
    n r.0 r.1 (subst (FitsKey most_places (table_key table) indices) (sym r.2) (covered_fits table indices e c))
last_number entries rules table indices (Some m) index a n =
    let entry = index.sound n.0.rule n.0.among in
    let is : slice_get entries m ≡ Some entry.0 = subst (λ k. slice_get entries k ≡ Some entry.0) n.0.is entry.1 in
    let covered : covers table indices entry.0 ≡ true =
    fits_covered table indices entry.0 entry.4 a (subst (FitsKey most_places (table_key table) indices) (sym entry.2) n.0.passes) in (
      (entry.0, is, covered),
      λ k x found c.
          let r = index.complete k x found (covers_own table indices x c) in
          let l = n.1 r.0 r.1 (subst (FitsKey most_places (table_key table) indices) (sym r.2) (covered_fits table indices x c)) in
          let low = r.3 in omega arith,
    )

-- from the part of the rules that has the table's
pub newest_in : (rules part : List Rule) (table : Table) (indices : List ℕ) (low size : ℕ) (result : Option ℕ) → low ≡ table_key table
    → size ≡ key_base ^ most_places
    → AreIndices most_places indices → IsSpan rules part low size → IsNewest part (FitsKey most_places low indices) result
    → IsNewest rules (FitsKey most_places (table_key table) indices) result
newest_in rules part table indices low size result at full a span n =
    subst (λ l. IsNewest rules (FitsKey most_places l indices) result) at
    (newest_of_span rules part most_places low indices result a (subst (IsSpan rules part low) full span) n)

-- Sound entries: their keys, and the numbers and weights of their rows.
use Rattle.std.proofs.Common.{◌≡◌, ◌∙◌, ℕ, zero, suc, ◌+◌, ◌*◌, ◌<◌, ◌≤◌, lit≤, Option, Some, None, List, [], ◌∷◌, ◌++◌, length, All, refl}
use Rattle.std.proofs.Common.{sym, ap, subst, arith, rules}
use Rattle.std.specs.List.{slice_get}
use Rattle.polcert_rules.proofs.Common.{Table, Reward, Place, Entry, Elements, count_of, most_states, most_actions, most_observations}
use Rattle.polcert_rules.proofs.Common.{is_table, fit_places, last_covering, IsLastCovering, last, weight, weight_of, value_or, one}
use Rattle.polcert_rules.proofs.Common.{Preamble, dimensions, IsWeighted, IsSoundEntry, Rule, Shape, ActionRules, EntryRow}
use Rattle.polcert_rules.proofs.Common.{IsEntryRowOf}
use Rattle.polcert_rules.proofs.Common.{covering_entry, key_base, AreDigits, most_places, IsIndexOf, AreKeyed, IsLastNumber}
use Rattle.polcert_rules.proofs.Common.{HaveColumns, IsSingleEntry, no_column, number_in, IsShapeWithin, FitsShape, entry_weight, IsShapeOf}
use Rattle.polcert_rules.proofs.Common.{AreSound}
use Rattle.polcert_rules.proofs.Common.{weight_by_entries, IsWholeRowEntry, AreNumbersOf}
use Rattle.polcert_cells.specs.declared.entries.Table.TheVariants.{Transition, Observation}
use Rattle.polcert_cells.specs.Preamble.{observed}
use Rattle.polcert_cells.specs.Steps.Sound.{ArePlacesIn}
use Rattle.polcert_rules.specs.Steps.Given.{HasColumn}
use Rattle.polcert_rules.specs.Steps.Sources.{IsNumberEntry}
use Rattle.polcert_cells.proofs.CellLaws as cells
use Rattle.polcert_cells.proofs.SoundLaws.{rewarded_few}
use Rattle.polcert_rules.specs.Steps.Repeats.{IsWholeNumber}
use Rattle.polcert_rules.specs.Steps.Zeros.{AreActionRules}
use Rattle.polcert_rules.proofs.Keyed.Fitting.{and_true}
use Rattle.polcert_rules.proofs.Keyed.KeyBase.{action_digit, element_digit, place_digit}
use Rattle.polcert_rules.proofs.Keyed.Covering.{same_table, last_is}
use Rattle.polcert_rules.proofs.Indexes.KeptLaws.{at_number, given_small}
use Rattle.polcert_rules.proofs.RowLaws.FormLaws.{given_is, sound_fits, single_number}

-- ---- places within their counts have keys, and no column is too large
-- each of these elements has a digit
abbrev AreFew : List Elements → Type 0
AreFew [] = Unit {0}
AreFew (d ∷ ds) = (count_of d + 2 < key_base) × AreFew ds

digits_in : (m : ℕ) (ds : List Elements) (ps : List Place) → length ds ≤ m → AreFew ds → ArePlacesIn ds ps → AreDigits m ps
digits_in m ds [] l few h = tt
digits_in m [] (x ∷ ps) l few h = absurd h
digits_in zero (d ∷ ds) (x ∷ ps) l few h = absurd (omega arith)
digits_in (suc m) (d ∷ ds) (x ∷ ps) l few h = (place_digit d x few.0 h.0, digits_in m ds ps (omega arith) few.1 h.1)

module _ (p : Preamble) (sound : (count_of p.states ≤ most_states) × (count_of p.actions ≤ most_actions)
    × (count_of (observed p) ≤ most_observations)) where
  keyed : (t : Table) (ps : List Place) → ArePlacesIn (dimensions p t) ps → AreDigits most_places ps
  keyed Transition ps h = digits_in 4 _ ps (lit≤ tt) (action_digit _ sound.1, (element_digit _ sound.0, (element_digit _ sound.0, tt))) h
  keyed Observation ps h = digits_in 4 _ ps (lit≤ tt) (action_digit _ sound.1, (element_digit _ sound.0, (element_digit _ sound.2, tt))) h
  keyed Reward ps h =
      digits_in 4 _ ps (lit≤ tt) (
        action_digit _ sound.1,
        (
          element_digit _ sound.0,
          (element_digit _ sound.0, (element_digit _ (rewarded_few p sound.2), tt)),
        ),
      ) h

-- sound entries have keys
pub sound_keyed : (p : Preamble) (entries : List Entry) → AreSound p entries → AreKeyed entries
sound_keyed p entries sound k d l = grind (arith, keyed)

-- and no column too large
pub sound_columns : (p : Preamble) (entries : List Entry) → AreSound p entries → HaveColumns entries
sound_columns p entries sound k d l = grind arith

-- ---- what covers a cell is an entry of the table
get_here : (xs ys : List Entry) (e : Entry) → slice_get (xs ++ e ∷ ys) (length xs) ≡ Some e
get_here [] ys e = refl
get_here (x ∷ xs) ys e = get_here xs ys e

record IsCovering (entries : List Entry) (table : Table) (e : Entry) : Type 0 where
  number : ℕ
  is : slice_get entries number ≡ Some e
  of_table : e.table ≡ table

covering : (entries : List Entry) (table : Table) (indices : List ℕ) (e : Entry) → last_covering entries table indices ≡ Some e
    → IsCovering entries table e
covering entries table indices e f = at (Some e) refl (subst (IsLastCovering entries table indices) f (cells.last_is entries table indices))
  where
    at : (o : Option Entry) → o ≡ Some e → IsLastCovering entries table indices o → IsCovering entries table e
    at None g h = cc
    at (Some x) g (last front y following whole here rest) =
        let same : x ≡ e = cc in
        let both = and_true _ _ here in
        record {
          number = length front;
          is = ap (λ xs. slice_get xs (length front)) whole ∙ get_here front _ x ∙ ap Some same;
          of_table = ap (λ (z : Entry). z.table) (sym same) ∙ same_table _ _ both.0;
        }

module _ (p : Preamble) (table : Table) (shape : Shape) (entries : List Entry) (w : IsWeighted table) (is : IsShapeOf p table shape)
    (each : All (IsSoundEntry p) entries) where
  fits : (n : ℕ) (e : Entry) → slice_get entries n ≡ Some e → e.table ≡ table → FitsShape shape e
  fits n e at t = sound_fits p _ _ e w is t (at_number (IsSoundEntry p) _ n e each at)

  -- the weight of a cell, under any preamble of the shape
  pub weight_is : (q : Preamble) (a s c : ℕ) → IsShapeOf q table shape
      → weight_by_entries shape.columns entries table a s c ≡ weight q entries table (a ∷ s ∷ c ∷ [])
  weight_is q a s c like = at (last_covering entries table (a ∷ s ∷ c ∷ [])) refl
    where
      at : (o : Option Entry) → last_covering entries table (a ∷ s ∷ c ∷ []) ≡ o
          → value_or 0 (λ e. entry_weight shape.columns e s c) o ≡ value_or 0 (weight_of q (a ∷ s ∷ c ∷ [])) o
      at None f = refl
      at (Some e) f =
          let i = covering _ _ _ e f in
          sym (given_is q _ _ e a s c w like i.of_table (fits i.number e i.is i.of_table).form)

  -- a single cell is a number, in a column
  pub newer_is : (r : Rule) → IsSingleEntry entries table r → (r.key < shape.columns) × IsNumberEntry entries r.number
  newer_is r e =
      let f = fits r.number _ e.is e.of_table in
      let one_number = single_number _ _ _ _ _ _ w e.of_table e.places f in (
        (subst (HasColumn shape.columns) e.places f.column),
        record {
          entry = _;
          is = e.is;
          written = _;
          body = one_number.is;
          small = one_number.small;
          places = ap length e.places;
        },
      )

  module _ (within : IsShapeWithin shape) (a s : ℕ) (row : EntryRow) (h : IsEntryRowOf entries table a s row) where
    whole_is : (o : Option ℕ) → IsLastNumber entries table (a ∷ s ∷ no_column ∷ []) o → IsWholeRowEntry shape entries o
    whole_is None l = tt
    whole_is (Some n) l = (
      l.0.0,
      l.0.1,
      fits n l.0.0 l.0.1 (same_table l.0.0.table table
          (and_true (is_table l.0.0.table table) (fit_places l.0.0.places (a ∷ s ∷ no_column ∷ [])) l.0.2).0),
    )

    small_is : (c : ℕ) → weight_by_entries shape.columns entries table a s c ≤ one * shape.columns
    small_is c = at (last_covering entries table (a ∷ s ∷ c ∷ [])) refl
      where
        at : (o : Option Entry) → last_covering entries table (a ∷ s ∷ c ∷ []) ≡ o
            → value_or 0 (λ e. entry_weight shape.columns e s c) o ≤ one * shape.columns
        at None f = omega arith
        at (Some e) f =
            let i = covering _ _ _ e f in
            given_small _ e s c within (fits i.number e i.is i.of_table)

    pub numbers_are : AreNumbersOf shape entries table a s row
    numbers_are =
        record {
          rising = h.rising;
          ordered = h.ordered;
          cells = λ k d l. newer_is _ (h.single k d l);
          zeros = λ c n l. h.zeros c n (omega arith);
          covering = whole_is row.whole h.whole;
          last = λ c l.
              let number = number_in (covering_entry row c) row.cells.rules.items c in
              sym (cells.last_is_one entries table (a ∷ s ∷ c ∷ []) _
              (last_is _ _ _ number (h.last c (omega arith))));
          small = λ c l. small_is c;
        }

-- the counts of a shape are within their limits
pub sound_within : (p : Preamble) (table : Table) (shape : Shape) (entries : List Entry) → IsWeighted table → IsShapeOf p table shape
    → AreSound p entries → IsShapeWithin shape
sound_within p table shape entries h1 h2 h3 = grind arith

-- the numbers of a row, by what the index says of it
pub row_numbers : (p : Preamble) (table : Table) (shape : Shape) (entries : List Entry) (rules : List Rule) (given : ActionRules) (a s : ℕ)
    (whole : Option ℕ) (row : EntryRow)
    → IsWeighted table → IsShapeOf p table shape → AreSound p entries → IsIndexOf table entries rules → AreActionRules entries rules given
    → given.table ≡ table → given.action ≡ a → IsWholeNumber rules table a s whole
    → ((es : List Entry) (rs : List Rule) → HaveColumns es → IsIndexOf given.table es rs → AreActionRules es rs given
    → IsWholeNumber rs given.table given.action s whole → IsEntryRowOf es given.table given.action s row)
    → AreNumbersOf shape entries table a s row
row_numbers p table shape entries rs given a s whole row w is sound index found same here covering0 of_row =
    let covering1 = subst (λ i. IsWholeNumber rs table i s whole) (sym here) covering0 in
    let covering2 = subst (λ t. IsWholeNumber rs t given.action s whole) (sym same) covering1 in
    let of_given = of_row entries rs (sound_columns p entries sound) (subst (λ t. IsIndexOf t entries rs) (sym same) index) found covering2
    in
    let of_table = subst (λ t. IsEntryRowOf entries t given.action s row) same of_given in
    let of_action = subst (λ i. IsEntryRowOf entries table i s row) here of_table in
    search (of_action, rules, covering, numbers_are, sound_within)

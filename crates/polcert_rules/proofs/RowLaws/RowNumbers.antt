-- What fits a cell of a row: what covers the whole row, or a single cell.
use Rattle.std.proofs.Common.{◌≡◌, ℕ, ◌⊎◌, inl, true, List, [], ◌∷◌, refl, arith}
use Rattle.polcert_rules.proofs.Common.{Table, Place, Every, Only, Entry, fits_place, fit_places, covers, key_in, most_places}
use Rattle.polcert_rules.proofs.Common.{IsSingleCellKey}
use Rattle.polcert_rules.proofs.Common.{HasNoSuchColumn, no_column}
use Rattle.polcert_rules.specs.Keys.{FitsKey}
use Rattle.polcert_rules.proofs.Keyed.Fitting.{and_true, same_number, equal_numbers}

-- three tests in a row
record AllFit (p q r : Place) (ps : List Place) (a s c : ℕ) : Type 0 where
  first : fits_place p a ≡ true
  second : fits_place q s ≡ true
  third : fits_place r c ≡ true
  rest : ps ≡ []

no_rest : (ps : List Place) → fit_places ps [] ≡ true → ps ≡ []
no_rest [] e = refl
no_rest (p ∷ ps) e = cc

all_fit : (p q r : Place) (ps : List Place) (a s c : ℕ) → fit_places (p ∷ q ∷ r ∷ ps) (a ∷ s ∷ c ∷ []) ≡ true → AllFit p q r ps a s c
all_fit p q r ps a s c e = grind (arith, and_true, no_rest)

fit_all : (p q r : Place) (ps : List Place) (a s c : ℕ) → AllFit p q r ps a s c → fit_places (p ∷ q ∷ r ∷ ps) (a ∷ s ∷ c ∷ []) ≡ true
fit_all p q r ps a s c f = grind arith

-- what fits a cell fits the whole row, or is a single cell
pub fits_split : (low a s c d key : ℕ) → FitsKey most_places low (a ∷ s ∷ c ∷ []) key → FitsKey most_places low (a ∷ s ∷ d ∷ []) key
    ⊎ IsSingleCellKey low a s c key
fits_split low a s c d key f = at f.places f.fits f.is
  where
    at : (ps : List Place) → fit_places ps (a ∷ s ∷ c ∷ []) ≡ true → key ≡ key_in most_places low ps
        → FitsKey most_places low (a ∷ s ∷ d ∷ []) key ⊎ IsSingleCellKey low a s c key
    at [] e is = inl (record { places = []; fits = e; is = is })
    at (p ∷ []) e is = inl (record { places = p ∷ []; fits = e; is = is })
    at (p ∷ q ∷ []) e is = inl (record { places = p ∷ q ∷ []; fits = e; is = is })
    at (p ∷ q ∷ Every ∷ ps) e is =
        let g = all_fit p q Every ps a s c e in
        inl (record {
          places = p ∷ q ∷ Every ∷ ps;
          fits = fit_all p q Every ps a s d (record { first = g.first; second = g.second; third = refl; rest = g.rest });
          is = is;
        })
    at (p ∷ q ∷ Only n ∷ ps) e is = grind (arith, same_number, all_fit)

pub single_fit : (low a s c key : ℕ) → (i : IsSingleCellKey low a s c key)
    → fit_places (i.first ∷ i.second ∷ Only c ∷ []) (a ∷ s ∷ c ∷ []) ≡ true
single_fit low a s c key i = fit_all _ _ (Only c) [] a s c
    (record { first = i.fits_action; second = i.fits_state; third = equal_numbers c; rest = refl })

pub single_fits : (low a s c key : ℕ) → IsSingleCellKey low a s c key → FitsKey most_places low (a ∷ s ∷ c ∷ []) key
single_fits low a s c key i = record { places = i.first ∷ i.second ∷ Only c ∷ []; fits = single_fit low a s c key i; is = i.is }

pub covers_any : (table : Table) (e : Entry) (a s c : ℕ) → HasNoSuchColumn e.places → covers table (a ∷ s ∷ no_column ∷ []) e ≡ true
    → covers table (a ∷ s ∷ c ∷ []) e ≡ true
covers_any table e a s c h covered = grind arith

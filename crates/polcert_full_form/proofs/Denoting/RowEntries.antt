-- The entries of a row as it is printed give the row's weights back.
use Rattle.std.proofs.Common.{◌≡◌, ◌∙◌, ℕ, zero, suc, ◌*◌, ◌/◌, ◌%◌, ◌<◌, ◌==◌, ◌≢◌, ◌⊎◌, ⊎_elim, inl, Bool, true, false, ◌&&◌}
use Rattle.std.proofs.Common.{cond, Some, List, [], ◌∷◌, ◌++◌, refl, sym, ap, arith}
use Rattle.polcert_full_form.proofs.Common.{list_any, get_or-map-range_with_len, Table, Transition, Observation, Only, Body}
use Rattle.polcert_full_form.proofs.Common.{Probabilities, Uniform, Entry, Elements, one, count_of, Preamble, is_mdp, dimensions, named}
use Rattle.polcert_full_form.proofs.Common.{columns, observed, forms, MayBeGiven, is_table, covers, weight_of, for_each, values, all_below}
use Rattle.polcert_full_form.proofs.Common.{is_uniform, is_decimal}
use Rattle.polcert_cells.proofs.Basics.{and_true}
use Rattle.polcert_full_form.proofs.Denoting.Covering.{last_of, none_of, last_after, last_before, none_of_each, last_of_each}

-- ---- the entries
abbrev pub whole_row : Table → ℕ → ℕ → Body → Entry
whole_row table a s body = record { table = table; places = Only a ∷ Only s ∷ []; body = body }

abbrev pub one_cell : Table → ℕ → ℕ → ℕ → ℕ → Entry
one_cell table a s c p = record { table = table; places = Only a ∷ Only s ∷ Only c ∷ []; body = Probabilities (p ∷ []) }

abbrev pub cell_entries : Table → ℕ → ℕ → ℕ → (ℕ → ℕ) → ℕ → List Entry
cell_entries table a s n w c = cond (w c == one) [] (one_cell table a s c (w c / n) ∷ [])

abbrev pub single_cells : Table → ℕ → ℕ → ℕ → (ℕ → ℕ) → List Entry
single_cells table a s n w = whole_row table a s Uniform ∷ [] ++ for_each n (cell_entries table a s n w)

abbrev pub decimal_row : Table → ℕ → ℕ → ℕ → (ℕ → ℕ) → List Entry
decimal_row table a s n w = whole_row table a s (Probabilities (values n (λ c. w c / n))) ∷ []

abbrev pub uniform_row : Table → ℕ → ℕ → List Entry
uniform_row table a s = whole_row table a s Uniform ∷ []

abbrev pub row_entries : Table → ℕ → ℕ → ℕ → (ℕ → ℕ) → List Entry
row_entries table a s n w =
    cond (is_uniform n w) (uniform_row table a s) (cond (is_decimal n w) (decimal_row table a s n w) (single_cells table a s n w))

-- a weight of one part in n, or of a number of millionths
abbrev pub Fits : ℕ → ℕ → Type 0
Fits n w = (w ≡ one) ⊎ ((q : ℕ) × (w ≡ q * n))

-- ---- tests
pub test_below : (n c : ℕ) (test : ℕ → Bool) → all_below n test ≡ true → c < n → test c ≡ true
test_below zero c test e l = grind arith
test_below (suc n) c test e l =
    let both = and_true _ _ e in
    ⊎_elim (λ same. rw same both.1) (test_below n c _ both.0) (here_or_before c n l)
  where
    here_or_before : (i n : ℕ) → i < suc n → (i ≡ n) ⊎ (i < n)
    here_or_before i n l = grind arith

pub test_same : (m n : ℕ) → (m == n) ≡ true → m ≡ n
test_same m n e = grind arith

-- a number is the same as another, or not
pub same_or_other : (c k : ℕ) → (c ≡ k) ⊎ (c ≢ k)
same_or_other zero zero = inl refl
same_or_other zero (suc k) = grind arith
same_or_other (suc c) zero = grind arith
same_or_other (suc c) (suc k) = grind arith

pub test_itself : (n : ℕ) → (n == n) ≡ true
test_itself n = grind arith

pub test_apart : (m n : ℕ) → (m ≡ n → ⊥) → (m == n) ≡ false
test_apart m n h = grind arith

-- a weight of this share, and the share back
share_of_multiple : (n q : ℕ) → 0 < n → q * n / n * n ≡ q * n
share_of_multiple n q l = grind arith

share_back : (n w : ℕ) → 0 < n → Fits n w → (w == one) ≡ false → w / n * n ≡ w
share_back n w l f e = grind (arith, share_of_multiple)

-- ---- what they cover
pub row_covers : (table : Table) (a s c : ℕ) (body : Body) → covers table (a ∷ s ∷ c ∷ []) (whole_row table a s body) ≡ true
row_covers table a s c body = grind arith

-- the row of another place or table
abbrev pub IsOtherRow : Table → ℕ → ℕ → Table → ℕ → ℕ → Type 0
IsOtherRow table a s asked i j = (is_table table asked && ((a == i) && (s == j))) ≡ false

module _ (table asked : Table) (a s i j : ℕ) (more : List ℕ) (apart : IsOtherRow table a s asked i j) where
  pub entries_elsewhere : (n : ℕ) (w : ℕ → ℕ) → none_of (covers asked (i ∷ j ∷ more)) (row_entries table a s n w) ≡ false
  entries_elsewhere n w = grind (arith, none_of_each)

-- ---- the weights
-- a table of weights: each row is by action and state, and has this number of columns
pub record HasRows (p : Preamble) (table : Table) (n : ℕ) : Type 0 where
  pub column : Elements
  pub given : MayBeGiven p table
  pub dimensions_are : dimensions p table ≡ p.actions ∷ p.states ∷ column ∷ []
  pub named_are : named p table ≡ p.actions ∷ p.states ∷ column ∷ []
  pub columns_are : columns p table ≡ n
  pub count : count_of column ≡ n
  pub uniform : list_any (λ k. k == 2) (forms (is_mdp p) table Uniform) ≡ true
  pub row : (ps : List ℕ) → list_any (λ k. k == 2) (forms (is_mdp p) table (Probabilities ps)) ≡ true
  pub cell : (ps : List ℕ) → list_any (λ k. k == 3) (forms (is_mdp p) table (Probabilities ps)) ≡ true

pub transition_rows : (p : Preamble) → HasRows p Transition (count_of p.states)
transition_rows p = grind arith

pub observation_rows : (p : Preamble) → is_mdp p ≡ false → HasRows p Observation (count_of (observed p))
observation_rows p seen = grind arith

module _ (p : Preamble) (table : Table) (a s n : ℕ) (w : ℕ → ℕ) (rows : HasRows p table n) (some : 0 < n) where
  -- the entry that covers the cell last, and its weight there
  pub record Covered (es : List Entry) (c : ℕ) : Type 0 where
    pub entry : Entry
    pub last : last_of (covers table (a ∷ s ∷ c ∷ [])) es ≡ Some entry
    pub weight : weight_of p (a ∷ s ∷ c ∷ []) entry ≡ w c

  found_alone : (c : ℕ) (e : Entry) → covers table (a ∷ s ∷ c ∷ []) e ≡ true → last_of (covers table (a ∷ s ∷ c ∷ [])) (e ∷ []) ≡ Some e
  found_alone c e h = simp h

  uniform_covered : (c : ℕ) → w c ≡ one → Covered (uniform_row table a s) c
  uniform_covered c e = record {
    entry = whole_row table a s Uniform;
    last = grind arith;
    weight = cc;
  }

  decimal_covered : (c : ℕ) → c < n → (w c % n == 0) ≡ true → Covered (decimal_row table a s n w) c
  decimal_covered c l e = record {
    entry = whole_row table a s (Probabilities (values n (λ c. w c / n)));
    last = grind arith;
    weight = grind (arith, get_or-map-range_with_len);
  }

  cells_covered : (c : ℕ) → c < n → Fits n (w c) → Covered (single_cells table a s n w) c
  cells_covered c l f = at (w c == one) refl
    where
      at : (b : Bool) → (w c == one) ≡ b → Covered (single_cells table a s n w) c
      at true e =
          let same_one = test_same _ _ e in
          let none =
          none_of_each _ n _ (λ d m. empty_or_other d e) in
          record {
            entry = whole_row _ a s _;
            last = last_before _ (uniform_row _ a s) (for_each n _) none ∙ found_alone c _ (row_covers _ a s c Uniform);
            weight = sym same_one;
          }
        where
          empty_or_other : (d : ℕ) → (w c == one) ≡ true → none_of (covers table (a ∷ s ∷ c ∷ [])) (cell_entries table a s n w d) ≡ false
          empty_or_other d e = grind arith
      at false e =
          let alone =
          ap (λ b. last_of (covers table (a ∷ s ∷ c ∷ [])) (cond b [] (one_cell table a s c (w c / n) ∷ []))) e
          ∙ found_alone c (one_cell table a s c (w c / n)) (grind arith) in
          record {
            entry = _;
            last = last_after _ (uniform_row _ a s) (for_each n _) _ (last_of_each _ n c _ _ l alone (λ d m. grind arith));
            weight = grind (arith, share_back);
          }

  -- the entries of the printed row give the row back
  pub row_covered : (c : ℕ) → c < n → Fits n (w c) → Covered (row_entries table a s n w) c
  row_covered c l f = at (is_uniform n w) _ refl refl
    where
      at : (u d : Bool) → is_uniform n w ≡ u → is_decimal n w ≡ d → Covered (row_entries table a s n w) c
      at true d e g = rw e (uniform_covered c (test_same _ _ (test_below n c _ e l)))
      at false true e g = rw e (rw g (decimal_covered c l (test_below n c _ g l)))
      at false false e g = rw e (rw g (cells_covered c l f))

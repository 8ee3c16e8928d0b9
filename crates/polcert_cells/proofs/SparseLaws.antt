-- Sparse rows, cell by cell.
use Rattle.std.proofs.Common.{◌≡◌, ◌∙◌, ℕ, suc, ◌+◌, ◌<◌, ◌≤◌, ⊎_elim, cond, eqb, List, [], ◌∷◌, ◌++◌, All, refl, sym, ap, subst, arith}
use Rattle.polcert_cells.proofs.Common.{cases_lt, All-nil, All-cons, All-head, All-tail, Cell, weight_at, IsRow}
use Rattle.polcert_cells.specs.Sparse.{AreRising, IsSparse}

abbrev pub cell_of : ℕ → ℕ → Cell
cell_of column weight = record { column = column; weight = weight }

-- the columns rise from this one on, below so many, and each weight is above 0
abbrev pub Climbs : ℕ → ℕ → List Cell → Type 0
Climbs low n [] = Unit {0}
Climbs low n (x ∷ xs) = (low ≤ x.column) × (x.column < n) × (0 < x.weight) × Climbs (x.column + 1) n xs

pub climbs_lower : (k low n : ℕ) (xs : List Cell) → k ≤ low → Climbs low n xs → Climbs k n xs
climbs_lower k low n [] le h = tt
climbs_lower k low n (x ∷ xs) le h = let a = h.0 in (omega arith, h.1, h.2, h.3)

climbs_wider : (low n m : ℕ) (xs : List Cell) → n ≤ m → Climbs low n xs → Climbs low m xs
climbs_wider low n m [] le h = tt
climbs_wider low n m (x ∷ xs) le h = let a = h.1 in (h.0, omega arith, h.2, climbs_wider (x.column + 1) n m xs le h.3)

-- ---- the same in the words of the contracts
columns_above : (low n : ℕ) (xs : List Cell) → Climbs low n xs → All (λ x. low ≤ x.column) xs
columns_above low n [] h = All-nil (λ x. low ≤ x.column)
columns_above low n (x ∷ xs) h = let a = h.0 in All-cons (λ x. low ≤ x.column) x xs h.0
    (columns_above low n xs (climbs_lower low (x.column + 1) n xs (omega arith) h.3))

pub sparse_from : (low n : ℕ) (xs : List Cell) → Climbs low n xs → IsSparse n xs
sparse_from low n [] h = grind arith
sparse_from low n (x ∷ xs) h = grind (arith, columns_above, sparse_from (x.column + 1) n xs h.3)

climbs_of : (low n : ℕ) (xs : List Cell) → AreRising xs → All (λ x. x.column < n) xs → All (λ x. 0 < x.weight) xs
    → All (λ x. low ≤ x.column) xs → Climbs low n xs
climbs_of low n [] up within some above = tt
climbs_of low n (x ∷ xs) up within some above = (
  All-head (λ (x : Cell). low ≤ x.column) x xs above,
  All-head (λ (x : Cell). x.column < n) x xs within,
  All-head (λ (x : Cell). 0 < x.weight) x xs some,
  climbs_of (x.column + 1) n xs (λ i j d less l. up (suc i) (suc j) d (omega arith) (omega arith))
      (All-tail (λ (x : Cell). x.column < n) x xs within) (All-tail (λ (x : Cell). 0 < x.weight) x xs some)
      (λ k d l. let a = up 0 (suc k) d (omega arith) (omega arith) in omega arith),
)

pub climbs_from : (n : ℕ) (xs : List Cell) → IsSparse n xs → Climbs 0 n xs
climbs_from n xs s = climbs_of 0 n xs s.rising s.within s.some (λ k d l. omega arith)

-- ---- the weight of a column
pub weight_head : (x : Cell) (xs : List Cell) (c : ℕ) → x.column ≡ c → weight_at (x ∷ xs) c ≡ x.weight
weight_head x xs c e = grind arith

pub weight_tail : (x : Cell) (xs : List Cell) (c : ℕ) → (x.column ≡ c → ⊥) → weight_at (x ∷ xs) c ≡ weight_at xs c
weight_tail x xs c d = grind arith

pub weight_below : (low n c : ℕ) (xs : List Cell) → Climbs low n xs → c < low → weight_at xs c ≡ 0
weight_below low n c [] h l = refl
weight_below low n c (x ∷ xs) h l = grind (arith, weight_tail, weight_below (x.column + 1) n c xs h.3 (omega arith))

pub weight_beyond : (low n c : ℕ) (xs : List Cell) → Climbs low n xs → n ≤ c → weight_at xs c ≡ 0
weight_beyond low n c [] h l = refl
weight_beyond low n c (x ∷ xs) h l = let a = h.1 in weight_tail x xs c (λ e. omega arith) ∙ weight_beyond (x.column + 1) n c xs h.3 l

-- ---- one cell more at the end
climbs_push : (low n : ℕ) (x : Cell) (xs : List Cell) → Climbs low n xs → low ≤ n → x.column ≡ n → 0 < x.weight
    → Climbs low (n + 1) (xs ++ x ∷ [])
climbs_push low n x [] h le e some = (omega arith, omega arith, some, tt)
climbs_push low n x (y ∷ ys) h le e some = let a = h.1 in
    (h.0, omega arith, h.2, climbs_push (y.column + 1) n x ys h.3 (omega arith) e some)

weight_push : (low n : ℕ) (x : Cell) (xs : List Cell) (c : ℕ) → Climbs low n xs → c < n → x.column ≡ n
    → weight_at (xs ++ x ∷ []) c ≡ weight_at xs c
weight_push low n x [] c h l e = weight_tail x [] c (λ f. omega arith)
weight_push low n x (y ∷ ys) c h l e = ap (λ w. cond (eqb y.column c) y.weight w) (weight_push (y.column + 1) n x ys c h.3 l e)

weight_last : (low n : ℕ) (x : Cell) (xs : List Cell) → Climbs low n xs → x.column ≡ n → weight_at (xs ++ x ∷ []) n ≡ x.weight
weight_last low n x [] h e = weight_head x [] n e
weight_last low n x (y ∷ ys) h e = let a = h.1 in weight_tail y (ys ++ x ∷ []) n (λ f. omega arith)
    ∙ weight_last (y.column + 1) n x ys h.3 e

-- ---- rows
module _ (f : ℕ → ℕ) where
  next : (n : ℕ) (xs : List Cell) → ((c : ℕ) → c < n → weight_at xs c ≡ f c) → weight_at xs n ≡ f n → (c : ℕ) → c < n + 1
      → weight_at xs c ≡ f c
  next n xs old new c l = ⊎_elim (old c) (λ ge. let same : n ≡ c = omega arith in subst (λ k. weight_at xs k ≡ f k) same new) (cases_lt c n)

  pub row_push : (n : ℕ) (xs : List Cell) (w : ℕ) → IsRow n f xs → w ≡ f n → 0 < w → IsRow (n + 1) f (xs ++ cell_of n w ∷ [])
  row_push n xs w r e some =
      let h = climbs_from n xs r.sparse in
      record {
        sparse = sparse_from 0 (n + 1) (xs ++ cell_of n w ∷ []) (climbs_push 0 n (cell_of n w) xs h (omega arith) refl some);
        each = next n (xs ++ cell_of n w ∷ []) (λ c l. weight_push 0 n (cell_of n w) xs c h l refl ∙ r.each c l)
            (weight_last 0 n (cell_of n w) xs h refl ∙ e);
      }

  pub row_skip : (n m : ℕ) (xs : List Cell) → IsRow n f xs → n ≤ m → ((c : ℕ) → n ≤ c → c < m → f c ≡ 0) → IsRow m f xs
  row_skip n m xs r le zero =
      let h = climbs_from n xs r.sparse in
      record {
        sparse = sparse_from 0 m xs (climbs_wider 0 n m xs le h);
        each = λ c l. ⊎_elim (r.each c) (λ ge. weight_beyond 0 n c xs h ge ∙ sym (zero c ge l)) (cases_lt c n);
      }

pub row_same : (n : ℕ) (f g : ℕ → ℕ) (xs : List Cell) → ((c : ℕ) → c < n → f c ≡ g c) → IsRow n f xs → IsRow n g xs
row_same n f g xs same r = record { sparse = r.sparse; each = λ c l. r.each c l ∙ same c l }

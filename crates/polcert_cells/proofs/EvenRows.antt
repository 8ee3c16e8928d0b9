-- Rows that have the same weight in all columns but for exceptions.
use Rattle.std.proofs.Common.{◌≡◌, ℕ, zero, suc, ◌<◌, ◌≤◌, true, false, ltb, Some, List, [], ◌∷◌, length, get_or, ⊎_elim}
use Rattle.std.proofs.Common.{refl, sym, arith}
use Rattle.std.specs.List.{slice_get}
use Rattle.polcert_cells.proofs.Common.{Cell, cases_lt, nat_tests}
use Rattle.polcert_cells.specs.Sparse.{AreRising, excepted_weight}
use Rattle.std.proofs.lemmas.List.Sorted.{IsPartitionedBy-ltb}
use Rattle.std.specs.List.Sorted.{IsPartitionedBy, IsPartitionPoint}
use Rattle.std.proofs.lemmas.Option.{slice_get_within, get_or_from_slice_get}

-- the test that exceptions are found by
pub parted : (xs : List Cell) (column : ℕ) → AreRising xs → IsPartitionedBy (λ x. ltb x.column column) xs
parted xs column up = IsPartitionedBy-ltb (λ x. x.column) xs column (λ i j d le l. grind arith)

later : (x : Cell) (xs : List Cell) → AreRising (x ∷ xs) → AreRising xs
later x xs up i j d less l = up (suc i) (suc j) d (omega arith) (omega arith)

abbrev pub Cut : List Cell → ℕ → ℕ → Type 0
Cut xs column k = IsPartitionPoint (λ x. ltb x.column column ≡ true) (λ x. ltb x.column column ≡ false) xs k

-- the weight of a column that is an exception
pub excepted_here : (w : ℕ) (xs : List Cell) (k : ℕ) (x : Cell) → AreRising xs → slice_get xs k ≡ Some x
    → excepted_weight w xs x.column ≡ x.weight
excepted_here w [] k x up e = absurd (cc)
excepted_here w (y ∷ ys) zero x up e = grind arith
excepted_here w (y ∷ ys) (suc k) x up e =
    let inside = slice_get_within ys k x e in
    let less = up 0 (suc k) y (omega arith) (omega arith) in
    let there = get_or_from_slice_get ys k x y e in
    let apart : y.column ≡ x.column → ⊥ = grind arith in
    grind (arith, excepted_here w ys k x (later y ys up) e)

-- the weight of a column that is none
excepted_apart : (w : ℕ) (xs : List Cell) (c : ℕ) → ((i : ℕ) (d : Cell) → i < length xs → (get_or xs i d).column ≡ c → ⊥)
    → excepted_weight w xs c ≡ w
excepted_apart w [] c apart = refl
excepted_apart w (y ∷ ys) c apart =
    let here = apart 0 y (omega arith) in
    grind (arith, excepted_apart w ys c (λ i d l. apart (suc i) d (omega arith)))

pub excepted_next : (w : ℕ) (xs : List Cell) (c k : ℕ) (x : Cell) → AreRising xs → Cut xs c k → slice_get xs k ≡ Some x
    → (x.column ≡ c → ⊥) → w ≡ excepted_weight w xs c
excepted_next w xs c k x up cut e other = sym (excepted_apart w xs c apart)
  where
    apart : (i : ℕ) (d : Cell) → i < length xs → (get_or xs i d).column ≡ c → ⊥
    apart i d l same =
        let inside = slice_get_within xs k x e in
        let here = get_or_from_slice_get xs k x d e in
        let high = cut.1 k d (omega arith) inside in
        let least : c ≤ x.column = grind (arith, nat_tests) in
        ⊎_elim (λ less. let low = cut.0 i d (omega arith) less in grind (arith, nat_tests))
        (λ ge. ⊎_elim (λ more. let above = up k i d more l in grind arith) (λ le. let equal : i ≡ k = omega arith in other (cc))
        (cases_lt k i))
        (cases_lt i k)

pub excepted_last : (w : ℕ) (xs : List Cell) (c k : ℕ) → Cut xs c k → length xs ≤ k → w ≡ excepted_weight w xs c
excepted_last w xs c k cut none = sym (excepted_apart w xs c (λ i d l same. grind arith))

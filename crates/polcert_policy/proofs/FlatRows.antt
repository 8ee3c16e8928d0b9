-- Lists that are rows of one width, one after another, and what is at a place of them.
use Rattle.polcert_policy.proofs.Common.{common_steps, range_with_len, AllZip}
use Rattle.std.proofs.Common.{◌≡◌, ◌∙◌, ℕ, suc, zero, ◌+◌, ◌*◌, ◌<◌, ◌≤◌, Some, List, [], ◌∷◌, ◌++◌, length, flat_map, slice_get, refl, sym}
use Rattle.std.proofs.Common.{ap, subst, arith, length-append}
use Rattle.std.proofs.lemmas.Slice.Zip.{AllZip-long}
use Rattle.polcert_policy.proofs.Places.{same_some, row_of, row_below, within_get}

get_front : {Y : Type 0} (xs ys : List Y) (k : ℕ) → k < length xs → slice_get (xs ++ ys) k ≡ slice_get xs k
get_front [] ys k l = absurd (omega (arith, l))
get_front (x ∷ xs) ys zero l = refl
get_front (x ∷ xs) ys (suc k) l = get_front xs ys k (omega (arith, l))

get_after : {Y : Type 0} (xs ys : List Y) (k n : ℕ) → k ≡ length xs + n → slice_get (xs ++ ys) k ≡ slice_get ys n
get_after [] ys k n e = ap (slice_get ys) (e ∙ omega arith)
get_after (x ∷ xs) ys zero n e = absurd (omega (arith, e))
get_after (x ∷ xs) ys (suc k) n e = get_after xs ys k n (omega (arith, e))

zip_at : {X Y : Type 0} (R : X → Y → Type 0) (xs : List X) (ys : List Y) → AllZip R xs ys → (k : ℕ) (x : X) (y : Y)
    → slice_get xs k ≡ Some x → slice_get ys k ≡ Some y → R x y
zip_at R (x ∷ xs) (y ∷ ys) are zero z w at also = subst (λ v. R v w) (same_some x z at) (subst (R x) (same_some y w also) are.0)
zip_at R (x ∷ xs) (y ∷ ys) are (suc k) z w at also = zip_at R xs ys are.1 k z w at also
zip_at c d e are f g p at also = cc

zip_from : {X Y : Type 0} (R : X → Y → Type 0) (xs : List X) (ys : List Y) → length xs ≡ length ys
    → ((k : ℕ) (x : X) (y : Y) → slice_get xs k ≡ Some x → slice_get ys k ≡ Some y → R x y) → AllZip R xs ys
zip_from R [] [] l each = tt
zip_from R (x ∷ xs) (y ∷ ys) l each = (each 0 x y refl refl, zip_from R xs ys (omega (arith, l)) (λ k. each (suc k)))
zip_from c d e l each = cc

module _ {Y : Type 0} (F : ℕ → List Y) (w : ℕ) (wide : (n : ℕ) → length (F n) ≡ w) where
  abbrev pub rows_from : ℕ → ℕ → List Y
  rows_from m n = flat_map F (range_with_len m n)

  length_rows : (m n : ℕ) → length (rows_from m n) ≡ n * w
  length_rows m zero = omega arith
  length_rows m (suc n) = length-append (F m) _ ∙ omega (arith, wide m, length_rows (m + 1) n)

  get_row : (m n i j : ℕ) → i < n → j < w → slice_get (rows_from m n) (i * w + j) ≡ slice_get (F (m + i)) j
  get_row m zero i j l k = absurd (omega (arith, l))
  get_row m (suc n) zero j l k = grind (arith, get_front)
  get_row m (suc n) (suc i) j l k = grind (arith, get_after, get_row (m + 1) n i j (omega (arith, l)) k)

  get_first : (n i j : ℕ) → i < n → j < w → slice_get (rows_from 0 n) (i * w + j) ≡ slice_get (F i) j
  get_first n i j l k = get_row 0 n i j l k ∙ ap (λ x. slice_get (F x) j) (omega arith)

  module _ {X : Type 0} (R : X → Y → Type 0) (xs : List X) (n : ℕ) where
    -- what is so of each item of the rows, by row and column
    pub row_long : AllZip R xs (rows_from 0 n) → length xs ≡ n * w
    row_long are = sym (AllZip-long R xs _ are) ∙ length_rows 0 n

    pub row_at : AllZip R xs (rows_from 0 n) → (i j : ℕ) (x : X) (y : Y) → j < w → slice_get xs (i * w + j) ≡ Some x
        → slice_get (F i) j ≡ Some y → R x y
    row_at = grind (arith, common_steps, slice_get, row_below, within_get, zip_at, get_first, row_long)

    pub rows_zip : 1 ≤ w → length xs ≡ n * w → ((i j : ℕ) (x : X) (y : Y) → i < n → j < w → slice_get xs (i * w + j) ≡ Some x
        → slice_get (F i) j ≡ Some y → R x y)
        → AllZip R xs (rows_from 0 n)
    rows_zip some long each = zip_from R xs _ (long ∙ sym (length_rows 0 n))
        (λ k x y here also. let row = row_of w k some in let i_below =
        row_below w row.0 row.1.0 n (omega (arith, within_get xs k x here, long, row.1.1)) in
        each row.0 row.1.0 x y i_below row.1.2 (subst (λ p. slice_get xs p ≡ Some x) row.1.1 here)
        (sym (get_first n row.0 row.1.0 i_below row.1.2) ∙ subst (λ p. slice_get (rows_from 0 n) p ≡ Some y) row.1.1 also))

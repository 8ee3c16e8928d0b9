-- Parts of a line or of lines, some of which are written in a run: those of zeros up to the next column that has a weight.
use Rattle.std.proofs.Common.{◌≡◌, ◌∙◌, ℕ, zero, suc, ◌+◌, ◌-◌, ◌<◌, ◌≤◌, Some, None, Option, Result, Ok, Err, IsErr, List, ◌++◌, sym, ap}
use Rattle.std.proofs.Common.{arith, append_assoc, append-nil}
use Rattle.polcert_full_form.proofs.Common.{WritesText, IsNext, for_each}
use Rattle.polcert_text.proofs.Printing.Written.{HasWritten, next_written, fails_at, fails_before, as_text}
use Rattle.polcert_full_form.proofs.Denoting.SameForms.{same_for_each}

-- so many parts, and so many after them
pub each_add : (m k : ℕ) (f : ℕ → List ℕ) → for_each (m + k) f ≡ for_each m f ++ for_each k (λ i. f (m + i))
each_add m zero f = let none : m + 0 ≡ m = omega arith in ap (λ n. for_each n f) none ∙ sym (append-nil _)
each_add m (suc k) f =
    let next : m + suc k ≡ suc (m + k) = omega arith in
    ap (λ n. for_each n f) next ∙ ap (λ xs. xs ++ f (m + k)) (each_add m k f)
    ∙ append_assoc _ _ (f _)

-- the parts up to one, and those from there on
pub each_from : (from to : ℕ) (f : ℕ → List ℕ) → from ≤ to → for_each to f ≡ for_each from f ++ for_each (to - from) (λ i. f (from + i))
each_from from to f l = let whole : to ≡ from + (to - from) = omega arith in ap (λ n. for_each n f) whole ∙ each_add from _ f

-- Of the parts of n columns those where f is 0 are the same.
module _ (f : ℕ → ℕ) (n : ℕ) (part none : ℕ → List ℕ) (nothing_there : (c : ℕ) → c < n → f c ≡ 0 → none c ≡ part c) where
  zeros_are : (from to : ℕ) → from ≤ to → to ≤ n → ((i : ℕ) → from ≤ i → i < to → f i ≡ 0)
      → for_each from part ++ for_each (to - from) (λ i. none (from + i)) ≡ for_each to part
  zeros_are from to l m h =
      ap (λ xs. for_each from part ++ xs) (same_for_each (to - from) _ _
      (λ i k. nothing_there _ (omega arith) (grind arith)))
      ∙ sym (each_from _ to _ l)

  -- up to the next column with a weight
  pub step_is : (from column weight : ℕ) → IsNext f n from (Some (column, weight))
      → for_each from part ++ (for_each (column - from) (λ i. none (from + i)) ++ part column) ≡ for_each (column + 1) part
  step_is from column weight next =
      let more : suc column ≡ column + 1 = omega arith in
      let low = next.0 in
      sym (append_assoc _ _ (part column))
      ∙ ap (λ xs. xs ++ part column) (zeros_are from _ low (omega arith) next.4)
      ∙ ap (λ k. for_each k part) more

  -- up to the end
  pub rest_is : (from : ℕ) → from ≤ n → IsNext f n from None
      → for_each from part ++ for_each (n - from) (λ i. none (from + i)) ≡ for_each n part
  rest_is from l h = zeros_are _ n l (omega arith) h

-- the parts up to a column are written, or failed, and so did all
module _ {S T E : Type 0} {writes : S → Option (List ℕ) → S → Type 0} {failures : S → ℕ} {from s t : S} (part : ℕ → List ℕ) (k m : ℕ)
    {piece : List ℕ}
    (whole : for_each k part ++ piece ≡ for_each m part) (so_far : HasWritten writes failures from (for_each k part) s) where
  pub run_written : {v : T} → WritesText {E = E} writes failures s piece (Ok v) t → HasWritten writes failures from (for_each m part) t
  run_written run = rw (← whole) (next_written so_far run)

  pub run_failed : {U F : Type 0} {e : E} {r : Result U F} (n : ℕ) → m ≤ n → WritesText {T = T} writes failures s piece (Err e) t → IsErr r
      → WritesText writes failures from (for_each n part) r t
  run_failed {r = r} n l run is_err =
      as_text (sym (each_from m n _ l)) (fails_before _ _ r is_err (as_text whole (fails_at _ _ r is_err so_far run.err run.count)))

-- ---- runs from one part on
-- a run continues
pub run_more : (first from count : ℕ) (f : ℕ → List ℕ) → first ≤ from
    → for_each (from - first) (λ i. f (first + i)) ++ for_each count (λ i. f (from + i))
    ≡ for_each (from + count - first) (λ i. f (first + i))
run_more first from count f l =
    let whole : from - first + count ≡ from + count - first = omega arith in
    ap (λ xs. for_each (from - first) (λ i. f (first + i)) ++ xs)
    (grind arith)
    ∙ sym (each_add _ count _)
    ∙ ap (λ n. for_each n (λ i. f (first + i))) whole
  where
    place : (i : ℕ) → from + i ≡ first + (from - first + i)
    place i = omega arith

-- parts that are the same, and those after them
pub run_after : (first n : ℕ) (none f : ℕ → List ℕ) → first ≤ n → ((i : ℕ) → i < first → none i ≡ f i)
    → for_each first (λ i. none (0 + i)) ++ for_each (n - first) (λ i. f (first + i)) ≡ for_each n f
run_after first n none f l same =
    ap (λ xs. xs ++ for_each (n - first) (λ i. f (first + i))) (grind arith ∙ same_for_each _ _ f same)
    ∙ sym (each_from _ n f l)

-- The cells of a row from a column on.
use Rattle.std.proofs.Common.{◌≡◌, ◌∙◌, ℕ, zero, suc, ◌+◌, ◌<◌, ◌≤◌, true, false, cond, ltb, Some, None, List, [], ◌∷◌, length, get_or}
use Rattle.std.proofs.Common.{drop, refl, sym, ap, arith}
use Rattle.std.specs.List.{slice_get}
use Rattle.polcert_rules.proofs.Common.{IsPartitionedBy, slice_get_within, get_or_from_slice_get, nat_tests, IsPartitionedBy-ltb, Cell}
use Rattle.polcert_rules.proofs.Common.{weight_at, IsSparse, from}
use Rattle.polcert_cells.specs.Sparse.{AreRising}
use Rattle.std.proofs.lemmas.Bool.{lt-ltb, le-ltb}
use Rattle.polcert_rules.proofs.Keyed.KeyRanges.{in_order}
use Rattle.polcert_cells.proofs.SparseLaws.{Climbs, climbs_from, weight_head, weight_tail, weight_below}

-- the test that the cells are found by
pub parted : (xs : List Cell) (column : ℕ) → AreRising xs → IsPartitionedBy (λ x. ltb x.column column) xs
parted xs column up = IsPartitionedBy-ltb (λ x. x.column) xs column (in_order (λ x. x.column) xs up)

pub drop_is_from : (xs : List Cell) (k column : ℕ) → ((i : ℕ) (d : Cell) → i < k → i < length xs → ltb (get_or xs i d).column column ≡ true)
    → ((i : ℕ) (d : Cell) → k ≤ i → i < length xs → ltb (get_or xs i d).column column ≡ false) → drop k xs ≡ from column xs
drop_is_from [] zero column low high = refl
drop_is_from [] (suc k) column low high = refl
drop_is_from (x ∷ xs) zero column low high = sym (ap (λ b. cond b (from column xs) (x ∷ xs)) (high 0 x (omega arith) (omega arith)))
drop_is_from (x ∷ xs) (suc k) column low high =
    drop_is_from xs k column (λ i d l m. low (suc i) d (omega arith) (omega arith)) (λ i d l m. high (suc i) d (omega arith) (omega arith))
    ∙ sym (ap (λ b. cond b (from column xs) (x ∷ xs)) (low 0 x (omega arith) (omega arith)))

-- where no column below is missing, it is at its own number
pub full_up_to : (xs : List Cell) (column : ℕ) (x : Cell) → AreRising xs → slice_get xs column ≡ Some x → x.column ≡ column
    → drop column xs ≡ from column xs
full_up_to xs column x up is same =
    let inside = slice_get_within xs column x is in
    drop_is_from xs column column
    (λ i d l m. let here = ap (λ (z : Cell). z.column) (get_or_from_slice_get xs column x d is) ∙ same in
    let less = up i column d l inside in lt-ltb (get_or xs i d).column column (omega arith))
    (λ i d l m. let here = ap (λ (z : Cell). z.column) (get_or_from_slice_get xs column x d is) ∙ same in
    let no_less = in_order (λ (z : Cell). z.column) xs up column i d l m in le-ltb (get_or xs i d).column column (omega arith))

from_climbs : (low n column : ℕ) (xs : List Cell) → Climbs low n xs → Climbs column n (from column xs)
from_climbs low n column [] h = tt
from_climbs low n column (x ∷ xs) h = grind (arith, nat_tests, from_climbs (x.column + 1) n column xs h.3)

from_weight : (column c : ℕ) (xs : List Cell) → column ≤ c → weight_at (from column xs) c ≡ weight_at xs c
from_weight column c [] l = refl
from_weight column c (x ∷ xs) l = grind (arith, nat_tests, weight_tail, from_weight _ c xs l)

module _ (n column : ℕ) (xs : List Cell) (sparse : IsSparse n xs) where
  climbs : Climbs column n (from column xs)
  climbs = from_climbs 0 n _ xs (climbs_from n xs sparse)

  pub at_here : (x : Cell) → slice_get (from column xs) 0 ≡ Some x → x.column ≡ column → x.weight ≡ weight_at xs column
  at_here x e same = at (from _ xs) refl e ∙ from_weight _ _ xs (omega arith)
    where
      at : (ys : List Cell) → from column xs ≡ ys → slice_get ys 0 ≡ Some x → x.weight ≡ weight_at (from column xs) column
      at [] f g = cc
      at (y ∷ ys) f g = grind (arith, weight_head)

  pub at_there : (x : Cell) → slice_get (from column xs) 0 ≡ Some x → (x.column ≡ column → ⊥) → 0 ≡ weight_at xs column
  at_there x e other = at (from _ xs) refl e climbs ∙ from_weight _ _ xs (omega arith)
    where
      at : (ys : List Cell) → from column xs ≡ ys → slice_get ys 0 ≡ Some x → Climbs column n ys → 0 ≡ weight_at (from column xs) column
      at [] f g h = cc
      at (y ∷ ys) f g h = grind (arith, weight_tail, weight_below)

  none_from : slice_get (from column xs) 0 ≡ None → (c : ℕ) → column ≤ c → weight_at xs c ≡ 0
  none_from e c l = sym (from_weight _ c xs l) ∙ at (from _ xs) e
    where
      at : (ys : List Cell) → slice_get ys 0 ≡ None → weight_at ys c ≡ 0
      at [] g = refl
      at (y ∷ ys) g = cc

  pub at_none : slice_get (from column xs) 0 ≡ None → 0 ≡ weight_at xs column
  at_none e = sym (none_from e _ (omega arith))

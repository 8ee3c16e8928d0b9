-- What covers the whole row, where newer zeros hide it.
use Rattle.std.proofs.Common.{◌≡◌, ◌∙◌, ℕ, ◌+◌, ◌<◌, Bool, true, cond, Option, Some, None, List, [], ◌∷◌, sym, ap, arith, rules}
use Rattle.polcert_rules.proofs.Common.{nat_tests, Entry, Cell, weight_at, IsRow, RowZeros, max_option, given_at, is_zero_entry, zero_of}
use Rattle.polcert_rules.proofs.Common.{number_under, overrides, shown, shown_under}
use Rattle.polcert_cells.proofs.SparseLaws.{Climbs, climbs_lower, climbs_from, sparse_from}
use Rattle.polcert_rules.proofs.RowLaws.NewerCells.{picked_number}

-- ---- a zero gives 0
pub zero_given : (columns : ℕ) (entries : List Entry) (n s c : ℕ) → is_zero_entry entries n ≡ true
    → given_at columns entries (Some n) s c ≡ 0
zero_given columns entries n s c h = grind arith

-- ---- the cells that are left
shown_climbs : (low n : ℕ) (hidden : ℕ → Bool) (xs : List Cell) → Climbs low n xs → Climbs low n (shown hidden xs)
shown_climbs low n hidden [] h = tt
shown_climbs low n hidden (x ∷ xs) h = at (hidden x.column) (shown_climbs (x.column + 1) n _ xs h.3)
  where
    at : (b : Bool) → Climbs (x.column + 1) n (shown hidden xs) → Climbs low n (cond b (shown hidden xs) (x ∷ shown hidden xs))
    at b h1 = grind (arith, climbs_lower)

shown_weight : (hidden : ℕ → Bool) (xs : List Cell) (c : ℕ) → weight_at (shown hidden xs) c ≡ cond (hidden c) 0 (weight_at xs c)
shown_weight hidden [] c = grind arith
shown_weight hidden (x ∷ xs) c = grind (arith, nat_tests, shown_weight hidden xs c)

shown_row : (n : ℕ) (hidden : ℕ → Bool) (f g : ℕ → ℕ) (xs : List Cell) → ((c : ℕ) → c < n → g c ≡ cond (hidden c) 0 (f c)) → IsRow n f xs
    → IsRow n g (shown hidden xs)
shown_row n hidden f g xs same row = record {
  sparse = sparse_from 0 n _ (shown_climbs 0 n _ xs (climbs_from n xs row.sparse));
  each = λ c l. shown_weight _ xs c ∙ ap (cond _ 0) (row.each c l) ∙ sym (same c l);
}

-- ---- what is under the cells above 0
under_given : (columns : ℕ) (entries : List Entry) (whole zero : Option ℕ) (s c : ℕ)
    → ((n : ℕ) → zero ≡ Some n → is_zero_entry entries n ≡ true)
    → given_at columns entries (max_option whole zero) s c ≡ cond (overrides whole zero) 0 (given_at columns entries whole s c)
under_given columns entries whole zero s c h1 = grind (arith, picked_number, zero_given)

pub under_row : (columns : ℕ) (entries : List Entry) (whole : Option ℕ) (zeros : Option RowZeros) (s : ℕ) (base : List Cell)
    → ((c n : ℕ) → c < columns → zero_of zeros c ≡ Some n → is_zero_entry entries n ≡ true)
    → IsRow columns (given_at columns entries whole s) base
    → IsRow columns (λ c. given_at columns entries (number_under whole zeros c) s c) (shown_under whole zeros base)
under_row columns entries whole None s base h row = row
under_row columns entries whole (Some z) s base h row = search (rules, shown_row, under_given)

-- Facts of tables, rewards and starts that printing and reading a model rest on.
use Rattle.std.proofs.Common.{◌≡◌, ◌∙◌, ℕ, ◌*◌, ◌<◌, ◌≤◌, true, List, get_or, ℤ, unsigned_abs, FitsSigned, w64, length, refl, sym, arith}
use Rattle.polcert_cells.proofs.Common.{range_with_len, Table, Entry, fit_places, covers, count_of, Preamble, equal_weights}
use Rattle.std.proofs.lemmas.List.Recursion.{is_count_by}
use Rattle.std.proofs.lemmas.List.FromFn.{get_or-map-range_with_len, length-range_with_len}
use Rattle.std.proofs.lemmas.Int.{fits_signed_from_abs}
use Rattle.polcert_text.specs.Numbers.{largest}
use Rattle.polcert_cells.specs.Cells.{is_table}
use Rattle.polcert_cells.specs.Elements.{most_observations}
use Rattle.polcert_cells.specs.Preamble.{observed, rewarded}
use Rattle.polcert_cells.proofs.Basics.{and_true}

-- where few elements are observed, few are what a reward depends on
pub rewarded_few : (p : Preamble) → count_of (observed p) ≤ most_observations → count_of (rewarded p) ≤ most_observations
rewarded_few p = grind arith

pub reward_fits : (h : ℤ) → unsigned_abs h ≤ largest → FitsSigned w64 h
reward_fits h l = fits_signed_from_abs w64 h (omega (arith, l))

same_table : (t u : Table) → is_table t u ≡ true → t ≡ u
same_table t u h1 = grind arith

pub covered_table : (table : Table) (indices : List ℕ) (entry : Entry) → covers table indices entry ≡ true → entry.table ≡ table
covered_table table indices entry c = same_table entry.table table
    (and_true (is_table entry.table table) (fit_places entry.places indices) c).0

pub alike_weight : (n s : ℕ) → s < n → 1 ≡ get_or (equal_weights n (λ x. true)).weights s 0
alike_weight n s l = sym (get_or-map-range_with_len (λ (x : ℕ). 1) 0 n s s 0 l (omega arith))

pub alike_total : (n : ℕ) → 1 * n ≡ (equal_weights n (λ x. true)).total
alike_total n =
    (omega arith) ∙ sym (length-range_with_len 0 n) ∙ is_count_by length (λ (x : ℕ). true) refl (λ x xs. omega arith) (range_with_len 0 n)

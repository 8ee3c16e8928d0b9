-- A row that is walked from one weight above 0 to the next: what is known of the columns passed, and what is printed of them.
use Rattle.std.proofs.Common.{◌≡◌, ◌≢◌, ℕ, zero, suc, ◌+◌, ◌-◌, ◌%◌, ◌<◌, ◌≤◌, ◌==◌, Bool, true, false, Some, None, pos}
use Rattle.std.proofs.Common.{arith}
use Rattle.polcert_full_form.proofs.Common.{Table, IsNext, reached, one, all_below, is_uniform, is_decimal, cell_text, cell_line}
use Rattle.polcert_cells.specs.declared.cells.Row.{Row}
use Rattle.polcert_full_form.proofs.Printing.PrintedParts as texts

-- ---- the walk
-- it begins at the first column
pub at_start : (row : Row) → reached (Some row) 0 ≡ 0
at_start row = grind arith

-- ---- tests of all columns
-- a test continues holding
test_on : (test : ℕ → Bool) (k j : ℕ) → true ≡ all_below k test → ((i : ℕ) → i < j → test (k + i) ≡ true) → true ≡ all_below (k + j) test
test_on test k zero before h = grind arith
test_on test k (suc j) before h =
    let next : k + j + 1 ≡ k + suc j = omega arith in
    rw (← next) (texts.test_more _ test (test_on _ k j before (λ i l. h i (omega arith)))
    (h j (omega arith)))

test_up_to : (test : ℕ → Bool) (k m : ℕ) → k ≤ m → true ≡ all_below k test → ((i : ℕ) → k ≤ i → i < m → test i ≡ true)
    → true ≡ all_below m test
test_up_to test k m l before h =
    let whole : k + (m - k) ≡ m = omega arith in
    rw (← whole) (test_on _ k _ before (λ i j. h _ (omega arith) (omega arith)))

-- where not all columns have one part there is one
pub some_columns : (n : ℕ) (w : ℕ → ℕ) → is_uniform n w ≡ false → 0 < n
some_columns n w h1 = grind arith

module _ (n : ℕ) (w : ℕ → ℕ) where
  -- ---- whether all have one part
  pub uniform_gap : (k column weight : ℕ) → IsNext w n k (Some (column, weight)) → column ≢ k → false ≡ is_uniform n w
  uniform_gap k column weight next apart =
      let low = next.0 in
      texts.test_fails n k _ (omega arith) (grind arith)

  pub uniform_other : (k column weight : ℕ) → IsNext w n k (Some (column, weight)) → weight ≢ one → false ≡ is_uniform n w
  uniform_other k column weight next apart = texts.test_fails n _ _ next.1 (grind arith)

  pub uniform_end : (k : ℕ) → k ≤ n → IsNext w n k None → true ≡ all_below k (λ c. w c == one) → (k == n) ≡ is_uniform n w
  uniform_end k l none before = grind arith

  -- ---- whether all are millionths
  pub decimal_other : (k column weight : ℕ) → IsNext w n k (Some (column, weight)) → weight % n ≢ 0 → false ≡ is_decimal n w
  decimal_other k column weight next apart = texts.test_fails n _ _ next.1 (grind arith)

  pub decimal_more : (k column weight : ℕ) → IsNext w n k (Some (column, weight)) → weight % n ≡ 0 → true ≡ all_below k (λ c. w c % n == 0)
      → true ≡ all_below (column + 1) (λ c. w c % n == 0)
  decimal_more k column weight next is before = grind (arith, test_up_to)

  pub decimal_end : (k : ℕ) → k ≤ n → IsNext w n k None → true ≡ all_below k (λ c. w c % n == 0) → true ≡ is_decimal n w
  decimal_end k l none before = test_up_to _ k n l before (λ i m j. grind arith)

  -- ---- what is printed of a column
  module _ (table : Table) (a s : ℕ) where
    pub zero_cell : (c : ℕ) → c < n → w c ≡ 0 → cell_line table a s c (pos 0) ≡ cell_text table a s n w c
    zero_cell c l e = grind (arith, texts.cell_is)

-- The weights of a row, from the numbers of its entries.
use Rattle.std.proofs.Common.{◌≡◌, ◌∙◌, ℕ, ◌*◌, ◌^◌, ◌<◌, ◌≤◌, ◌==◌, true, Option, Some, None, List, [], ◌∷◌, length, refl, sym, ap, subst}
use Rattle.std.proofs.Common.{arith}
use Rattle.std.proofs.Math.Nat.{mul-le-mul}
use Rattle.std.specs.List.{slice_get}
use Rattle.polcert_rules.proofs.Common.{nat_tests, Table, Entry, value_or, one, Cell, weight_at, IsRow, RowZeros, EntryRow, Shape}
use Rattle.polcert_rules.proofs.Common.{entry_weight, most_elements, sum_of_weights, IsShapeWithin}
use Rattle.polcert_rules.proofs.Common.{given_at, weight_by_entries, newer_cells, weight_over, merged, Rises, number_under, covering_entry}
use Rattle.polcert_rules.proofs.Common.{shown_under, AreNumbersOf, IsKeptRow}
use Rattle.polcert_cells.proofs.SparseLaws.{row_same}
use Rattle.polcert_cells.specs.Sparse.{excepted_weight}
use Rattle.polcert_rules.specs.Steps.Lists.{filled_cells}
use Rattle.polcert_rules.proofs.RowLaws.EvenLaws.{filled_row, excepted_over, few, over_sum}
use Rattle.polcert_rules.proofs.RowLaws.MergeLaws.{merged_row, over_same}
use Rattle.polcert_rules.proofs.RowLaws.NewerCells.{newer_over, newer_rise, rules_rise}
use Rattle.polcert_rules.proofs.RowLaws.HiddenCells.{under_row}

no_cells : (xs : List Cell) → (length xs == 0) ≡ true → xs ≡ []
no_cells [] e = refl
no_cells (x ∷ xs) e = absurd (grind (arith, nat_tests))

no_zeros : (whole : Option ℕ) (zeros : Option RowZeros) (c : ℕ) → zeros ≡ None → number_under whole zeros c ≡ whole
no_zeros whole zeros c e = ap (λ z. number_under whole z c) e

-- the newer cells of a row
module _ (shape : Shape) (entries : List Entry) (table : Table) (a s : ℕ) (row : EntryRow) (newer : List Cell)
    (h : AreNumbersOf shape entries table a s row)
    (newer_are : newer ≡ newer_cells shape.columns entries (covering_entry row) s row.cells.rules.items) where
  newer_weights : (c : ℕ) → c < shape.columns → weight_over newer (λ i. given_at shape.columns entries (covering_entry row i) s i) c
      ≡ weight_by_entries shape.columns entries table a s c
  newer_weights c l =
      ap (λ xs. weight_over xs (λ i. given_at shape.columns entries (covering_entry row i) s i) c) newer_are
      ∙ newer_over _ _ s _ c _ h.rising
      ∙ ap (value_or 0 (λ e. entry_weight shape.columns e s c)) (sym (h.last c l))

  pub newer_rises : Rises 0 shape.columns newer
  newer_rises = grind (arith, newer_rise, rules_rise)

  -- the finished cells are the row
  pub finished : (base borrowed_base borrowed_newer cells : List Cell)
      → IsRow shape.columns (given_at shape.columns entries row.whole s) base → borrowed_base ≡ base → borrowed_newer ≡ newer
      → cells ≡ merged (shown_under row.whole row.zeros borrowed_base) borrowed_newer
      → IsRow shape.columns (weight_by_entries shape.columns entries table a s) cells
  finished base borrowed_base borrowed_newer cells given_base same_base same_newer e =
      let n = shape.columns in
      let over = merged_row n (λ (i : ℕ). given_at shape.columns entries (covering_entry row i) s i) _ _
      (under_row n entries row.whole row.zeros s base h.zeros given_base) newer_rises in
      let is = e ∙ ap (λ xs. merged (shown_under row.whole row.zeros xs) borrowed_newer) same_base
      ∙ ap (merged (shown_under row.whole row.zeros base)) same_newer in
      subst (λ xs. IsRow n (weight_by_entries n entries table a s) xs) (sym is) (row_same n _ _ _ newer_weights over)

  pub finished_small : (cells : List Cell) → IsRow shape.columns (weight_by_entries shape.columns entries table a s) cells → (c : ℕ)
      → c < shape.columns → weight_at cells c ≤ one * shape.columns
  finished_small cells r c l = subst (λ k. k ≤ one * shape.columns) (sym (r.each c l)) (h.small c l)

  -- without newer cells and zeros it is what covers the whole row
  pub shared_weights : (kept : List (List Cell)) (n : ℕ) → row.zeros ≡ None → (length newer == 0) ≡ true
      → IsKeptRow shape.columns (given_at shape.columns entries row.whole s) kept n
      → IsKeptRow shape.columns (weight_by_entries shape.columns entries table a s) kept n
  shared_weights kept n zeros none k = record {
    row = _;
    is = k.is;
    each = λ c l. k.each c l ∙ ap (λ o. given_at shape.columns entries o s c) (sym (no_zeros _ _ c zeros))
        ∙ sym (ap (λ xs. weight_over xs (λ i. given_at shape.columns entries (covering_entry row i) s i) c) (no_cells _ none))
        ∙ newer_weights c l;
  }

  -- the newer cells as exceptions from the weight of what covers the whole row
  pub newer_small : IsShapeWithin shape → sum_of_weights newer < 2 ^ 63
  newer_small within =
      let n = shape.columns in
      let f = λ (i : ℕ). given_at n entries (covering_entry row i) s i in
      let most : sum_of_weights newer ≤ one * n * length newer = over_sum (one * n) 0 n newer f newer_rises
      (λ c low l. subst (λ k. k ≤ one * n) (sym (newer_weights c l)) (h.small c l)) in
      let count = few 0 n newer newer_rises (omega arith) in
      let columns : n ≤ most_elements = within.columns.1 in
      let product : one * n * length newer ≤ one * most_elements * most_elements =
      mul-le-mul {n₂ = one * most_elements} {m₂ = most_elements} (omega arith) (omega arith) in
      omega (arith, most, product)

  pub even_weights : (w : ℕ) (kept : List (List Cell)) (n : ℕ) → row.zeros ≡ None
      → ((t c : ℕ) → given_at shape.columns entries row.whole t c ≡ w)
      → slice_get kept n ≡ Some (filled_cells (excepted_weight w newer) shape.columns)
      → IsKeptRow shape.columns (weight_by_entries shape.columns entries table a s) kept n
  even_weights w kept n zeros given is = record {
    row = _;
    is = is;
    each = λ c l. (filled_row _ _).each c l ∙ excepted_over w c _
        ∙ over_same newer (λ i. w) (λ i. given_at shape.columns entries (covering_entry row i) s i) c
        (sym (ap (λ o. given_at shape.columns entries o s c) (no_zeros _ _ c zeros) ∙ given s c))
        ∙ newer_weights c l;
  }

-- The steps of a walk over a row that is borrowed.
use Rattle.std.proofs.Common.{◌≡◌, ◌∙◌, ℕ, zero, suc, ◌+◌, ◌*◌, ◌<◌, ◌≤◌, ⊎_elim, slice_index, Option, Some, None, List, [], ◌∷◌, length}
use Rattle.std.proofs.Common.{get_or, refl, sym, ap, arith, add-one, subst, Bor}
use Rattle.std.specs.List.{slice_get}
use Rattle.polcert_cells.proofs.Common.{Cell, weight_at, scaled_cells, IsRow, cases_lt}
use Rattle.polcert_cells.specs.declared.cells.Row.{Row}
use Rattle.polcert_cells.specs.declared.cells.Row.TheVariants.{Sparse, Filled, Scaled, Single, Even}
use Rattle.polcert_cells.specs.declared.cells.Step.{Step}
use Rattle.polcert_cells.specs.Cursors.{IsNext}
use Rattle.polcert_cells.specs.BorrowedRows.{AreWeights, IsRowOf, IsStep, IsEvenRow, after_cells}
use Rattle.polcert_cells.specs.Sparse.{AreRising, excepted_weight}
use Rattle.polcert_cells.proofs.SparseLaws.{Climbs, climbs_from, weight_head, weight_tail, weight_below, weight_beyond}
use Rattle.polcert_cells.proofs.ScaledRows.{scaled_weight}
use Rattle.std.proofs.lemmas.List.{get_or_past}

after_low : (low n : ℕ) (xs : List Cell) (k : ℕ) → Climbs low n xs → low ≤ after_cells low xs k
after_low low n xs zero h = omega arith
after_low low n [] (suc k) h = omega arith
after_low low n (x ∷ xs) (suc k) h = grind (arith, after_low (x.column + 1) n xs k h.3)

climbs_some : (low n : ℕ) (xs : List Cell) (k : ℕ) (x : Cell) → Climbs low n xs → slice_get xs k ≡ Some x
    → IsNext (weight_at xs) n (after_cells low xs k) (Some (x.column, x.weight)) × (after_cells low xs (suc k) ≡ x.column + 1)
climbs_some low n [] k x h e = absurd (cc)
climbs_some low n (y ∷ ys) zero x h e = grind (arith, weight_head, weight_tail, weight_below)
climbs_some low n (y ∷ ys) (suc k) x h e = grind (arith, weight_tail, after_low, climbs_some (y.column + 1) n ys k x h.3 e)

climbs_none : (low n : ℕ) (xs : List Cell) (k : ℕ) → Climbs low n xs → slice_get xs k ≡ None → (i : ℕ) → after_cells low xs k ≤ i
    → weight_at xs i ≡ 0
climbs_none low n [] k h e i m = refl
climbs_none low n (y ∷ ys) zero h e i m = absurd (cc)
climbs_none low n (y ∷ ys) (suc k) h e i m = grind (arith, weight_tail, after_low, climbs_none (y.column + 1) n ys k h.3 e i m)

module _ (f : ℕ → ℕ) (n : ℕ) (xs : List Cell) (row : IsRow n f xs) where
  pub sparse_some : (k : ℕ) (x : Cell) → slice_get xs k ≡ Some x → IsNext f n (after_cells 0 xs k) (Some (x.column, x.weight))
      × (after_cells 0 xs (k + 1) ≡ x.column + 1)
  sparse_some k x e =
      let found = climbs_some 0 n xs k x (climbs_from n xs row.sparse) e in
      let next = found.0 in
      let high = next.1 in (
        (next.0, next.1, next.2 ∙ row.each x.column next.1, next.3, λ i m l. sym (row.each i (omega arith)) ∙ next.4 i m l),
        rw add-one
            found.1,
      )

  pub sparse_none : (k : ℕ) → slice_get xs k ≡ None → IsNext f n (after_cells 0 xs k) None
  sparse_none k e i m l = sym (row.each i l) ∙ climbs_none 0 n xs k (climbs_from n xs row.sparse) e i m

-- ---- weights that are numbers times a scale
abbrev pub scaled_by : ℕ → List ℕ → ℕ → ℕ
scaled_by scale ns c = slice_index ns c * scale

-- where a column has no weight, the walk continues after it
pub step_after : (g : ℕ → ℕ) (n at : ℕ) (s : Option Step) → g at ≡ 0 → IsStep g n None (at + 1) s → IsStep g n None at s
step_after g n at s h1 h2 = grind arith

-- ---- the same of a row, by what it is
module _ (f : ℕ → ℕ) (n : ℕ) (row : Row) (is : IsRowOf f n row) (at : ℕ) where
  pub step_sparse : (cells : Bor (List Cell)) (x : Cell) (s : Step) → row ≡ Sparse cells → slice_get cells.now at ≡ Some x
      → s ≡ record { column = x.column; weight = x.weight; next = at + 1 } → IsStep f n (Some row) at (Some s)
  step_sparse cells x s e found same =
      subst (λ (t : Step). IsStep f n (Some row) at (Some t)) (sym same)
      (subst (λ (r : Row). IsRowOf f n r → IsStep f n (Some r) at (Some (record { column = x.column; weight = x.weight; next = at + 1 })))
      (sym e)
      (λ h. sparse_some f n cells.now h at x found) is)

  pub end_sparse : (cells : Bor (List Cell)) → row ≡ Sparse cells → slice_get cells.now at ≡ None → IsStep f n (Some row) at None
  end_sparse cells e none =
      subst (λ (r : Row). IsRowOf f n r → IsStep f n (Some r) at None) (sym e) (λ h. sparse_none f n cells.now h at none) is

  -- (a filled row is walked by its columns)
  pub step_filled : (weights : Bor (List ℕ)) (s : Option Step) → row ≡ Filled weights
      → (AreWeights f n weights.now → IsStep f (length weights.now) None at s) → IsStep f n (Some row) at s
  step_filled weights s e step = grind arith

  -- (so is one of numbers times a scale)
  pub step_scaled : (numbers : Bor (List ℕ)) (scale : ℕ) (s : Option Step) → row ≡ Scaled numbers scale
      → IsStep (scaled_by scale numbers.now) (length numbers.now) None at s → IsStep f n (Some row) at s
  step_scaled numbers scale s e step =
      subst (λ (r : Row). IsRowOf f n r → IsStep f n (Some r) at s) (sym e) (λ are. walked are s step) is
    where
      ns : List ℕ
      ns = numbers.now

      weight_is : IsRow n f (scaled_cells scale 0 ns) → (c : ℕ) → c < n → scaled_by scale ns c ≡ f c
      weight_is are c l = sym (scaled_weight scale ns c) ∙ are.each c l

      below : IsRow n f (scaled_cells scale 0 ns) → (c : ℕ) → 0 < scaled_by scale ns c → c < n
      below are c some = ⊎_elim (λ l. l)
          (λ ge. let none = scaled_weight scale ns c in let past =
          weight_beyond 0 n c (scaled_cells scale 0 ns) (climbs_from n _ are.sparse) ge in absurd (omega (arith, none, past, some)))
          (cases_lt c n)

      walked : IsRow n f (scaled_cells scale 0 ns) → (s : Option Step) → IsStep (scaled_by scale ns) (length ns) None at s
          → IsStep f n (Some (Scaled numbers scale)) at s
      walked are None h = λ i low high. ⊎_elim
          (λ l. sym (weight_is are i high) ∙ h i low l)
          (λ ge. sym (weight_is are i high) ∙ ap (λ k. k * scale) (get_or_past ns i 0 ge) ∙ omega arith) (cases_lt i (length ns))
      walked are (Some step) h =
          let next = h.0 in
          let some : 0 < scaled_by scale ns step.column = subst (λ k. 0 < k) next.2 next.3 in
          let inside = below are step.column some in (
            (
              next.0,
              inside,
              next.2 ∙ weight_is are step.column inside,
              next.3,
              λ i m l. sym (weight_is are i (omega (arith, l, inside)))
                  ∙ next.4 i m l,
            ),
            h.1,
          )

  -- (so is one with the same weight in all columns but for exceptions)
  pub step_even : (weight columns : ℕ) (exceptions : Bor (List Cell)) (s : Option Step) → row ≡ Even weight columns exceptions
      → (AreRising exceptions.now → IsStep (excepted_weight weight exceptions.now) columns None at s) → IsStep f n (Some row) at s
  step_even weight columns exceptions s e step =
      subst (λ (r : Row). IsRowOf f n r → IsStep f n (Some r) at s) (sym e) (λ are. walked are s (step are.rising)) is
    where
      walked : IsEvenRow f n weight columns exceptions.now → (s : Option Step)
          → IsStep (excepted_weight weight exceptions.now) columns None at s → IsStep f n (Some (Even weight columns exceptions)) at s
      walked are None h = λ i low high. sym (are.each i high) ∙ h i low (subst (λ k. i < k) (sym are.size) high)
      walked are (Some step) h =
          let next = h.0 in
          let inside = subst (λ k. step.column < k) are.size next.1 in (
            (
              next.0,
              inside,
              next.2 ∙ are.each step.column inside,
              next.3,
              λ i m l. sym (are.each i (omega (arith, l, inside))) ∙ next.4 i m l,
            ),
            h.1,
          )

  pub end_single : (x : Cell) → row ≡ Single x → (at ≡ 0 → ⊥) → IsStep f n (Some row) at None
  end_single x e apart =
      subst (λ (r : Row). IsRowOf f n r → IsStep f n (Some r) at None) (sym e) (λ h. sparse_none f n (x ∷ []) h at (beyond at apart)) is
    where
      beyond : (k : ℕ) → (k ≡ 0 → ⊥) → slice_get (x ∷ []) k ≡ None
      beyond zero d = absurd (d refl)
      beyond (suc k) d = refl

-- ---- what `get` says
pub found_at : (xs : List Cell) (k : ℕ) (x : Cell) → k < length xs → ((d : Cell) → x ≡ get_or xs k d) → slice_get xs k ≡ Some x
found_at [] k x l h = absurd (omega arith)
found_at (y ∷ ys) zero x l h = ap Some (sym (h y))
found_at (y ∷ ys) (suc k) x l h = found_at ys k x (omega arith) h

pub none_at : (xs : List Cell) (k : ℕ) → length xs ≤ k → slice_get xs k ≡ None
none_at [] k l = refl
none_at (y ∷ ys) zero l = absurd (omega arith)
none_at (y ∷ ys) (suc k) l = none_at ys k (omega arith)

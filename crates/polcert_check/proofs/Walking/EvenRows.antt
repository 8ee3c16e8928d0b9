-- Rows with the same weight in all columns but for exceptions: the weighed sum of numbers, one exception after another.
use Rattle.std.proofs.Common.{◌≡◌, ◌∙◌, ℕ, zero, suc, ◌+◌, ◌*◌, ◌^◌, ◌<◌, ◌≤◌, List, [], ◌∷◌, length, take, get_or, ℤ, pos, ◌+ℤ◌, ◌-ℤ◌}
use Rattle.std.proofs.Common.{◌*ℤ◌, unsigned_abs, FitsSigned, to_z, of_z, refl, sym, ap, subst, arith, cond, slice_index_or, add-one, set}
use Rattle.std.proofs.Common.{true, None, ⊎_elim}
use Rattle.std.specs.Prelude.{◌==◌}
use Rattle.std.proofs.lemmas.List.{take_all}
use Rattle.std.proofs.lemmas.Bool.Decides.{nat_tests}
use Rattle.std.proofs.Math.Nat.{mul-le-mul}
use Rattle.polcert_cells.specs.Sparse.{AreRising, excepted_weight}
use Rattle.polcert_cells.proofs.EvenRows.{excepted_here}
use Rattle.polcert_check.proofs.Common.{largest, CellTable, Controller, IsController, IsProper, IsWithinLimits, get_or-set_at}
use Rattle.std.proofs.lemmas.List.{get_or-set_other}
use Rattle.polcert_check.proofs.Sums.Bounds.{term_le}
use Rattle.polcert_check.proofs.Common.{w128, Cell, total_below, cases_lt, most_sum, slice_get-get_or, unsigned_abs-mul, ints}
use Rattle.polcert_check.proofs.Common.{fits_signed_from_abs}
use Rattle.std.proofs.lemmas.Int.{to_z-of_z}
use Rattle.polcert_check.proofs.Sums.Bounds.{abs-+ℤ, abs-*ℤ_le}
use Rattle.polcert_check.proofs.Sums.Gaps.{add_step}
use Rattle.polcert_check.proofs.Sums.Ring.{linear}
use Rattle.polcert_check.proofs.Sums.SumLaws.{sum_below_scale, sum_below_same}
use Rattle.polcert_check.proofs.Walking.Excepted.{one_term_more}
use Rattle.polcert_check.specs.Steps.Products.{IsEvenSum}
use Rattle.polcert_cells.specs.BorrowedRows.{IsEvenRow}
use Rattle.polcert_check.specs.declared.ends.EndValues.{EndValues}
use Rattle.polcert_check.specs.Steps.Values.{AreEndValues, IsCompleteValue, IsExpectedValue}
use Rattle.polcert_check.proofs.Sums.RowTotals.{t_rows, o_rows}
use Rattle.polcert_check.proofs.Walking.Products.{same_if_some}

later : (y : Cell) (ys : List Cell) → AreRising (y ∷ ys) → AreRising ys
later y ys up i j d less l = up (suc i) (suc j) d (omega arith) (omega arith)

-- by how much a number has more weight, in 128 bits
pub gain_is : (v u : ℕ) (x a b : ℤ) → v ≤ 2 ^ 34 → u ≤ 2 ^ 34 → unsigned_abs x ≤ 2 ^ 63 → a ≡ pos v *ℤ x → b ≡ pos u *ℤ x
    → FitsSigned w128 a → FitsSigned w128 b
    → (to_z w128 (of_z w128 (to_z w128 (of_z w128 a) -ℤ to_z w128 (of_z w128 b))) ≡ pos v *ℤ x -ℤ pos u *ℤ x)
    × (unsigned_abs (to_z w128 (of_z w128 (to_z w128 (of_z w128 a) -ℤ to_z w128 (of_z w128 b)))) ≤ 2 ^ 98)
gain_is v u x a b vl ul xl ae be fa fb =
    let more : unsigned_abs (pos v *ℤ x) ≤ 2 ^ 34 * 2 ^ 63 = abs-*ℤ_le (pos v) x (2 ^ 34) (2 ^ 63) (omega (arith, vl)) xl in
    let less : unsigned_abs (pos u *ℤ x) ≤ 2 ^ 34 * 2 ^ 63 = abs-*ℤ_le (pos u) x (2 ^ 34) (2 ^ 63) (omega (arith, ul)) xl in
    let d = pos v *ℤ x -ℤ pos u *ℤ x in
    let small : unsigned_abs d ≤ 2 ^ 98 = omega (arith, ints, more, less) in
    let fits : FitsSigned w128 d = fits_signed_from_abs w128 d (omega (arith, small)) in
    let is : to_z w128 (of_z w128 (to_z w128 (of_z w128 a) -ℤ to_z w128 (of_z w128 b))) ≡ d =
    rw (to_z-of_z w128 a fa, to_z-of_z w128 b fb, ae, be, to_z-of_z w128 d fits) refl in
    (is, rw is small)

-- one exception more
taken_more : (u : ℕ) (xs : List Cell) (i c : ℕ) (d : Cell) → i < length xs → AreRising xs → excepted_weight u (take (suc i) xs) c
    ≡ cond ((get_or xs i d).column == c) (get_or xs i d).weight (excepted_weight u (take i xs) c)
taken_more u [] i c d l up = absurd (omega arith)
taken_more u (y ∷ ys) zero c d l up = refl
taken_more u (y ∷ ys) (suc i) c d l up =
    let less = up 0 (suc i) d (omega arith) l in
    grind (arith, nat_tests, taken_more u ys i c d (omega arith) (later y ys up))

-- an exception is not among those before it
taken_before : (u : ℕ) (xs : List Cell) (i : ℕ) (d : Cell) → i < length xs → AreRising xs
    → excepted_weight u (take i xs) (get_or xs i d).column ≡ u
taken_before u [] i d l up = absurd (omega arith)
taken_before u (y ∷ ys) zero d l up = refl
taken_before u (y ∷ ys) (suc i) d l up =
    let less = up 0 (suc i) d (omega arith) l in
    grind (arith, nat_tests, taken_before u ys i d (omega arith) (later y ys up))

-- a column is at least its place
place_le : (xs : List Cell) (d : Cell) → AreRising xs → (i : ℕ) → i < length xs → i ≤ (get_or xs i d).column
place_le xs d up zero l = omega arith
place_le xs d up (suc i) l =
    let before = place_le xs d up i (omega arith) in
    omega (arith, before, (up i (suc i) d (omega arith) l))

-- the sum with the first exceptions
abbrev pub until : ℕ → ℕ → List Cell → List ℤ → ℕ → ℤ
until count u xs numbers i = total_below (λ c. pos (excepted_weight u (take i xs) c) *ℤ slice_index_or numbers c (pos 0)) count

module _ (f : ℕ → ℕ) (count u : ℕ) (xs : List Cell) (numbers : List ℤ) (total : ℤ) (is : IsEvenSum f count u xs numbers total) where
  abbrev x : ℕ → ℤ
  x c = slice_index_or numbers c (pos 0)

  abbrev cell : ℕ → Cell
  cell i = slice_index_or xs i (record { column = 0; weight = 0 })

  abbrev sum_to : ℕ → ℤ
  sum_to i = until count u xs numbers i

  pub inside : (i : ℕ) → i < length xs → (cell i).column < count
  inside i l = subst (λ n. (cell i).column < n) is.row.size (is.row.within i _ l)

  pub common_le : u ≤ 2 ^ 34
  common_le = let small = is.row.small in let size = is.row.size in let few = is.few in grind arith

  pub weight_le : (i : ℕ) → i < length xs → (cell i).weight ≤ 2 ^ 34
  weight_le i l =
      let here = is.row.each (cell i).column (inside i l) in
      let own = excepted_here u xs i (cell i) is.row.rising (slice_get-get_or xs i _ l) in
      let limited = is.limited (cell i).column (inside i l) in
      let few = is.few in
      grind arith

  total_le : unsigned_abs total ≤ 2 ^ 80
  total_le = let small = is.small in let few = is.few in grind arith

  pub weigh_room : u * unsigned_abs total ≤ most_sum
  weigh_room = omega (arith, (mul-le-mul common_le total_le))

  pub start_le : unsigned_abs (pos u *ℤ total) ≤ 2 ^ 16 * 2 ^ 98
  start_le =
      rw (unsigned_abs-mul (pos u) total) (omega (arith, (mul-le-mul common_le total_le)))

  pub until_none : pos u *ℤ total ≡ sum_to 0
  until_none = ap (λ t. pos u *ℤ t) is.sum ∙ sym (sum_below_scale (pos u) x count)

  until_more : (i : ℕ) → i < length xs
      → sum_to i +ℤ (pos (cell i).weight *ℤ x (cell i).column -ℤ pos u *ℤ x (cell i).column) ≡ sum_to (suc i)
  until_more i l =
      let d : Cell = record { column = 0; weight = 0 } in
      let z = (cell i).column in
      let v = (cell i).weight in
      sym (one_term_more (λ e. pos (excepted_weight u (take i xs) e) *ℤ x e) (λ e. pos (excepted_weight u (take (suc i) xs) e) *ℤ x e) z
      (pos v *ℤ x z -ℤ pos u *ℤ x z) count (inside i l)
      (λ k m apart. ap (λ w. pos w *ℤ x k) (taken_more u xs i k d l is.row.rising ∙ other z k v _ apart))
      (ap (λ w. pos w *ℤ x z) (taken_more u xs i z d l is.row.rising ∙ same z v _) ∙ whole (pos v *ℤ x z) (pos u *ℤ x z)
      ∙ ap (λ w. pos w *ℤ x z +ℤ (pos v *ℤ x z -ℤ pos u *ℤ x z)) (sym (taken_before u xs i d l is.row.rising))))
    where
      other : (z k v w : ℕ) → (k ≡ z → ⊥) → cond (z == k) v w ≡ w
      other z k v w apart = grind (arith, nat_tests)

      same : (z v w : ℕ) → cond (z == z) v w ≡ v
      same z v w = grind (arith, nat_tests)

      whole : (a b : ℤ) → a ≡ b +ℤ (a -ℤ b)
      whole a b = omega (arith, linear)

  pub until_all : sum_to (length xs) ≡ total_below (λ c. pos (f c) *ℤ x c) count
  until_all = ap (λ ys. total_below (λ e. pos (excepted_weight u ys e) *ℤ x e) count) (take_all (length xs) xs (omega arith))
      ∙ sum_below_same _ _ count (λ c l. ap (λ w. pos w *ℤ x c) (is.row.each c l))

  -- one exception more, in 128 bits
  pub even_more : (i : ℕ) (sum g : ℤ) → i < length xs → sum ≡ sum_to i → unsigned_abs sum ≤ (2 ^ 16 + i) * 2 ^ 98 → FitsSigned w128 g
      → g ≡ pos (cell i).weight *ℤ x (cell i).column -ℤ pos u *ℤ x (cell i).column → unsigned_abs g ≤ 2 ^ 98
      → FitsSigned w128 (sum +ℤ to_z w128 (of_z w128 g)) × (to_z w128 (of_z w128 (sum +ℤ to_z w128 (of_z w128 g))) ≡ sum_to (i + 1))
      × (unsigned_abs (to_z w128 (of_z w128 (sum +ℤ to_z w128 (of_z w128 g)))) ≤ (2 ^ 16 + (i + 1)) * 2 ^ 98)
  even_more i sum g l before small fits changed le =
      let next : sum +ℤ g ≡ sum_to (suc i) = rw (before, changed) (until_more i l) in
      let both = abs-+ℤ sum g in
      let bound : unsigned_abs (sum_to (suc i)) ≤ (2 ^ 16 + (i + 1)) * 2 ^ 98 =
      subst (λ t. unsigned_abs t ≤ (2 ^ 16 + (i + 1)) * 2 ^ 98) next (omega (arith, both, small, le)) in
      let place = place_le xs (record { column = 0; weight = 0 }) is.row.rising i l in
      let few : (2 ^ 16 + (i + 1)) * 2 ^ 98 < 2 ^ 127 = omega (arith, place, inside i l, is.few) in
      let step = add_step sum g _ _ fits next bound few in
      (step.0, rw add-one step.1, subst (λ t. unsigned_abs t ≤ (2 ^ 16 + (i + 1)) * 2 ^ 98) (sym step.1) bound)

module _ (xs : List ℤ) (e : ℕ) (v : ℤ) where
  -- ---- the values of a node
  -- the sum with one value more
  pub total_more : (total : ℤ) → e < length xs → total ≡ total_below (λ i. slice_index_or xs i (pos 0)) e
      → total +ℤ v ≡ total_below (λ i. slice_index_or (set xs e v) i (pos 0)) (e + 1)
  total_more total room before =
      let kept = sum_below_same (λ i. slice_index_or xs i (pos 0)) (λ i. slice_index_or (set xs e v) i (pos 0)) e
      (λ i l. grind (arith, get_or-set_other)) in
      let here : slice_index_or (set xs e v) e (pos 0) ≡ v = grind (arith, get_or-set_at) in
      rw add-one (cc (before, kept, here))

  -- the same in 128 bits
  pub total_step : (w sum : ℤ) → e < length xs → e < 2 ^ 20 → sum ≡ total_below (λ i. slice_index_or xs i (pos 0)) e
      → unsigned_abs sum ≤ e * 2 ^ 63 → FitsSigned w128 w → w ≡ v → unsigned_abs w ≤ 2 ^ 63
      → (to_z w128 (of_z w128 (sum +ℤ to_z w128 (of_z w128 w))) ≡ total_below (λ i. slice_index_or (set xs e v) i (pos 0)) (e + 1))
      × (unsigned_abs (to_z w128 (of_z w128 (sum +ℤ to_z w128 (of_z w128 w)))) ≤ (e + 1) * 2 ^ 63)
  total_step w sum room few before small fits same le =
      let next : sum +ℤ w ≡ total_below (λ i. slice_index_or (set xs e v) i (pos 0)) (e + 1) = rw same (total_more sum room before) in
      let bound : unsigned_abs (total_below (λ i. slice_index_or (set xs e v) i (pos 0)) (e + 1)) ≤ (e + 1) * 2 ^ 63 =
      subst (λ (t : ℤ). unsigned_abs t ≤ (e + 1) * 2 ^ 63) next (omega (arith, (abs-+ℤ sum w), small, le)) in
      let step = add_step sum w _ ((e + 1) * 2 ^ 63) fits next bound (omega (arith, few)) in
      (step.1, subst (λ (t : ℤ). unsigned_abs t ≤ (e + 1) * 2 ^ 63) (sym step.1) bound)

module _ (c : Controller) where
  pub complete_more : (n e : ℕ) (xs : List ℤ) (v w : ℤ) → e < length xs → w ≡ v
      → ((s i : ℕ) → s < c.cells.states → i < e → 0 < c.cells.t (c.action n) s i → IsCompleteValue c n i (slice_index_or xs i (pos 0)))
      → ((s : ℕ) → s < c.cells.states → 0 < c.cells.t (c.action n) s e → IsCompleteValue c n e v)
      → (s i : ℕ) → s < c.cells.states → i < e + 1 → 0 < c.cells.t (c.action n) s i
      → IsCompleteValue c n i (slice_index_or (set xs e w) i (pos 0))
  complete_more n e xs v w room same before here s i sl il some = ⊎_elim
      (λ l. subst (λ (x : ℤ). IsCompleteValue c n i x) (sym (get_or-set_other xs e i w (pos 0) (λ f. omega (arith, l, f))))
      (before s i sl l some))
      (λ ge.
      let at : i ≡ e = omega (arith, il, ge) in
      let set_at : slice_index_or (set xs e w) e (pos 0) ≡ w = grind (arith, get_or-set_at) in
      subst (λ k. IsCompleteValue c n k (slice_index_or (set xs e w) k (pos 0))) (sym at)
      (subst (λ (x : ℤ). IsCompleteValue c n e x) (sym (set_at ∙ same)) (here s sl (subst (λ k. 0 < c.cells.t (c.action n) s k) at some))))
      (cases_lt i e)

  pub even_sum : (p : IsController c) → IsWithinLimits c.cells → (n s : ℕ) → n < c.nodes → s < c.cells.states
      → (u : ℕ) (xs : List Cell) → (columns : ℕ) × IsEvenRow (c.cells.t (c.action n) s) c.cells.states u columns xs
      → (ends : EndValues) → c.cells.states ≤ length ends.narrow → AreEndValues c n c.cells.states ends → ends.are_narrow ≡ true
      → IsEvenSum (c.cells.t (c.action n) s) c.cells.states u xs ends.narrow ends.total
  even_sum p limits n s nl sl u xs row ends room are narrow = record {
    columns = row.0;
    row = row.1;
    few = limits.states.1;
    limited = λ e el. let le = term_le _ e _ _
        (t_rows c.cells p.cells (c.action n) s (p.closed.actions_in_range n nl) sl) el in let scale = limits.t_scale in grind arith;
    room = room;
    sum = are.total narrow;
    small = are.small narrow;
  }

  pub even_value : (n s : ℕ) → s < c.cells.states → (ends : EndValues) → AreEndValues c n c.cells.states ends
      → ends.are_narrow ≡ true → (value : ℤ)
      → value ≡ total_below (λ e. pos (c.cells.t (c.action n) s e) *ℤ slice_index_or ends.narrow e (pos 0)) c.cells.states
      → IsExpectedValue c n s (record { value = value; missing = None })
  even_value n s sl ends are narrow value is = record {
    value = is ∙ sum_below_same _ _ _
        (λ e l. same_if_some (c.cells.t _ s e) _ _ (λ some. (are.narrow narrow s e sl l some).value));
    missing = λ z missed. (are.narrow narrow s missed.0 sl missed.1 missed.2).missing z missed.3;
  }

-- ---- rewards of all observations, by a row of O of one weight but for exceptions
pub even_observations : (m : CellTable) → IsProper m → IsWithinLimits m → (a e : ℕ) → a < m.actions → e < m.states
    → (u : ℕ) (xs : List Cell)
    → (columns : ℕ) × IsEvenRow (m.o a e) m.observations u columns xs
    → (rewards : List ℤ) (total : ℤ) → m.observations ≤ length rewards
    → total ≡ total_below (λ z. slice_index_or rewards z (pos 0)) m.observations → unsigned_abs total ≤ m.observations * largest
    → IsEvenSum (m.o a e) m.observations u xs rewards total
even_observations m p limits a e al el u xs row rewards total room sum small = record {
  columns = row.0;
  row = row.1;
  few = limits.observations.1;
  limited = λ z zl. let le = term_le (m.o a e) z m.observations m.o_scale (o_rows m p a e al el) zl in let scale = limits.o_scale in
      grind arith;
  room = room;
  sum = sum;
  small = omega (arith, small);
}

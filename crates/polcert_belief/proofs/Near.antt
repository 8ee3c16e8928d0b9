-- Picks by vectors or beliefs that are near those that they stand for.
use Rattle.std.proofs.Common.{◌≡◌, ℕ, zero, suc, ◌+◌, ◌-◌, ◌*◌, ◌<◌, ◌≤◌, ℤ, pos, ◌+ℤ◌, ◌-ℤ◌, ◌*ℤ◌, ◌≤ℤ◌, List, unsigned_abs, ⊎_elim, sym}
use Rattle.std.proofs.Common.{ap, ◌∙◌, arith}
use Rattle.std.proofs.lemmas.Bool.{cases_lt}
use Rattle.std.proofs.lemmas.Int.{ints}
use Rattle.std.proofs.Math.Nat.{mul-le-mul_left}
use Rattle.polcert_belief.proofs.Common.{Belief, belief_after, mass, sum_over_belief, Selector, policy_of, mass_after, PicksWithin}
use Rattle.polcert_belief.proofs.Common.{PicksGreatest, sum_below, CellTable, Controller, total_below, *ℤ_comm}
use Rattle.polcert_belief.specs.Tolerance.{AreValuesNear, run_worth, distance, AreBeliefsNear, PicksBestAt, DifferAtMost}
use Rattle.polcert_check.proofs.Sums.Ring.{linear, products, below_cancel, *ℤ-+ℤ, +ℤ-*ℤ, mul_le, ≤ℤ_trans, ≤ℤ_from_eq}
use Rattle.polcert_check.proofs.Sums.RowTotals.{sum_of_pos}
use Rattle.polcert_check.proofs.Sums.SumLaws.{sum_below_same, sum_below_le, sum_below_add, sum_below_scale}
use Rattle.polcert_belief.proofs.Updating.{belief_le, belief_scale, no_belief}
use Rattle.polcert_belief.proofs.Picking.{greatest_score}
use Rattle.polcert_belief.proofs.Rewards.{belief_more}

-- ---- vectors
scaled_more : (t : CellTable) (belief : Belief) (d : ℕ) (f : ℕ → ℤ) (x : ℤ)
    → sum_over_belief t belief (λ s. pos d *ℤ f s +ℤ x) ≡ pos d *ℤ sum_over_belief t belief f +ℤ pos (mass t belief) *ℤ x
scaled_more t belief d f x = belief_more t belief (λ s. pos d *ℤ f s) x
    ∙ ap (λ (y : ℤ). y +ℤ pos (mass t belief) *ℤ x) (belief_scale t belief (pos d) f)

more_algebra : (m by : ℕ) (shift : ℤ) → pos m *ℤ (shift +ℤ pos by) ≡ pos m *ℤ shift +ℤ pos (by * m)
more_algebra m by shift =
    let order : m * by ≡ by * m = omega arith in
    *ℤ-+ℤ (pos m) shift (pos by) ∙ ap (λ (n : ℕ). pos m *ℤ shift +ℤ pos n) order

above_algebra : (x y shift : ℤ) (by : ℕ) → x ≤ℤ (y +ℤ shift +ℤ pos by) → x ≤ℤ (y +ℤ (shift +ℤ pos by))
above_algebra x y shift by h = omega (arith, linear)

above_sum : (x y z s : ℤ) (l : ℕ) → x ≤ℤ (y +ℤ z) → z ≡ s +ℤ pos l → x ≤ℤ (y +ℤ s +ℤ pos l)
above_sum x y z s l h k = omega (arith, linear)

pub near_values : (by d : ℕ) (c : Controller) (belief : Belief) (selector : Selector) (run : ℕ → ℕ → ℤ) (shift : ℤ)
    → AreValuesNear by d c run shift → PicksGreatest c selector (run_worth c belief selector run)
    → PicksWithin by d c belief selector
near_values by d c belief selector run shift near picks =
    let there = λ (observations : List ℕ). belief_after c.cells (policy_of c selector) belief observations in
    greatest_score by d c belief selector (run_worth c belief selector run)
    (λ observations. pos (mass_after c belief selector observations) *ℤ shift) (record {
      not_below = λ observations m f ml. ≤ℤ_trans _ _ _ (≤ℤ_from_eq _ _
          (sym (scaled_more c.cells (there observations) d (c.value m) shift)))
          (belief_le c.cells (there observations) _ _ (λ s sl. (near m s ml sl).0));
      not_above = λ observations m f ml. above_sum _ _ _ _ (by * mass_after c belief selector observations)
          (≤ℤ_trans _ _ _ (belief_le c.cells (there observations) _ (λ s. pos d *ℤ c.value m s +ℤ (shift +ℤ pos by))
          (λ s sl. above_algebra _ _ _ by (near m s ml sl).1))
          (≤ℤ_from_eq _ _ (scaled_more c.cells (there observations) d (c.value m) (shift +ℤ pos by))))
          (more_algebra (mass_after c belief selector observations) by shift);
    }) picks

-- ---- beliefs
-- where weights differ, they differ in the product by no more than their difference times that of the values
further_le : (n p q r : ℕ) (x y : ℤ) → q ≡ n + p → x ≤ℤ (y +ℤ pos r)
    → (pos q *ℤ x +ℤ pos p *ℤ y) ≤ℤ (pos q *ℤ y +ℤ pos p *ℤ x +ℤ pos (n * r))
further_le n p q r x y is h =
    let more : (pos n *ℤ x) ≤ℤ (pos n *ℤ (y +ℤ pos r)) = mul_le n _ _ h in
    rw is (omega (arith, linear, more, *ℤ-+ℤ (pos n) y (pos r), +ℤ-*ℤ (pos n) (pos p) x, +ℤ-*ℤ (pos n) (pos p) y))

nearer_le : (n p q r : ℕ) (x y : ℤ) → q ≡ n + p → y ≤ℤ (x +ℤ pos r)
    → (pos p *ℤ x +ℤ pos q *ℤ y) ≤ℤ (pos p *ℤ y +ℤ pos q *ℤ x +ℤ pos (n * r))
nearer_le n p q r x y is h =
    let more : (pos n *ℤ y) ≤ℤ (pos n *ℤ (x +ℤ pos r)) = mul_le n _ _ h in
    rw is (omega (arith, linear, more, *ℤ-+ℤ (pos n) x (pos r), +ℤ-*ℤ (pos n) (pos p) x, +ℤ-*ℤ (pos n) (pos p) y))

differing_le : (p q r : ℕ) (x y : ℤ) → x ≤ℤ (y +ℤ pos r) → y ≤ℤ (x +ℤ pos r)
    → (pos p *ℤ x +ℤ pos q *ℤ y) ≤ℤ (pos p *ℤ y +ℤ pos q *ℤ x +ℤ pos (unsigned_abs (pos p -ℤ pos q) * r))
differing_le p q r x y h k =
    ⊎_elim
    (λ (l : p < q).
    let is : unsigned_abs (pos p -ℤ pos q) ≡ q - p = omega (arith, ints) in
    rw is (nearer_le (q - p) p q r x y (omega arith) k))
    (λ (l : q ≤ p).
    let is : unsigned_abs (pos p -ℤ pos q) ≡ p - q = omega (arith, ints) in
    rw is (further_le (p - q) q p r x y (omega arith) h))
    (cases_lt p q)

-- over both beliefs
weights_algebra : (b n x : ℤ) → (b *ℤ n) *ℤ x ≡ n *ℤ (b *ℤ x)
weights_algebra b n x = simp products

scaled_sum : (t : CellTable) (belief : Belief) (n : ℕ) (f : ℕ → ℤ)
    → total_below (λ s. pos (belief s * n) *ℤ f s) t.states ≡ pos n *ℤ sum_over_belief t belief f
scaled_sum t belief n f = sum_below_same _ (λ s. pos n *ℤ (pos (belief s) *ℤ f s)) t.states
    (λ s _. weights_algebra (pos (belief s)) (pos n) (f s)) ∙ sum_below_scale (pos n) (λ s. pos (belief s) *ℤ f s) t.states

distance_sum : (t : CellTable) (belief other : Belief) (r : ℕ)
    → total_below (λ s. pos (unsigned_abs (pos (belief s * mass t other) -ℤ pos (other s * mass t belief)) * r)) t.states
    ≡ pos (distance t belief other * r)
distance_sum t belief other r =
    let far = λ (s : ℕ). unsigned_abs (pos (belief s * mass t other) -ℤ pos (other s * mass t belief)) in
    sum_below_same _ (λ s. pos r *ℤ pos (far s)) t.states (λ s _. *ℤ_comm (pos (far s)) (pos r))
    ∙ sum_below_scale (pos r) (λ s. pos (far s)) t.states
    ∙ ap (λ (x : ℤ). pos r *ℤ x) (sum_of_pos far t.states)
    ∙ *ℤ_comm (pos r) (pos (distance t belief other))

both_sums : (t : CellTable) (belief other : Belief) (r : ℕ) (f g : ℕ → ℤ) → ((s : ℕ) → s < t.states → f s ≤ℤ (g s +ℤ pos r))
    → ((s : ℕ) → s < t.states → g s ≤ℤ (f s +ℤ pos r))
    → (pos (mass t other) *ℤ sum_over_belief t belief f +ℤ pos (mass t belief) *ℤ sum_over_belief t other g)
    ≤ℤ (pos (mass t other) *ℤ sum_over_belief t belief g +ℤ pos (mass t belief) *ℤ sum_over_belief t other f
    +ℤ pos (distance t belief other * r))
both_sums t belief other r f g h k =
    let p = λ (s : ℕ). belief s * mass t other in
    let q = λ (s : ℕ). other s * mass t belief in
    let far = λ (s : ℕ). pos (unsigned_abs (pos (p s) -ℤ pos (q s)) * r) in
    let each : total_below (λ s. pos (p s) *ℤ f s +ℤ pos (q s) *ℤ g s) t.states ≤ℤ total_below
    (λ s. pos (p s) *ℤ g s +ℤ pos (q s) *ℤ f s +ℤ far s) t.states =
    sum_below_le _ _ t.states (λ s sl. differing_le (p s) (q s) r (f s) (g s) (h s sl) (k s sl)) in
    let left : total_below (λ s. pos (p s) *ℤ f s +ℤ pos (q s) *ℤ g s) t.states ≡ pos (mass t other) *ℤ sum_over_belief t belief f
    +ℤ pos (mass t belief) *ℤ sum_over_belief t other g =
    sum_below_add (λ s. pos (p s) *ℤ f s) (λ s. pos (q s) *ℤ g s) t.states
    ∙ two_sums (scaled_sum t belief (mass t other) f) (scaled_sum t other (mass t belief) g) in
    let right : total_below (λ s. pos (p s) *ℤ g s +ℤ pos (q s) *ℤ f s +ℤ far s) t.states ≡ pos (mass t other) *ℤ sum_over_belief t belief g
    +ℤ pos (mass t belief) *ℤ sum_over_belief t other f +ℤ pos (distance t belief other * r) =
    sum_below_add (λ s. pos (p s) *ℤ g s +ℤ pos (q s) *ℤ f s) far t.states
    ∙ two_sums (sum_below_add (λ s. pos (p s) *ℤ g s) (λ s. pos (q s) *ℤ f s) t.states
    ∙ two_sums (scaled_sum t belief (mass t other) g) (scaled_sum t other (mass t belief) f)) (distance_sum t belief other r) in
    ≤ℤ_trans _ _ _ (≤ℤ_from_eq _ _ (sym left)) (≤ℤ_trans _ _ _ each (≤ℤ_from_eq _ _ right))
  where
    two_sums : {a b x y : ℤ} → a ≡ x → b ≡ y → a +ℤ b ≡ x +ℤ y
    two_sums h k = cc

pub cancel : (t : ℕ) (x y : ℤ) → 0 < t → (pos t *ℤ x) ≤ℤ (pos t *ℤ y) → x ≤ℤ y
cancel t x y some h = omega (arith, linear, below_cancel t x (y +ℤ pos 1) (omega (arith, linear, *ℤ-+ℤ (pos t) y (pos 1))))

-- what is best at the one belief is so within the distance at the other
near_algebra : (n m d by far r : ℕ) (bx by_ ox oy : ℤ) → 0 < n → d * far ≤ by * (m * n) → ox ≤ℤ oy
    → (pos n *ℤ bx +ℤ pos m *ℤ oy) ≤ℤ (pos n *ℤ by_ +ℤ pos m *ℤ ox +ℤ pos (far * r))
    → (pos d *ℤ bx) ≤ℤ (pos d *ℤ by_ +ℤ pos (by * r * m))
near_algebra n m d by far r bx by_ ox oy some near best both =
    let tracked : (pos m *ℤ ox) ≤ℤ (pos m *ℤ oy) = mul_le m _ _ best in
    let first : (pos n *ℤ bx) ≤ℤ (pos n *ℤ by_ +ℤ pos (far * r)) = omega (arith, linear, both, tracked) in
    let scaled : (pos d *ℤ (pos n *ℤ bx)) ≤ℤ (pos d *ℤ (pos n *ℤ by_ +ℤ pos (far * r))) = mul_le d _ _ first in
    let spread : pos d *ℤ (pos n *ℤ by_ +ℤ pos (far * r)) ≡ pos d *ℤ (pos n *ℤ by_) +ℤ pos (d * (far * r)) =
    *ℤ-+ℤ (pos d) (pos n *ℤ by_) (pos (far * r)) in
    let left : pos d *ℤ (pos n *ℤ bx) ≡ pos n *ℤ (pos d *ℤ bx) = swap (pos d) (pos n) bx in
    let right : pos d *ℤ (pos n *ℤ by_) ≡ pos n *ℤ (pos d *ℤ by_) = swap (pos d) (pos n) by_ in
    let lost : d * (far * r) ≤ n * (by * r * m) = omega (arith, mul-le-mul_left r near) in
    cancel n _ _ some (omega (arith, linear, scaled, spread, left, right, lost, *ℤ-+ℤ (pos n) (pos d *ℤ by_) (pos (by * r * m))))
  where
    swap : (a b x : ℤ) → a *ℤ (b *ℤ x) ≡ b *ℤ (a *ℤ x)
    swap a b x = simp products

-- a belief of no mass
no_weight : (f : ℕ → ℕ) (n i : ℕ) → sum_below f n ≡ 0 → i < n → f i ≡ 0
no_weight f zero i is l = absurd (omega arith)
no_weight f (suc n) i is l =
    ⊎_elim
    (λ (k : i < n). no_weight f n i (omega (arith, is)) k)
    (λ (k : n ≤ i). let e : i ≡ n = omega arith in rw e (omega (arith, is)))
    (cases_lt i n)

nothing_algebra : (d l : ℕ) (x y : ℤ) → x ≡ pos 0 → y ≡ pos 0 → (pos d *ℤ x) ≤ℤ (pos d *ℤ y +ℤ pos l)
nothing_algebra d l x y h k = omega (arith, linear, ap (λ (v : ℤ). pos d *ℤ v) (h ∙ sym k))

pub near_beliefs : (by d range : ℕ) (c : Controller) (belief : Belief) (selector : Selector) (tracked : List ℕ → Belief)
    → AreBeliefsNear by d c belief selector tracked → DifferAtMost c range → PicksBestAt c selector tracked
    → PicksWithin (by * range) d c belief selector
near_beliefs by d range c belief selector tracked near apart picks = record {
  are_nodes = picks.are_nodes;
  none_better = λ observations m f ml.
      let there : Belief = belief_after c.cells (policy_of c selector) belief observations in
      let n : ℕ = selector observations in
      let nl : n < c.nodes = picks.are_nodes observations f in
      ⊎_elim
      (λ (some : 0 < mass c.cells there).
      let (some_tracked, within) = near observations f some in
      near_algebra (mass c.cells (tracked observations)) (mass c.cells there) d by (distance c.cells there (tracked observations)) range _ _
      _ _ some_tracked within (picks.none_better observations m f ml)
      (both_sums c.cells there (tracked observations) range (c.value m) (c.value n) (λ s sl. apart m n s ml nl sl)
      (λ s sl. apart n m s nl ml sl)))
      (λ (none : mass c.cells there ≤ 0).
      let empty = λ (s : ℕ) (sl : s < c.cells.states). no_weight there c.cells.states s (omega (arith, none)) sl in
      nothing_algebra d (by * range * mass c.cells there) _ _ (no_belief c.cells there (c.value m) empty)
      (no_belief c.cells there (c.value n) empty))
      (cases_lt 0 (mass c.cells there));
}

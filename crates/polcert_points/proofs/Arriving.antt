-- The belief after an action and an observation, one state more at a time.
use Rattle.std.proofs.Common.{◌≡◌, ⊎_elim, ℕ, zero, suc, ◌+◌, ◌*◌, ◌<◌, ◌≤◌, refl, ◌∙◌, arith, rules}
use Rattle.std.proofs.Math.Nat.{le_trans, mul-le-mul_left, mul-le-mul_right}
use Rattle.polcert_points.proofs.Common.{cases_lt, CellTable, IsProper}
use Rattle.polcert_cells.specs.Tables.{IsWithinLimits}
use Rattle.polcert_cells.specs.Meaning.{sum_below}
use Rattle.polcert_check.proofs.Sums.RowTotals.{t_rows}
use Rattle.polcert_check.proofs.Sums.Bounds.{term_le}
use Rattle.polcert_points.specs.Belief.{Belief, updated_belief}
use Rattle.polcert_points.specs.Steps.PointSums.{arrival}
use Rattle.polcert_points.proofs.Rows.{sum_on, sum_more}

-- a weighted sum of numbers that are at most a scale
pub weighted_le : (b w : ℕ → ℕ) (scale n : ℕ) → ((s : ℕ) → s < n → w s ≤ scale) → sum_below (λ s. b s * w s) n ≤ sum_below b n * scale
weighted_le b w scale zero small = omega arith
weighted_le b w scale (suc n) small =
    omega (arith, weighted_le b w _ n (λ s sl. small s (omega arith)), mul-le-mul_left (b n) (small n (omega arith)))

pub part_below : (b : ℕ → ℕ) (k n : ℕ) → k ≤ n → sum_below b k ≤ sum_below b n
part_below b k zero l = grind arith
part_below b k (suc n) l =
    ⊎_elim (λ (h : n < k). let e : k ≡ suc n = omega arith in rw e (omega arith)) (λ (h : k ≤ n). omega (arith, part_below b k n h))
    (cases_lt n k)

pub factor_out : (b : Belief) (w : ℕ → ℕ) (o n : ℕ) → sum_below (λ s. b s * (w s * o)) n ≡ sum_below (λ s. b s * w s) n * o
factor_out b w o zero = omega arith
factor_out b w o (suc n) = omega (arith, factor_out b w o n)

module _ (t : CellTable) (p : IsProper t) (limits : IsWithinLimits t) (a : ℕ) (al : a < t.actions) where
  pub t_small : (s e : ℕ) → s < t.states → e < t.states → t.t a s e ≤ 10000000000
  t_small s e sl el = le_trans (term_le _ e _ _ (t_rows t p a s al sl) el) (grind arith)
    where
      scale_small : t.t_scale ≡ 1000000 * t.states → t.states ≤ 10000 → t.t_scale ≤ 10000000000
      scale_small is l = omega arith

  pub arrive_small : (b : Belief) (e k : ℕ) → e < t.states → k ≤ t.states → sum_below b t.states ≤ 1000000
      → sum_below (λ s. b s * t.t a s e) k ≤ 10000000000000000
  arrive_small b e k el kl few =
      le_trans (weighted_le b _ 10000000000 k (λ s sl. t_small s e (omega arith) el))
      (mul-le-mul_right 10000000000 (le_trans (part_below b k _ kl) few))

  pub after_parts : (b : Belief) (z e : ℕ) → updated_belief t b a z e ≡ sum_below (λ s. b s * t.t a s e) t.states * t.o a e z
  after_parts b z e = search (rules, factor_out)

  -- an end state that is not reached has no weight after any observation
  pub not_after : (b : Belief) (z e : ℕ) → arrival t b a e ≡ 0 → updated_belief t b a z e ≡ 0
  not_after b z e none = grind (arith, after_parts)
    where
      nothing : (x y : ℕ) → x ≡ 0 → x * y ≡ 0
      nothing x y is = grind arith

  -- one state more, after a gap
  module _ (b : Belief) (e from s w sum : ℕ) (fl : from ≤ s) (none : (k : ℕ) → from ≤ k → k < s → b k ≡ 0)
      (is : sum ≡ sum_below (λ k. b k * t.t a k e) from) (here : w ≡ b s) where
    arrival_more : sum + w * t.t a s e ≡ sum_below (λ k. b k * t.t a k e) (s + 1)
    arrival_more = sum_more _ from s _ sum fl (λ k l h. rw (none k l h) (omega arith)) is (rw here refl)

    pub arrival_next : (x : ℕ) → x ≡ sum + w * t.t a s e → x ≡ sum_below (λ k. b k * t.t a k e) (s + 1)
    arrival_next x more = more ∙ arrival_more

    pub arrival_small : e < t.states → s < t.states → sum_below b t.states ≤ 1000000 → sum + w * t.t a s e ≤ 10000000000000000
    arrival_small el sl few = grind (arith, arrival_more, arrive_small)

  -- after the last
  pub arrivals_on : (b : Belief) (e from n sum : ℕ) → from ≤ n → ((k : ℕ) → from ≤ k → k < n → b k ≡ 0)
      → sum ≡ sum_below (λ k. b k * t.t a k e) from → sum ≡ sum_below (λ k. b k * t.t a k e) n
  arrivals_on b e from n sum fl none is = grind (arith, sum_on)

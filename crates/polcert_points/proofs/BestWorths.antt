-- What a belief is worth with the best next action, where a point is taken out of it.
use Rattle.std.proofs.Common.{◌≡◌, ⊎_elim, ℕ, zero, suc, ◌+◌, ◌-◌, ◌*◌, ◌^◌, ◌<◌, ◌≤◌, ℤ, pos, ◌+ℤ◌, ◌*ℤ◌, FitsSigned, to_z, of_z, Option}
use Rattle.std.proofs.Common.{Some, None, [], ◌∷◌, refl, ap, ◌∙◌, arith}
use Rattle.std.specs.Int.{int_max}
use Rattle.polcert_points.proofs.Common.{cases_lt, w128, CellTable, total_below, greatest_below}
use Rattle.polcert_cells.specs.Meaning.{sum_below}
use Rattle.polcert_check.proofs.Sums.Ring.{*ℤ_assoc}
use Rattle.polcert_check.proofs.Sums.SumLaws.{sum_below_same}
use Rattle.polcert_points.specs.Belief.{Belief, mass}
use Rattle.polcert_points.specs.Points.{Cover, covered_worth, best_worth}
use Rattle.polcert_points.specs.PointCheck.{IsMostTimes, IsCoverBy}
use Rattle.polcert_points.specs.PointTable.{PointTable}
use Rattle.polcert_points.specs.Steps.PointSums.{IsTaken, taken_worth, left_worth}
use Rattle.polcert_points.proofs.PointChecks.{one_times}
use Rattle.polcert_points.proofs.PointRaises.{mass_taken}

-- ---- weights
pub some_weight : (f : ℕ → ℕ) (n : ℕ) → 1 ≤ sum_below f n → (s : ℕ) × (s < n) × (0 < f s)
some_weight f zero h = grind arith
some_weight f (suc n) h =
    ⊎_elim (λ (k : 0 < f n). (n, omega arith, k))
    (λ (k : f n ≤ 0). let r = some_weight f n (omega arith) in (r.0, omega arith, r.2))
    (cases_lt 0 _)

pub same_sum : (f g : ℕ → ℕ) (n : ℕ) → ((s : ℕ) → s < n → f s ≡ g s) → sum_below f n ≡ sum_below g n
same_sum f g zero same = refl
same_sum f g (suc n) same = cc (same_sum f g n (λ s l. same s (omega arith)), same n (omega arith))

-- ---- one next action
module _ (t : CellTable) (p : PointTable) (charges : ℕ → ℕ → ℤ) where
  taken_is : (point : Option ℕ) (times weight a : ℕ) (v : ℤ)
      → ((j : ℕ) → point ≡ Some j → (j < p.points.count) × (weight ≡ mass t (p.points.belief j)))
      → ((j : ℕ) → point ≡ Some j → v ≡ p.points.value j a) → (point ≡ None → v ≡ pos 0)
      → pos (times * weight) *ℤ v ≡ taken_worth t p.points point times a
  taken_is None times weight a v known value none = grind arith
  taken_is (Some j) times weight a v known value none =
      rw ((known j refl).1, value j refl) (*ℤ_assoc (pos times) (pos _) (p.points.value j a))

  pub worth_is : (point : Option ℕ) (times weight a n : ℕ) (v x : ℤ) (left : Belief) (row : ℕ → ℤ)
      → ((j : ℕ) → point ≡ Some j → (j < p.points.count) × (weight ≡ mass t (p.points.belief j)))
      → ((j : ℕ) → point ≡ Some j → v ≡ p.points.value j a) → (point ≡ None → v ≡ pos 0) → n ≡ t.states
      → ((s : ℕ) → s < t.states → row s ≡ charges a s)
      → x ≡ pos (times * weight) *ℤ v +ℤ total_below (λ s. pos (left s) *ℤ row s) n → x ≡ left_worth t charges p.points point times left a
  worth_is point times weight a n v x left row known value none is same whole = grind (arith, total_below, sum_below_same, taken_is)

-- ---- the best
pub best_step : (f : ℕ → ℤ) (n : ℕ) (g x m : ℤ) → FitsSigned w128 x → FitsSigned w128 m → m ≡ int_max g (to_z w128 (of_z w128 x))
    → g ≡ greatest_below f n → x ≡ f n → 0 < n → to_z w128 (of_z w128 m) ≡ greatest_below f (n + 1)
best_step f n g x m fx fm is before here some = grind arith

module _ (t : CellTable) (p : PointTable) (charges : ℕ → ℕ → ℤ) where
  -- with a point
  with_point : (b left : Belief) (j times : ℕ) → ((s : ℕ) → s < t.states → left s ≡ b s - times * p.points.belief j s) → (a : ℕ)
      → left_worth t charges p.points (Some j) times left a ≡ covered_worth t charges p.points a b ((j, times) ∷ [])
  with_point b left j times same a = grind (arith, sum_below_same)

  pub best_is : (b left : Belief) (j times : ℕ) (cover : Cover) (x : ℤ)
      → x ≡ greatest_below (left_worth t charges p.points (Some j) times left) t.actions
      → ((s : ℕ) → s < t.states → left s ≡ b s - times * p.points.belief j s) → IsMostTimes t.states b (p.points.belief j) times
      → IsCoverBy t p.points b (Some j) cover → x ≡ best_worth t charges p.points b cover
  best_is b left j times cover x is same most by =
      let one = by.2 ∙ ap (λ (n : ℕ). (j, n) ∷ []) (one_times _ b _ by.0 _ by.1 most)
      in
      rw one (is ∙ (λ i. greatest_below (λ a. with_point b left j times same a i) t.actions))

module _ (t : CellTable) (p : PointTable) (b : Belief) where
  -- ---- what is taken
  pub is_taken : (left : Belief) (j times weight : ℕ) → j < p.points.count
      → weight ≡ mass t (p.points.belief j)
      → ((s : ℕ) → s < t.states → times * p.points.belief j s ≤ b s) → ((s : ℕ) → s < t.states → left s ≡ b s - times * p.points.belief j s)
      → mass t b ≤ 5 * 10 ^ 24 → IsTaken t p (record { point = Some j; times = times; mass = weight }) left
  is_taken left j times weight jl is fits rest few =
      let leaves =
      same_sum left _ _ rest in
      let whole =
      mass_taken t b _ _ fits in
      record {
        known = λ k named. let e : j ≡ k = cc in rw (← e) (jl, is);
        whole = grind arith;
      }

-- A controller over other cells that agree in range: each step, each run and each sum is the same.
use Rattle.std.proofs.Common.{◌-◌}
use Rattle.polcert_check.proofs.Common.{range_with_len, CellTable, Controller, one, sum_over, step_weight, pairs, runs, is_cut, run_weight}
use Rattle.polcert_check.proofs.Common.{rewards, reward_part, total, uncut, weights_sum, worth_sum, rewards_sum, Promise, RewardPromise}
use Rattle.polcert_check.proofs.Common.{IsRunInRange, short, Lacks, PairPasses, Passes, IsClosed, HasSameCells}
use Rattle.std.proofs.Common.{◌≡◌, ℕ, zero, suc, ◌*◌, ◌^◌, ◌<◌, ℤ, pos, ◌*ℤ◌, IsTrue, not, cond, List, [], ◌∷◌, map, flat_map, get_or}
use Rattle.std.proofs.Common.{Option, Some, None, sym, refl, ap, ◌∙◌, All, length, arith}
use Rattle.polcert_check.proofs.Sums.SumLaws.{sum_below_same, sum_over_filter, sum_over_same_all}
use Rattle.polcert_check.proofs.Horizons.Enumerated.{All-runs}

-- the same controller over the cells of y, with the counts, the discount and the scales that it had
abbrev pub with_cells : Controller → CellTable → Controller
with_cells c y = record c { cells = record c.cells { t = y.t; o = y.o; r = y.r } }

module _ (c : Controller) (y : CellTable) where
  -- ---- the same for any cells
  pub runs_same : (k : ℕ) → runs (with_cells c y).cells k ≡ runs c.cells k
  runs_same zero = refl
  runs_same (suc k) = ap (λ (rs : List (List (ℕ × ℕ))). flat_map (λ q. map (λ run. q ∷ run) rs) (pairs c.cells)) (runs_same k)

  pub is_cut_same : (at : Option ℕ) (run : List (ℕ × ℕ)) → is_cut (with_cells c y) at run ≡ is_cut c at run
  is_cut_same None run = refl
  is_cut_same (Some n) [] = refl
  is_cut_same (Some n) (q ∷ run) = is_cut_same (c.next n q.1) run

-- ---- the same for cells that agree
module _ (c : Controller) (p : IsClosed c) (y : CellTable) (same : HasSameCells c.cells y) where
  step_same : (n s e z : ℕ) → n < c.nodes → s < c.cells.states → e < c.cells.states → z < c.cells.observations
      → step_weight (with_cells c y) n s e z ≡ step_weight c n s e z
  step_same n s e z nl sl el zl = grind arith

  -- what a run weighs and earns
  abbrev RunIsSame : Option ℕ → ℕ → List (ℕ × ℕ) → Type 0
  RunIsSame at s run = (run_weight (with_cells c y) at s run ≡ run_weight c at s run)
      × (rewards (with_cells c y) at s run ≡ rewards c at s run)

  run_after : (n z e : ℕ) (run : List (ℕ × ℕ)) → n < c.nodes → z < c.cells.observations → ((m : ℕ) → m < c.nodes → RunIsSame (Some m) e run)
      → (at : Option ℕ) → c.next n z ≡ at → RunIsSame at e run
  run_after n z e run h1 h2 h3 at h4 = grind arith

  run_same : (run : List (ℕ × ℕ)) (n s : ℕ) → n < c.nodes → s < c.cells.states → IsRunInRange c.cells run → RunIsSame (Some n) s run
  run_same [] n s nl sl f = (refl, refl)
  run_same (q ∷ run) n s nl sl f =
      let step : step_weight (with_cells c y) n s q.0 q.1 ≡ step_weight c n s q.0 q.1 = step_same n s q.0 q.1 nl sl f.0 f.1 in
      let earned : c.cells.r (c.action n) s q.0 q.1 ≡ y.r (c.action n) s q.0 q.1 =
      same.r (c.action n) s q.0 q.1 (p.actions_in_range n nl) sl f.0 f.1 in
      let later : RunIsSame (c.next n q.1) q.0 run = run_after n q.1 q.0 run nl f.1 (λ m ml. run_same run m q.0 ml f.0 f.2) (c.next n q.1)
      refl in
      (cc, cc)

  pub weight_same : (run : List (ℕ × ℕ)) (n s : ℕ) → n < c.nodes → s < c.cells.states → IsRunInRange c.cells run
      → run_weight (with_cells c y) (Some n) s run ≡ run_weight c (Some n) s run
  weight_same run n s nl sl f = (run_same run n s nl sl f).0

  reward_part_same : (k : ℕ) (run : List (ℕ × ℕ)) (n s : ℕ) → n < c.nodes → s < c.cells.states → IsRunInRange c.cells run
      → reward_part (with_cells c y) k (Some n) s run ≡ reward_part c k (Some n) s run
  reward_part_same k run n s nl sl f =
      ap (λ (rs : List ℤ). sum_over (λ i. pos (c.cells.discount ^ i * one ^ (k - i)) *ℤ get_or rs i (pos 0)) (range_with_len 0 k))
      (run_same run n s nl sl f).1

  total_same : (k : ℕ) (run : List (ℕ × ℕ)) (n s : ℕ) → n < c.nodes → s < c.cells.states → IsRunInRange c.cells run
      → total (with_cells c y) k (Some n) s run ≡ total c k (Some n) s run
  total_same k run n s nl sl f = grind (arith, reward_part_same)

  -- a sum over the uncut runs, of what is the same for each run in range
  uncut_sum_same : (f g : List (ℕ × ℕ) → ℤ) (k n : ℕ) → ((run : List (ℕ × ℕ)) → IsRunInRange c.cells run → f run ≡ g run)
      → sum_over f (uncut (with_cells c y) k (Some n)) ≡ sum_over g (uncut c k (Some n))
  uncut_sum_same f g k n each =
      let d : Controller = with_cells c y in
      sum_over_filter f (λ run. not (is_cut d (Some n) run)) (runs d.cells k)
      ∙ ap (λ (rs : List (List (ℕ × ℕ))). sum_over (λ run. cond (not (is_cut d (Some n) run)) (f run) (pos 0)) rs) (runs_same c y k)
      ∙ sum_over_same_all (λ run. (length run ≡ k) × IsRunInRange c.cells run) _ (λ run. cond (not (is_cut c (Some n) run)) (g run) (pos 0))
      (runs c.cells k)
      (λ run h. rw (is_cut_same c y (Some n) run, each run h.1) refl) (All-runs c.cells k)
      ∙ sym (sum_over_filter g (λ run. not (is_cut c (Some n) run)) (runs c.cells k))

  weights_sum_same : (k n s : ℕ) → n < c.nodes → s < c.cells.states → weights_sum (with_cells c y) k (Some n) s ≡ weights_sum c k (Some n) s
  weights_sum_same k n s nl sl = grind (arith, weight_same, uncut_sum_same)

  pub worth_sum_same : (k n s : ℕ) → n < c.nodes → s < c.cells.states → worth_sum (with_cells c y) k (Some n) s ≡ worth_sum c k (Some n) s
  worth_sum_same k n s nl sl = grind (arith, weight_same, total_same, uncut_sum_same)

  rewards_sum_same : (k n s : ℕ) → n < c.nodes → s < c.cells.states → rewards_sum (with_cells c y) k (Some n) s ≡ rewards_sum c k (Some n) s
  rewards_sum_same k n s nl sl = grind (arith, weight_same, reward_part_same, uncut_sum_same)

  -- ---- the promise
  pub cut_runs_same : (k n s : ℕ) → n < c.nodes → s < c.cells.states
      → All (λ run. IsTrue (is_cut c (Some n) run) → run_weight c (Some n) s run ≡ 0) (runs c.cells k)
      → All (λ run. IsTrue (is_cut (with_cells c y) (Some n) run) → run_weight (with_cells c y) (Some n) s run ≡ 0)
      (runs (with_cells c y).cells k)
  cut_runs_same k n s nl sl before =
      rw (runs_same c y k) (λ j d l cut. weight_same (get_or (runs c.cells k) j d) n s nl sl (All-runs c.cells k j d l).1
      ∙ before j d l (sym (is_cut_same c y (Some n) (get_or (runs c.cells k) j d)) ∙ cut))

  pub promise_same : (k n s : ℕ) → n < c.nodes → s < c.cells.states → Promise c k n s → Promise (with_cells c y) k n s
  promise_same k n s nl sl promise = grind (arith, worth_sum_same, cut_runs_same)

  pub reward_promise_same : (k n s : ℕ) → n < c.nodes → s < c.cells.states → RewardPromise c k n s → RewardPromise (with_cells c y) k n s
  reward_promise_same k n s nl sl promise = grind (arith, weights_sum_same, rewards_sum_same)

  -- ---- the shortfall
  pub short_same : (n s : ℕ) → n < c.nodes → s < c.cells.states → short (with_cells c y) n s ≡ short c n s
  short_same n s nl sl = grind (arith, sum_below_same)

  pub lacks_same : (n s z : ℕ) → n < c.nodes → s < c.cells.states → z < c.cells.observations → Lacks c n s z → Lacks (with_cells c y) n s z
  lacks_same n s z nl sl zl (none, (e, el, some)) = (none, (e, el, rw (step_same n s e z nl sl el zl) some))

  pub lacks_back : (n s z : ℕ) → n < c.nodes → s < c.cells.states → z < c.cells.observations → Lacks (with_cells c y) n s z → Lacks c n s z
  lacks_back n s z nl sl zl (none, (e, el, some)) = (none, (e, el, rw (step_same n s e z nl sl el zl) at some))

  pub pair_same : (n s : ℕ) → n < c.nodes → s < c.cells.states → PairPasses c n s → PairPasses (with_cells c y) n s
  pair_same n s nl sl passes = grind (arith, short_same)

  pub passes_same : Passes c → Passes (with_cells c y)
  passes_same passes n s nl sl = pair_same n s nl sl (passes n s nl sl)

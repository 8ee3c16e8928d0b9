-- Where a pair is short or lacks an observation, the promise of one step is false.
use Rattle.std.proofs.Common.{List}
use Rattle.std.proofs.Common.{◌≡◌, ℕ, ◌*◌, ◌^◌, ◌<◌, ℤ, pos, ◌+ℤ◌, ◌*ℤ◌, ◌<ℤ◌, true, [], ◌∷◌, Option, Some, None, refl, arith}
use Rattle.polcert_check.proofs.Common.{All-contains, *ℤ_comm, pow-zero, Controller, one, step_weight, runs, is_cut, run_weight}
use Rattle.polcert_check.proofs.Common.{weights_sum}
use Rattle.polcert_check.proofs.Common.{worth_sum, Promise, HasCutRun, backing, short, Lacks}
use Rattle.std.proofs.Math.Nat.{pow-suc}
use Rattle.polcert_check.proofs.Sums.Ring.{linear, one-*ℤ}
use Rattle.polcert_check.proofs.Sums.SumLaws.{sum_below_same}
use Rattle.polcert_check.proofs.Horizons.Kept.{backing_term, worth_sum_suc, worth_sum_zero, no_worth}
use Rattle.polcert_check.proofs.Horizons.Enumerated.{Contains-runs}

pub pow_one : (n : ℕ) → n ^ 1 ≡ n
pow_one n = rw (pow-suc n 0, pow-zero n) (omega arith)

pub one_step_algebra : (w g r v : ℤ) → w *ℤ ((pos (one ^ 1) *ℤ r) *ℤ pos 1 +ℤ g *ℤ v) ≡ w *ℤ (pos one *ℤ r +ℤ g *ℤ v)
one_step_algebra w g r v = rw (pow_one one, *ℤ_comm (pos one *ℤ r) (pos 1), one-*ℤ _) refl

one_step_term : (c : Controller) (n s e z : ℕ) (at : Option ℕ)
    → pos (step_weight c n s e z) *ℤ ((pos (one ^ 1) *ℤ c.cells.r (c.action n) s e z) *ℤ weights_sum c 0 at e +ℤ pos c.cells.discount
    *ℤ worth_sum c 0 at e) ≡ backing_term c n s e z at
one_step_term c n s e z None = no_worth (pos (step_weight c n s e z)) (pos (one ^ 1) *ℤ c.cells.r (c.action n) s e z) (pos c.cells.discount)
one_step_term c n s e z (Some m) =
    cc (
      worth_sum_zero c m e,
      one_step_algebra (pos (step_weight c n s e z)) (pos c.cells.discount) _
          _,
    )

-- the worth of the runs of one step is what backs the value
pub worth_sum_one : (c : Controller) (n s : ℕ) → worth_sum c 1 (Some n) s ≡ backing c n s
worth_sum_one c n s =
    cc (
      worth_sum_suc c 0 n s,
      sum_below_same _ _ c.cells.states
          (λ e _. sum_below_same _ _ c.cells.observations (λ z _. one_step_term c n s e z (c.next n z))),
    )

pub refused_short : (c : Controller) (n s : ℕ) → pos 0 <ℤ short c n s → Promise c 1 n s → ⊥
refused_short c n s h promise = grind (arith, linear, pow_one, worth_sum_one)

module _ (c : Controller) (n : ℕ) (s : ℕ) (z : ℕ) where
  pub cut_run : z < c.cells.observations → Lacks c n s z → HasCutRun c n s z
  cut_run zl lack =
      let run : List (ℕ × ℕ) = (lack.1.0, z) ∷ [] in
      let is : run_weight c (Some n) s run ≡ step_weight c n s lack.1.0 z * 1 = rw lack.0 refl in
      let some : 0 < step_weight c n s lack.1.0 z = lack.1.2 in
      (lack.1.0, Contains-runs c.cells 1 run refl (lack.1.1, zl, tt), rw lack.0 refl, omega arith)

  pub refused_lacking : z < c.cells.observations → Lacks c n s z → Promise c 1 n s → ⊥
  refused_lacking zl lack promise =
      let (e, among, cut, some) = cut_run zl lack in
      omega (
        arith,
        All-contains (λ u. is_cut c (Some n) u ≡ true → run_weight c (Some n) s u ≡ 0) (runs c.cells 1) ((e, z) ∷ []) promise.cut_runs
            among cut,
        some,
      )

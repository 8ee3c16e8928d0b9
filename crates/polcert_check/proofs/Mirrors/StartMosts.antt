-- The promise from above, from a model's start.
use Rattle.std.proofs.Common.{◌≤ℤ◌}
use Rattle.polcert_check.proofs.Common.{start_sum}
use Rattle.polcert_check.proofs.Common.{Passes}
use Rattle.std.proofs.Common.{◌≡◌, ◌∙◌, ℕ, ◌*◌, ◌<◌, ◌≤◌, ℤ, pos, neg_ℤ, ◌-ℤ◌, ◌*ℤ◌, Some, unsigned_abs, to_z, of_z, w64, refl, ap}
use Rattle.std.proofs.Common.{arith}
use Rattle.polcert_check.proofs.Common.{w128, largest, Meaning, states_of, start_weight, start_total, table_of, PolicyGraph, nodes}
use Rattle.polcert_check.proofs.Common.{PolicyVectors, value_of, Controller, controller_of, total_below, worth_sum, IsController}
use Rattle.polcert_check.proofs.Common.{IsFloorQuotient, IsCeilQuotient, StartPromise, mirrored, Above, IsStartMost}
use Rattle.polcert_check.proofs.Common.{StartPromiseAbove, PassesAbove}
use Rattle.polcert_check.specs.Horizon.{Fits}
use Rattle.polcert_check.proofs.Sums.Ring.{linear, ≤ℤ_trans, neg_product}
use Rattle.polcert_check.proofs.Sums.SumLaws.{sum_below_same}
use Rattle.polcert_check.proofs.Mirrors.FromAbove.{passes_below, le_below}
use Rattle.polcert_check.proofs.Mirrors.Mirrored.{sum_below_neg, mirrored_worth}
use Rattle.polcert_check.proofs.Mirrors.Sides.{sided_proper}
use Rattle.polcert_check.proofs.Horizons.Cuts.{promise_all}
use Rattle.polcert_check.proofs.Horizons.StartSums.{start_all}

module _ (sum : ℤ) (total : ℕ) (q : ℤ) where
  -- ---- a quotient rounded up is that of the negative number rounded down, and back
  pub ceil_is : IsFloorQuotient (neg_ℤ sum) total q → IsCeilQuotient sum total (neg_ℤ q)
  ceil_is h = grind (arith, linear)

  pub floor_is_neg : IsCeilQuotient sum total q → IsFloorQuotient (neg_ℤ sum) total (neg_ℤ q)
  floor_is_neg h = grind arith

-- ---- what the code negates
pub neg_sum_is : (total : ℕ) (sum : ℤ) → total ≤ 1000000 → unsigned_abs sum ≤ total * largest
    → to_z w128 (of_z w128 (pos 0 -ℤ to_z w128 (of_z w128 sum))) ≡ neg_ℤ sum
neg_sum_is total sum few small = grind arith

pub neg_quotient_is : (q : ℤ) → unsigned_abs q ≤ largest → to_z w64 (of_z w64 (pos 0 -ℤ to_z w64 (of_z w64 q))) ≡ neg_ℤ q
neg_quotient_is q small = grind arith

-- ---- the promise: that of the mirror image from below
weighed_turned : (w : ℕ → ℕ) (f g : ℕ → ℤ) (count : ℕ) → ((i : ℕ) → f i ≡ neg_ℤ (g i))
    → total_below (λ i. pos (w i) *ℤ f i) count ≡ neg_ℤ (total_below (λ i. pos (w i) *ℤ g i) count)
weighed_turned w f g count signed_from =
    cc (
      sum_below_same _ _ count
          (λ i _. ap (λ x. pos (w i) *ℤ x) (signed_from i) ∙ neg_product (pos (w i)) (g i)),
      sum_below_neg _ count,
    )

module _ (m : Meaning) (c : Controller) (k n : ℕ) (most : ℤ) where
  worths_turned : total_below (λ s. pos (start_weight m s) *ℤ worth_sum (mirrored c) k (Some n) s) c.cells.states
      ≡ neg_ℤ (total_below (λ s. pos (start_weight m s) *ℤ worth_sum c k (Some n) s) c.cells.states)
  worths_turned = weighed_turned (start_weight m) (worth_sum (mirrored c) k (Some n)) (worth_sum c k (Some n)) c.cells.states
      (mirrored_worth c k (Some n))

  pub start_promise_above : StartPromise m (mirrored c) k n (neg_ℤ most) → StartPromiseAbove m c k n most
  start_promise_above h = grind (arith, worths_turned)

  pub start_promise_below : StartPromiseAbove m c k n most → StartPromise m (mirrored c) k n (neg_ℤ most)
  start_promise_below h = grind (arith, worths_turned)

-- of a graph and vectors that fit the model
pub start_above : (m : Meaning) (graph : PolicyGraph) (v : PolicyVectors) → Fits (table_of m) graph v
    → IsController (controller_of (table_of m) graph v) → PassesAbove (controller_of (table_of m) graph v)
    → (most : ℤ) → IsStartMost m v most → (k n : ℕ) → n < nodes graph → StartPromiseAbove m (controller_of (table_of m) graph v) k n most
start_above m graph v fits proper passes most is k n nl =
    let c : Controller = controller_of (table_of m) graph v in
    let signed_from : IsController (mirrored c) = sided_proper Above c proper in
    let below : Passes (mirrored c) = passes_below c passes in
    let mean : start_sum m v n ≤ℤ (pos (start_total m) *ℤ most) =
    ≤ℤ_trans _ _ _ (is.1.none_greater n (omega (arith, nl, fits.nodes_same))) is.2.0 in
    let mean_below = le_below (pos (start_total m)) most _ _
    (weighed_turned (start_weight m) (λ s. neg_ℤ (value_of v n s)) (value_of v n) (states_of m) (λ s. refl)) mean in
    start_promise_above m c k n most (record {
      cut_runs = λ s sl some. (promise_all (mirrored c) signed_from below k n s nl sl).cut_runs;
      uncut_runs = start_all (mirrored c) signed_from below (start_weight m) (start_total m) (neg_ℤ most) n nl mean_below k;
    })

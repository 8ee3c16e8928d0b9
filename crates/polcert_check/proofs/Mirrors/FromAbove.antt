-- What passes from below in the mirror image passes from above, and its promises are promises from above.
use Rattle.std.proofs.Common.{◌≡◌, ◌∙◌, ℕ, ◌*◌, ◌^◌, ◌<◌, ℤ, pos, neg_ℤ, ◌+ℤ◌, ◌*ℤ◌, ◌≤ℤ◌, IsTrue, Contains, Some, ◌∷◌, [], sym, subst}
use Rattle.std.proofs.Common.{arith}
use Rattle.polcert_check.proofs.Common.{AboveVerdict, Verdict, Yes, Short, NoSuccessor, Above, Controller, one, step_scale, Promise}
use Rattle.polcert_check.proofs.Common.{RewardPromise, MeetsEveryHorizon, MeetsHorizon, HasCutRun, short, PairPasses, Passes}
use Rattle.polcert_check.proofs.Common.{PassesBefore, IsVerdict, NamesSmallAmount, PromiseAbove, RewardPromiseAbove, MeetsHorizonAbove}
use Rattle.polcert_check.proofs.Common.{PassesAbove, IsAboveVerdict, NamesSmallAmountAbove, mirrored, IsController}
use Rattle.polcert_check.specs.Above.{MeetsEveryHorizonAbove, PairPassesAbove, PassesAboveBefore}
use Rattle.polcert_check.specs.Steps.Mirrored.{above_of}
use Rattle.polcert_check.specs.declared.above.AboveVerdict.TheVariants as above
use Rattle.polcert_check.proofs.Horizons.EveryHorizon.{every_horizon, passes_if_promised}
use Rattle.polcert_check.proofs.Sums.Ring.{linear, neg_product}
use Rattle.polcert_check.proofs.Mirrors.Sides.{sided_proper}
use Rattle.polcert_check.proofs.Mirrors.Mirrored.{mirrored_short, mirrored_runs, mirrored_cut, mirrored_weight, mirrored_weights}
use Rattle.polcert_check.proofs.Mirrors.Mirrored.{mirrored_worth, mirrored_earned}

-- ---- numbers
pub le_below : (x v w w' : ℤ) → w' ≡ neg_ℤ w → w ≤ℤ (x *ℤ v) → (x *ℤ neg_ℤ v) ≤ℤ w'
le_below x v w w' e h = omega (arith, linear, neg_product x v)

sum_above : (x v r r' y m : ℤ) → r' ≡ neg_ℤ r → (x *ℤ neg_ℤ v) ≤ℤ (r' +ℤ y *ℤ neg_ℤ m) → (r +ℤ y *ℤ m) ≤ℤ (x *ℤ v)
sum_above x v r r' y m e h = omega (arith, linear, neg_product x v, neg_product y m)

sum_below : (x v r r' y m : ℤ) → r' ≡ neg_ℤ r → (r +ℤ y *ℤ neg_ℤ m) ≤ℤ (x *ℤ v) → (x *ℤ neg_ℤ v) ≤ℤ (r' +ℤ y *ℤ m)
sum_below x v r r' y m e h = omega (arith, linear, neg_product x v, neg_product y m)

module _ (x : ℤ) (y : ℤ) where
  turn_back : y ≤ℤ x → neg_ℤ x ≤ℤ neg_ℤ y
  turn_back h = omega (arith, linear)

  turn_up : neg_ℤ y ≤ℤ x → neg_ℤ x ≤ℤ y
  turn_up h = omega (arith, linear)

  pub turn_short : x ≡ neg_ℤ y → x ≤ℤ pos 0 → pos 0 ≤ℤ y
  turn_short e h = omega (arith, linear)

  pub turn_long : x ≡ neg_ℤ y → pos 0 ≤ℤ y → x ≤ℤ pos 0
  turn_long e h = omega (arith, linear)

module _ (c : Controller) where
  -- ---- pairs
  pub pair_above : (n s : ℕ) → PairPasses (mirrored c) n s → PairPassesAbove c n s
  pair_above n s h = record {
    lacks_none = h.lacks_none;
    not_long =
        turn_short (short (mirrored c) n s) (short c n s) (mirrored_short c n s) h.not_short;
  }

  pub pair_below : (n s : ℕ) → PairPassesAbove c n s → PairPasses (mirrored c) n s
  pair_below n s h = record {
    lacks_none = h.lacks_none;
    not_short =
        turn_long (short (mirrored c) n s) (short c n s) (mirrored_short c n s) h.not_long;
  }

  pub passes_above : Passes (mirrored c) → PassesAbove c
  passes_above h = λ n s nl sl. pair_above n s (h n s nl sl)

  pub passes_below : PassesAbove c → Passes (mirrored c)
  passes_below h = λ n s nl sl. pair_below n s (h n s nl sl)

  before_above : (n s : ℕ) → PassesBefore (mirrored c) n s → PassesAboveBefore c n s
  before_above n s h = λ m t ml tl b. pair_above m t (h m t ml tl b)

  before_below : (n s : ℕ) → PassesAboveBefore c n s → PassesBefore (mirrored c) n s
  before_below n s h = λ m t ml tl b. pair_below m t (h m t ml tl b)

-- the verdict on the mirror image that says this from above
abbrev pub below_of : AboveVerdict → Verdict
below_of above.Yes = Yes
below_of (above.Long n s amount) = Short n s amount
below_of (above.NoSuccessor n s z) = NoSuccessor n s z

pub above_again : (v : AboveVerdict) → above_of (below_of v) ≡ v
above_again v = grind arith

module _ (c : Controller) where
  pub verdict_above : (v : Verdict) → IsVerdict (mirrored c) v → IsAboveVerdict c (above_of v)
  verdict_above Yes h = passes_above c h
  verdict_above (Short n s amount) h = (h.0, h.1, before_above c n s h.2, h.3, h.4 ∙ mirrored_short c n s, h.5)
  verdict_above (NoSuccessor n s z) h = (h.0, h.1, before_above c n s h.2, h.3)

  pub verdict_below : (v : AboveVerdict) → IsAboveVerdict c v → IsVerdict (mirrored c) (below_of v)
  verdict_below above.Yes h = passes_below c h
  verdict_below (above.Long n s amount) h = (h.0, h.1, before_below c n s h.2, h.3, h.4 ∙ sym (mirrored_short c n s), h.5)
  verdict_below (above.NoSuccessor n s z) h = (h.0, h.1, before_below c n s h.2, h.3)

  pub small_above : (v : Verdict) → NamesSmallAmount (mirrored c) v → NamesSmallAmountAbove c (above_of v)
  small_above v h1 = grind arith

  -- ---- promises
  pub promise_above : (k n s : ℕ) → Promise (mirrored c) k n s → PromiseAbove c k n s
  promise_above k n s h = grind (arith, mirrored_worth)

  pub promise_below : (k n s : ℕ) → PromiseAbove c k n s → Promise (mirrored c) k n s
  promise_below k n s h = grind (arith, mirrored_worth)

  pub rewards_above : (k n s : ℕ) → RewardPromise (mirrored c) k n s → RewardPromiseAbove c k n s
  rewards_above k n s h = record {
    weights = sym (mirrored_weights c k (Some n) s) ∙ h.weights;
    rewarded = λ m least. sum_above (pos (step_scale c ^ k * one ^ k)) (c.value n s) _ _ (pos (c.cells.discount ^ k * step_scale c ^ k)) m
        (mirrored_earned c k (Some n) s) (h.rewarded (neg_ℤ m) (λ n s nl sl. turn_back (c.value n s) m (least n s nl sl)));
  }

  pub rewards_below : (k n s : ℕ) → RewardPromiseAbove c k n s → RewardPromise (mirrored c) k n s
  rewards_below k n s h = record {
    weights = mirrored_weights c k (Some n) s ∙ h.weights;
    rewarded = λ m most. sum_below (pos (step_scale c ^ k * one ^ k)) (c.value n s) _ _ (pos (c.cells.discount ^ k * step_scale c ^ k)) m
        (mirrored_earned c k (Some n) s) (h.rewarded (neg_ℤ m) (λ n s nl sl. turn_up m (c.value n s) (most n s nl sl)));
  }

  pub every_horizon_above : MeetsEveryHorizon (mirrored c) → MeetsEveryHorizonAbove c
  every_horizon_above h = λ k n s nl sl. let both = h k n s nl sl in (promise_above k n s both.0, rewards_above k n s both.1)

  cut_run_turned : (n s z : ℕ) → HasCutRun (mirrored c) n s z ≡ HasCutRun c n s z
  cut_run_turned n s z = λ i. (e : ℕ) × Contains (mirrored_runs c 1 i) ((e, z) ∷ []) × IsTrue (mirrored_cut c (Some n) ((e, z) ∷ []) i)
      × (0 < mirrored_weight c (Some n) s ((e, z) ∷ []) i)

  every_horizon_below : MeetsEveryHorizonAbove c → MeetsEveryHorizon (mirrored c)
  every_horizon_below h = λ k n s nl sl. let both = h k n s nl sl in (promise_below k n s both.0, rewards_below k n s both.1)

  pub horizon_above : (v : Verdict) → MeetsHorizon (mirrored c) v → MeetsHorizonAbove c (above_of v)
  horizon_above Yes h = every_horizon_above h
  horizon_above (Short n s amount) h = λ p. h (promise_below 1 n s p)
  horizon_above (NoSuccessor n s z) h = ((λ p. h.0 (promise_below 1 n s p)), subst (λ (T : Type 0). T) (cut_run_turned n s z) h.1)

  pub horizon_below : (v : AboveVerdict) → MeetsHorizonAbove c v → MeetsHorizon (mirrored c) (below_of v)
  horizon_below above.Yes h = every_horizon_below h
  horizon_below (above.Long n s amount) h = λ p. h (promise_above 1 n s p)
  horizon_below (above.NoSuccessor n s z) h = (
    (λ p. h.0 (promise_above 1 n s p)),
    subst (λ (T : Type 0). T)
        (sym (cut_run_turned n s z)) h.1,
  )

  -- ---- where every pair passes, and only there
  pub horizons_above : IsController c → PassesAbove c → MeetsEveryHorizonAbove c
  horizons_above p h = every_horizon_above (every_horizon (mirrored c) (sided_proper Above c p) (passes_below c h))

  pub passes_if_promised_above : (n s : ℕ) → PromiseAbove c 1 n s → PairPassesAbove c n s
  passes_if_promised_above n s h = pair_above c n s (passes_if_promised (mirrored c) n s (promise_below 1 n s h))

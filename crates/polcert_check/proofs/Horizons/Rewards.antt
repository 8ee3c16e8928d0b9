-- The rewards of the uncut runs, without the vectors at their ends.
use Rattle.std.proofs.Common.{All}
use Rattle.std.proofs.Common.{◌≡◌, ℕ, ◌*◌, ◌^◌, ◌<◌, ℤ, pos, ◌+ℤ◌, ◌*ℤ◌, ◌≤ℤ◌, true, not, List, [], ◌∷◌, Option, Some, sym, refl, arith}
use Rattle.std.proofs.Common.{length}
use Rattle.std.proofs.lemmas.List.Elements.{All-filter, filter_passes}
use Rattle.polcert_check.proofs.Common.{sum_over, Controller, one, step_scale, AtMost, runs, is_cut, run_weight, end_value, reward_part}
use Rattle.polcert_check.proofs.Common.{uncut}
use Rattle.polcert_check.proofs.Common.{worth_sum, rewards_sum, RewardPromise, IsRunInRange, Passes, IsController}
use Rattle.polcert_check.proofs.Sums.Ring.{linear, mul_le, *ℤ_assoc}
use Rattle.polcert_check.proofs.Sums.SumLaws.{sum_over_times, sum_over_parts, sum_over_le_all}
use Rattle.polcert_check.proofs.Horizons.Kept.{weights_all, worth_all, LacksNone-from_Passes}
use Rattle.polcert_check.proofs.Horizons.Enumerated.{All-runs}

module _ (c : Controller) where
  end_after : (m : ℤ) (run : List (ℕ × ℕ)) (n e z : ℕ)
      → ((i : ℕ) → c.next n z ≡ Some i → not (is_cut c (Some i) run) ≡ true → end_value c (Some i) e run ≤ℤ m) → (at : Option ℕ)
      → c.next n z ≡ at → not (is_cut c at run) ≡ true → end_value c at e run ≤ℤ m
  end_after m run n e z h1 at h2 h3 = grind arith

  end_value_le : IsController c → (m : ℤ) → AtMost c m → (run : List (ℕ × ℕ)) (n s : ℕ) → n < c.nodes
      → s < c.cells.states
      → IsRunInRange c.cells run → not (is_cut c (Some n) run) ≡ true → end_value c (Some n) s run ≤ℤ m
  end_value_le p m most [] n s nl sl f u = most n s nl sl
  end_value_le p m most (q ∷ run) n s nl sl f u =
      end_after m run n q.0 q.1 (λ i is. end_value_le p m most run i q.0 (p.closed.next_in_range n q.1 i nl f.1 is) f.0 f.2)
      (c.next n q.1) refl u

values_sum : Controller → ℕ → Option ℕ → ℕ → ℤ
values_sum c k at s = sum_over (λ run. pos (run_weight c at s run) *ℤ end_value c at s run) (uncut c k at)

module _ (c : Controller) where
  worth_parts : (k : ℕ) (at : Option ℕ) (s : ℕ)
      → worth_sum c k at s ≡ rewards_sum c k at s +ℤ pos (c.cells.discount ^ k) *ℤ values_sum c k at s
  unfolding values_sum
  worth_parts k at s = sum_over_parts (pos (c.cells.discount ^ k)) (λ run. pos (run_weight c at s run)) (reward_part c k at s)
      (end_value c at s) (uncut c k at)

  values_le : IsController c → Passes c → (m : ℤ) → AtMost c m → (k n s : ℕ) → n < c.nodes → s < c.cells.states
      → values_sum c k (Some n) s ≤ℤ (pos (step_scale c ^ k) *ℤ m)
  unfolding values_sum
  values_le p passes m most k n s nl sl =
      let P = λ (run : List (ℕ × ℕ)). (length run ≡ k) × IsRunInRange c.cells run in
      let uncut_run = λ (run : List (ℕ × ℕ)). not (is_cut c (Some n) run) in
      let among : All P (uncut c k (Some n)) = All-filter uncut_run P (runs c.cells k) (All-runs c.cells k) in
      let kept : All (λ run. uncut_run run ≡ true) (uncut c k (Some n)) = filter_passes uncut_run (runs c.cells k) in
      rw (
        sym (weights_all c p (LacksNone-from_Passes c passes) k n s nl sl),
        sym
            (sum_over_times m (λ run. pos (run_weight c (Some n) s run)) (uncut c k (Some n))),
      )
      (sum_over_le_all (λ run. P run × (uncut_run run ≡ true)) _ _ (uncut c k (Some n))
      (λ run f. mul_le (run_weight c (Some n) s run) _ _ (end_value_le c p m most run n s nl sl f.0.1 f.1))
      (λ i d l. (among i d l, kept i d l)))

  rewarded_all : IsController c → Passes c → (m : ℤ) → AtMost c m → (k n s : ℕ) → n < c.nodes → s < c.cells.states
      → (pos (step_scale c ^ k * one ^ k) *ℤ c.value n s) ≤ℤ
      (rewards_sum c k (Some n) s +ℤ pos (c.cells.discount ^ k * step_scale c ^ k) *ℤ m)
  rewarded_all p passes m most k n s nl sl =
      let h : ℕ = c.cells.discount ^ k in
      let q : ℕ = step_scale c ^ k in
      let backed : (pos (q * one ^ k) *ℤ c.value n s) ≤ℤ worth_sum c k (Some n) s = worth_all c p passes k n s nl sl in
      omega (
        arith,
        linear,
        sym (*ℤ_assoc (pos h) (pos q) m),
        mul_le h _ _ (values_le p passes m most k n s nl sl),
        worth_parts k (Some n)
            s,
      )

  pub rewards_all : IsController c → Passes c → (k n s : ℕ) → n < c.nodes → s < c.cells.states → RewardPromise c k n s
  rewards_all p passes k n s nl sl =
      record {
        weights = weights_all c p (LacksNone-from_Passes c passes) k n s nl sl;
        rewarded = λ m most. rewarded_all p passes m most k n s nl sl;
      }

-- What a controller earns that lacks no observation, its policy earns.
use Rattle.std.proofs.Common.{◌≡◌, ℕ, zero, suc, ◌^◌, ◌<◌, ℤ, pos, ◌+ℤ◌, ◌*ℤ◌, [], ◌∷◌, Option, Some, None, refl, sym, ap, ◌∙◌}
use Rattle.std.proofs.Common.{rules}
use Rattle.polcert_optimum.proofs.Common.{zero-*ℤ, Controller, one, total_below, IsRunInRange, IsController, History, Policy}
use Rattle.polcert_optimum.proofs.Common.{as_policy, IsPolicyOf, after, discounted_rewards, step_weight, total_weight}
use Rattle.polcert_optimum.proofs.Common.{expected_total, expected_rewards, graph_policy, EarnsAsItsPolicy}
use Rattle.std.proofs.Math.IntN.{+ℤ_idr, *ℤ-zero}
use Rattle.polcert_check.specs.Horizon.{run_weight}
use Rattle.polcert_check.specs.Horizon as horizon
use Rattle.polcert_check.proofs.Sums.SumLaws.{sum_below_same, sum_over_same, sum_over_factor}
use Rattle.polcert_check.proofs.Horizons.Runs.{sum_over_uncut, reward_part_cons}
use Rattle.polcert_check.proofs.Horizons.Kept.{LacksNone, no_weight}
use Rattle.polcert_check.proofs.Horizons.Kept as kept
use Rattle.polcert_optimum.proofs.Steps.{expected_total_suc}
use Rattle.polcert_optimum.proofs.Bounded.{weights_all}

-- ---- the rewards of k + 1 steps, split at the first step
no_end : (x r h : ℤ) → x *ℤ (r +ℤ h *ℤ pos 0) ≡ x *ℤ r
no_end x r h = rw (*ℤ-zero h) (cc (+ℤ_idr r))

-- a policy's rewards are its totals where every history ends at 0
rewards_are : (c : Controller) (policy : Policy) (k s : ℕ)
    → expected_total c.cells (λ history. pos 0) policy k s ≡ expected_rewards c.cells policy k s
rewards_are c policy k s = sum_over_same _ _ _ (λ history. no_end (pos _) (discounted_rewards c.cells _ k s _) (pos _))

policy_rewards_suc : (c : Controller) (policy : Policy) (k s : ℕ)
    → expected_rewards c.cells policy (suc k) s ≡ total_below
    (λ e. total_below (λ z. pos (step_weight c.cells (policy []) s e z)
    *ℤ ((pos (one ^ suc k) *ℤ c.cells.r (policy []) s e z) *ℤ total_weight c.cells (after policy (e, z)) k e +ℤ pos c.cells.discount
    *ℤ expected_rewards c.cells (after policy (e, z)) k e)) c.cells.observations) c.cells.states
policy_rewards_suc c policy k s =
    sym (rewards_are c _ (suc k) s)
    ∙ expected_total_suc c.cells (λ history. pos 0) _ k s
    ∙ sum_below_same _ _ c.cells.states (λ e _. sum_below_same _ _ c.cells.observations (λ z _.
    ap (λ (x : ℤ). pos (step_weight c.cells (policy []) s e z)
    *ℤ ((pos (one ^ suc k) *ℤ c.cells.r (policy []) s e z) *ℤ total_weight c.cells (after policy (e, z)) k e +ℤ pos c.cells.discount
    *ℤ x)) (rewards_are c _ k e)))

-- ---- it is a policy
module _ (c : Controller) (p : IsController c) (some : 0 < c.cells.actions) where
  known_at : (history : History) (at : Option ℕ) → ((m : ℕ) → at ≡ Some m → m < c.nodes) → IsRunInRange c.cells history
      → as_policy (graph_policy c at) history < c.cells.actions
  known_at [] (Some n) node f = p.closed.actions_in_range n (node n refl)
  known_at (q ∷ history) (Some n) node f = known_at history _ (λ m. p.closed.next_in_range n q.1 m (node n refl) f.1) f.2
  known_at _ None node f = some

  pub is_policy : (n : ℕ) → n < c.nodes → IsPolicyOf c.cells (as_policy (graph_policy c (Some n)))
  is_policy n nl history f = known_at _ _ node_is f
    where
      node_is : (m : ℕ) → Some n ≡ Some m → m < c.nodes
      node_is m is = let same : n ≡ m = cc in rw (← same) nl

  -- ---- and earns as much
  module _ (fine : LacksNone c) where
    abbrev policy_at : Option ℕ → Policy
    policy_at at = as_policy (graph_policy c at)

    same_term : (k n s e z : ℕ) → n < c.nodes → s < c.cells.states → e < c.cells.states → z < c.cells.observations
        → ((m : ℕ) → m < c.nodes → horizon.rewards_sum c k (Some m) e ≡ expected_rewards c.cells (policy_at (Some m)) k e) → (at : Option ℕ)
        → c.next n z ≡ at
        → pos (horizon.step_weight c n s e z) *ℤ ((pos (one ^ suc k) *ℤ c.cells.r (c.action n) s e z) *ℤ horizon.weights_sum c k at e
        +ℤ pos c.cells.discount *ℤ horizon.rewards_sum c k at e) ≡ pos (horizon.step_weight c n s e z)
        *ℤ ((pos (one ^ suc k) *ℤ c.cells.r (c.action n) s e z) *ℤ total_weight c.cells (policy_at at) k e +ℤ pos c.cells.discount
        *ℤ expected_rewards c.cells (policy_at at) k e)
    same_term k n s e z nl sl el zl before None is = search (rules, zero-*ℤ, no_weight)
    same_term k n s e z nl sl el zl before (Some m) is =
        let ml = p.closed.next_in_range n z m nl zl is in
        let w : ℤ = pos (horizon.step_weight c n s e z) in
        let a : ℤ = pos (one ^ suc k) *ℤ c.cells.r (c.action n) s e z in
        let g : ℤ = pos c.cells.discount in
        cc (
          kept.weights_all c p fine k m e ml el ∙ sym (weights_all _ p.cells k _ (is_policy m ml) e el),
          before m ml,
        )

    same_rewards : (k n s : ℕ) → n < c.nodes → s < c.cells.states
        → horizon.rewards_sum c k (Some n) s ≡ expected_rewards c.cells (policy_at (Some n)) k s
    same_rewards zero n s nl sl = refl
    same_rewards (suc k) n s nl sl =
        sum_over_uncut c k n _ ∙ sum_below_same _ _ c.cells.states
        (λ e _. sum_below_same _ _ c.cells.observations (λ z _. sum_over_factor (pos _) _ (pos _) (λ run. pos _) _ _ _
        (λ run. ap (λ (y : ℤ). pos (run_weight c (Some n) s ((e, z) ∷ run)) *ℤ y) (reward_part_cons c k n s e z run))))
        ∙ sum_below_same _ _ _ (λ e el. sum_below_same _ _ _ (λ z zl.
        same_term k n s e z nl sl el zl (λ m ml. same_rewards k m e ml el) _ refl))
        ∙ sym (policy_rewards_suc c _ k s)

    pub earns_as_policy : (n : ℕ) → n < c.nodes → EarnsAsItsPolicy c n
    earns_as_policy n nl = record { is_policy = is_policy n nl; earns = λ k s. same_rewards k n s nl }

-- The promise holds for every number of steps where every pair passes.
use Rattle.polcert_check.proofs.Common.{total, uncut}
use Rattle.std.proofs.Common.{◌≡◌, ℕ, zero, suc, ◌*◌, ◌^◌, ◌<◌, ℤ, pos, ◌+ℤ◌, ◌-ℤ◌, ◌*ℤ◌, ◌≤ℤ◌, ◌∷◌, Option, Some, None, sym, refl, ap, ◌∙◌}
use Rattle.std.proofs.Common.{arith, rules}
use Rattle.polcert_check.proofs.Common.{*ℤ_comm, +ℤ_idl, +ℤ_idr, *ℤ-zero, pow-zero, CellTable, IsProper, total_below, Controller, one}
use Rattle.polcert_check.proofs.Common.{step_weight, step_scale, run_weight, weights_sum, worth_sum, at_node, Lacks, Passes}
use Rattle.polcert_check.proofs.Common.{IsController}
use Rattle.std.proofs.Math.Nat.{pow-suc}
use Rattle.polcert_check.proofs.Sums.Ring.{linear, products, mul_le, ≤ℤ_trans, ≤ℤ_from_eq, one-*ℤ}
use Rattle.polcert_check.proofs.Sums.SumLaws.{sum_below_same, sum_below_le, sum_below_scale, sum_over_scale, sum_over_factor}
use Rattle.polcert_check.proofs.Sums.RowTotals.{t_rows, o_rows}
use Rattle.polcert_check.proofs.Horizons.Runs.{sum_over_uncut, uncut_none, total_cons}

module _ (c : Controller) (k : ℕ) (n : ℕ) (s : ℕ) where
  -- ---- the two sums, split at the first step
  pub weights_sum_suc : weights_sum c (suc k) (Some n) s
      ≡ total_below (λ e. total_below (λ z. pos (step_weight c n s e z) *ℤ weights_sum c k (c.next n z) e) c.cells.observations)
      c.cells.states
  weights_sum_suc = search (rules, sum_below_same, sum_over_scale, sum_over_uncut)

  pub worth_sum_suc : worth_sum c (suc k) (Some n) s
      ≡ total_below (λ e. total_below (λ z. pos (step_weight c n s e z)
      *ℤ ((pos (one ^ suc k) *ℤ c.cells.r (c.action n) s e z) *ℤ weights_sum c k (c.next n z) e +ℤ pos c.cells.discount
      *ℤ worth_sum c k (c.next n z) e)) c.cells.observations) c.cells.states
  worth_sum_suc =
      sum_over_uncut c k n (λ run. pos (run_weight c (Some n) s run) *ℤ total c (suc k) (Some n) s run)
      ∙ sum_below_same _ _ c.cells.states (λ e _. sum_below_same _ _ c.cells.observations (λ z _.
      sum_over_factor (pos (step_weight c n s e z)) (pos (one ^ suc k) *ℤ c.cells.r (c.action n) s e z) (pos c.cells.discount)
      (λ run. pos (run_weight c (c.next n z) e run)) (λ run. total c k (c.next n z) e run) _ (uncut c k (c.next n z))
      (λ run. ap (λ (y : ℤ). pos (run_weight c (Some n) s ((e, z) ∷ run)) *ℤ y) (total_cons c k n s e z run))))

-- ---- the weights of one step sum to the scale
pub step_weights_total : (t : CellTable) → IsProper t → (a s : ℕ) → a < t.actions → s < t.states
    → total_below (λ e. total_below (λ z. pos (t.t a s e * t.o a e z)) t.observations) t.states ≡ pos (t.t_scale * t.o_scale)
step_weights_total t p a s al sl =
    let scale = pos t.o_scale in
    sum_below_same _ _ _ (λ e el.
    sum_below_scale (pos (t.t a s e)) _ t.observations
    ∙ ap (λ x. pos (t.t a s e) *ℤ x) (o_rows t p a e al el)
    ∙ *ℤ_comm (pos (t.t a s e)) scale)
    ∙ sum_below_scale scale _ t.states
    ∙ ap (λ x. scale *ℤ x) (t_rows t p a s al sl)
    ∙ *ℤ_comm scale (pos t.t_scale)

pub step_weights_sum : (c : Controller) → IsController c → (n s : ℕ) → n < c.nodes → s < c.cells.states
    → total_below (λ e. total_below (λ z. pos (step_weight c n s e z)) c.cells.observations) c.cells.states ≡ pos (step_scale c)
step_weights_sum c p n s nl sl = step_weights_total c.cells p.cells _ s (p.closed.actions_in_range n nl) sl

-- a constant factor leaves both sums
pub sum_twice_scale : (a : ℤ) (f : ℕ → ℕ → ℤ) (m n : ℕ)
    → total_below (λ e. total_below (λ z. a *ℤ f e z) m) n ≡ a *ℤ total_below (λ e. total_below (λ z. f e z) m) n
sum_twice_scale a f m n =
    cc (
      sum_below_same _ _ n (λ e _. sum_below_scale a (f e) m),
      sum_below_scale a
          _ n,
    )

-- ---- where no pair lacks an observation
abbrev pub LacksNone : Controller → Type 0
LacksNone c = (n s z : ℕ) → n < c.nodes → s < c.cells.states → z < c.cells.observations → Lacks c n s z → ⊥

module _ (c : Controller) where
  pub no_weight : (n s e z : ℕ) → (Lacks c n s z → ⊥) → e < c.cells.states → c.next n z ≡ None → step_weight c n s e z ≡ 0
  no_weight n s e z fine el is_none = grind arith

  pub weights_sum_zero : (n s : ℕ) → weights_sum c 0 (Some n) s ≡ pos 1
  weights_sum_zero n s = refl

  weights_after : (k n s e z : ℕ) (q : ℤ) → (Lacks c n s z → ⊥) → e < c.cells.states
      → ((m : ℕ) → c.next n z ≡ Some m → weights_sum c k (Some m) e ≡ q) → (at : Option ℕ) → c.next n z ≡ at
      → pos (step_weight c n s e z) *ℤ weights_sum c k at e ≡ pos (step_weight c n s e z) *ℤ q
  weights_after k n s e z q h1 h2 h3 at h4 = grind arith

  -- the weights of the uncut runs of k steps sum to their scale
  pub weights_all : IsController c → LacksNone c → (k n s : ℕ) → n < c.nodes → s < c.cells.states
      → weights_sum c k (Some n) s ≡ pos (step_scale c ^ k)
  weights_all p fine zero n s nl sl = weights_sum_zero n s ∙ ap pos (sym (pow-zero _))
  weights_all p fine (suc k) n s nl sl =
      let q = pos (step_scale c ^ k) in
      weights_sum_suc c k n s
      ∙ sum_below_same _ _ _ (λ e el. sum_below_same _ _ _ (λ z zl.
      weights_after k n s e z q (fine n s z nl sl zl) el (λ m is. weights_all p fine k m e (p.closed.next_in_range n z m nl zl is) el)
      (c.next n z) refl
      ∙ *ℤ_comm (pos (step_weight c n s e z)) q))
      ∙ sum_twice_scale q _ c.cells.observations c.cells.states
      ∙ ap (λ x. q *ℤ x) (step_weights_sum c p n s nl sl)
      ∙ ap pos (sym (pow-suc _ k))

-- ---- where each pair passes
pub no_worth : (x a g : ℤ) → x *ℤ (a *ℤ pos 0 +ℤ g *ℤ pos 0) ≡ pos 0
no_worth x a g = rw (*ℤ-zero a, *ℤ-zero g) (*ℤ-zero x)

keeps_algebra : (q h u w r g v : ℤ) → (q *ℤ h) *ℤ (w *ℤ (u *ℤ r +ℤ g *ℤ v)) ≡ w *ℤ (((h *ℤ u) *ℤ r) *ℤ q +ℤ g *ℤ ((q *ℤ h) *ℤ v))
keeps_algebra q h u w r g v = simp products

-- what a step with v after it backs, on the scale of k + 1 steps
pub keeps_step : (q k w g : ℕ) (r v : ℤ) → pos (q * one ^ k) *ℤ (pos w *ℤ (pos one *ℤ r +ℤ pos g *ℤ v)) ≡ pos w
    *ℤ ((pos (one ^ suc k) *ℤ r) *ℤ pos q +ℤ pos g *ℤ (pos (q * one ^ k) *ℤ v))
keeps_step q k w g r v =
    cc (keeps_algebra (pos q) (pos (one ^ k)) (pos one) (pos w) r (pos g) v, pow-suc one k)

abbrev pub backing_term : Controller → ℕ → ℕ → ℕ → ℕ → Option ℕ → ℤ
backing_term c n s e z at = at_node (λ m. pos (step_weight c n s e z)
    *ℤ (pos one *ℤ c.cells.r (c.action n) s e z +ℤ pos c.cells.discount *ℤ c.value m e)) at

worth_after : (c : Controller) (k n s e z : ℕ) → ((m : ℕ) → c.next n z ≡ Some m → (weights_sum c k (Some m) e ≡ pos (step_scale c ^ k))
    × ((pos (step_scale c ^ k * one ^ k) *ℤ c.value m e) ≤ℤ worth_sum c k (Some m) e)) → (at : Option ℕ) → c.next n z ≡ at
    → (pos (step_scale c ^ k * one ^ k) *ℤ backing_term c n s e z at) ≤ℤ
    (pos (step_weight c n s e z) *ℤ ((pos (one ^ suc k) *ℤ c.cells.r (c.action n) s e z) *ℤ weights_sum c k at e +ℤ pos c.cells.discount
    *ℤ worth_sum c k at e))
worth_after c k n s e z before None is = grind (arith, uncut_none)
worth_after c k n s e z before (Some m) is =
    rw (
      keeps_step (step_scale c ^ k) k (step_weight c n s e z) c.cells.discount (c.cells.r (c.action n) s e z)
          (c.value m e),
      (before m is).0,
    )
    (mul_le (step_weight c n s e z) _ _ (omega (arith, linear, mul_le c.cells.discount _ _ (before m is).1)))

pub LacksNone-from_Passes : (c : Controller) → Passes c → LacksNone c
LacksNone-from_Passes c passes n s z nl sl zl = (passes n s nl sl).lacks_none z zl

scale_algebra : (q h u t v : ℤ) → (((q *ℤ t) *ℤ (h *ℤ u)) *ℤ v) ≡ (q *ℤ h) *ℤ ((t *ℤ u) *ℤ v)
scale_algebra q h u t v = simp products

pub scale_suc : (q k : ℕ) (v : ℤ) → pos (q ^ suc k * one ^ suc k) *ℤ v ≡ pos (q ^ k * one ^ k) *ℤ (pos (q * one) *ℤ v)
scale_suc q k v = rw (pow-suc q k, pow-suc one k) (scale_algebra (pos (q ^ k)) (pos (one ^ k)) (pos one) (pos q) v)

pub not_short_is : (a b : ℤ) → (a -ℤ b) ≤ℤ pos 0 → a ≤ℤ b
not_short_is a b h = omega (arith, linear)

pub base_algebra : (v : ℤ) → pos 1 *ℤ (pos 0 +ℤ pos 1 *ℤ v) +ℤ pos 0 ≡ v
base_algebra v = rw (one-*ℤ v, +ℤ_idl v, one-*ℤ v) (+ℤ_idr v)

module _ (c : Controller) where
  pub worth_sum_zero : (n s : ℕ) → worth_sum c 0 (Some n) s ≡ c.value n s
  worth_sum_zero n s = ap (λ x. pos 1 *ℤ (pos 0 +ℤ pos x *ℤ c.value n s) +ℤ pos 0) (pow-zero _)
      ∙ base_algebra _

  -- the worth of the uncut runs of k steps backs the vector's value
  pub worth_all : IsController c → Passes c → (k n s : ℕ) → n < c.nodes → s < c.cells.states
      → (pos (step_scale c ^ k * one ^ k) *ℤ c.value n s) ≤ℤ worth_sum c k (Some n) s
  worth_all p passes zero n s nl sl = grind (arith, pow-zero)
  worth_all p passes (suc k) n s nl sl =
      let x : ℕ = step_scale c ^ k * one ^ k in
      rw (scale_suc (step_scale c) k (c.value n s), worth_sum_suc c k n s)
      (≤ℤ_trans _ _ _ (mul_le x _ _ (not_short_is _ _ (passes n s nl sl).not_short))
      (≤ℤ_trans _ _ _ (≤ℤ_from_eq _ _ (sym (sum_twice_scale (pos x) (λ e z. backing_term c n s e z (c.next n z)) c.cells.observations
      c.cells.states)))
      (sum_below_le _ _ c.cells.states (λ e el. sum_below_le _ _ c.cells.observations (λ z zl. worth_after c k n s e z
      (λ m is. let ml : m < c.nodes = p.closed.next_in_range n z m nl zl is in
      (weights_all c p (LacksNone-from_Passes c passes) k m e ml el, worth_all p passes k m e ml el)) (c.next n z) refl)))))

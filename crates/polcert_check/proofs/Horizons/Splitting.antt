-- The backing of a pair, from what its action earns and what its node expects.
use Rattle.std.proofs.Common.{◌≡◌, ℕ, ◌<◌, ℤ, pos, ◌+ℤ◌, ◌*ℤ◌, Option, Some, None, refl, ap, ◌∙◌, arith}
use Rattle.polcert_check.proofs.Common.{*ℤ-zero, Controller, one, total_below, step_weight, at_node, backing, IsLeastLacking}
use Rattle.polcert_check.proofs.Common.{factored_reward, value_term, factored_value_at_end, factored_value, followed}
use Rattle.polcert_check.proofs.Sums.Ring.{products, *ℤ_assoc}
use Rattle.polcert_check.proofs.Sums.SumLaws.{sum_below_same, sum_below_scale, sum_below_add}
use Rattle.polcert_check.proofs.Horizons.Kept.{backing_term}

sum_split : (u g : ℤ) (x y : ℕ → ℤ) (n : ℕ) → total_below (λ i. u *ℤ x i +ℤ g *ℤ y i) n ≡ u *ℤ total_below x n +ℤ g *ℤ total_below y n
sum_split u g x y n =
    cc (sum_below_add (λ i. u *ℤ x i) (λ i. g *ℤ y i) n, sum_below_scale u x n, sum_below_scale g y n)

term_algebra : (t o u g r v : ℤ) → (t *ℤ o) *ℤ (u *ℤ r +ℤ g *ℤ v) ≡ u *ℤ (t *ℤ (o *ℤ r)) +ℤ g *ℤ (t *ℤ (o *ℤ v))
term_algebra t o u g r v = simp products

nothing_algebra : (t o u g r : ℤ) → (t *ℤ o) *ℤ r ≡ pos 0 → pos 0 ≡ u *ℤ (t *ℤ (o *ℤ r)) +ℤ g *ℤ (t *ℤ pos 0)
nothing_algebra t o u g r none = grind (arith, *ℤ-zero, *ℤ_assoc)

-- the reward counts as in the backing: where there is no successor it adds nothing
abbrev IsCounted : Controller → ℕ → ℕ → ℕ → ℕ → ℤ → Option ℕ → Type 0
IsCounted c n s e z reward None = pos (step_weight c n s e z) *ℤ reward ≡ pos 0
IsCounted c n s e z reward (Some m) = reward ≡ c.cells.r (c.action n) s e z

-- rewards that count so, added up
abbrev earned : Controller → ℕ → ℕ → (ℕ → ℕ → ℤ) → ℤ
earned c n s rewards = total_below (λ e. pos (c.cells.t (c.action n) s e)
    *ℤ total_below (λ z. pos (c.cells.o (c.action n) e z) *ℤ rewards e z) c.cells.observations) c.cells.states

module _ (c : Controller) (n s : ℕ) (rewards : ℕ → ℕ → ℤ)
    (counted : (e z : ℕ) → e < c.cells.states → z < c.cells.observations → (at : Option ℕ) → c.next n z ≡ at
    → IsCounted c n s e z (rewards e z) at) where
  term_split : (e z : ℕ) (at : Option ℕ) → IsCounted c n s e z (rewards e z) at
      → backing_term c n s e z at ≡ pos one *ℤ (pos (c.cells.t (c.action n) s e) *ℤ (pos (c.cells.o (c.action n) e z) *ℤ rewards e z))
      +ℤ pos c.cells.discount *ℤ (pos (c.cells.t (c.action n) s e) *ℤ value_term c n e z at)
  term_split e z None is = nothing_algebra (pos (c.cells.t (c.action n) s e)) (pos (c.cells.o (c.action n) e z)) (pos one)
      (pos c.cells.discount) (rewards e z) is
  term_split e z (Some m) is =
      rw is (term_algebra (pos (c.cells.t (c.action n) s e)) (pos (c.cells.o (c.action n) e z)) (pos one) (pos c.cells.discount)
      (c.cells.r (c.action n) s e z) (c.value m e))

  row_split : (e : ℕ) → e < c.cells.states
      → total_below (λ z. backing_term c n s e z (c.next n z)) c.cells.observations ≡ pos one
      *ℤ (pos (c.cells.t (c.action n) s e) *ℤ total_below (λ z. pos (c.cells.o (c.action n) e z) *ℤ rewards e z) c.cells.observations)
      +ℤ pos c.cells.discount *ℤ (pos (c.cells.t (c.action n) s e) *ℤ factored_value_at_end c n e)
  row_split e el =
      let t : ℤ = pos (c.cells.t (c.action n) s e) in
      let earns = λ (z : ℕ). pos (c.cells.o (c.action n) e z) *ℤ rewards e z in
      let expected = λ (z : ℕ). value_term c n e z (c.next n z) in
      sum_below_same _ (λ z. pos one *ℤ (t *ℤ earns z) +ℤ pos c.cells.discount *ℤ (t *ℤ expected z)) c.cells.observations
      (λ z zl. term_split e z (c.next n z) (counted e z el zl (c.next n z) refl))
      ∙ sum_split (pos one) (pos c.cells.discount) (λ z. t *ℤ earns z) (λ z. t *ℤ expected z) c.cells.observations
      ∙ ap (λ (k : ℤ). pos one *ℤ k +ℤ pos c.cells.discount *ℤ total_below (λ z. t *ℤ expected z) c.cells.observations)
      (sum_below_scale t earns c.cells.observations)
      ∙ ap (λ (k : ℤ). pos one *ℤ (t *ℤ total_below earns c.cells.observations) +ℤ pos c.cells.discount *ℤ k)
      (sum_below_scale t expected c.cells.observations)

  counted_split : backing c n s ≡ pos one *ℤ earned c n s rewards +ℤ pos c.cells.discount *ℤ factored_value c n s
  counted_split =
      sum_below_same _ _ _ row_split
      ∙ sum_split (pos one) (pos c.cells.discount) (λ e. pos (c.cells.t _ s e)
      *ℤ total_below (λ z. pos (c.cells.o (c.action n) e z) *ℤ rewards e z) c.cells.observations)
      (λ e. pos (c.cells.t _ s e) *ℤ factored_value_at_end c n e) c.cells.states

module _ (c : Controller) (n : ℕ) (s : ℕ) where
  -- ---- of a pair that lacks nothing every reward counts
  all_counted : IsLeastLacking c n s None → (e z : ℕ) → e < c.cells.states → z < c.cells.observations
      → (at : Option ℕ) → c.next n z ≡ at → IsCounted c n s e z (c.cells.r (c.action n) s e z) at
  all_counted h1 e z h2 h3 at h4 = grind arith

  pub backing_split : IsLeastLacking c n s None
      → backing c n s ≡ pos one *ℤ factored_reward c.cells (c.action n) s +ℤ pos c.cells.discount *ℤ factored_value c n s
  backing_split lacks = counted_split c n s (c.cells.r (c.action n) s) (all_counted lacks)

  -- ---- of any pair those count that are followed
  followed_counted : (e z : ℕ) (at : Option ℕ) → c.next n z ≡ at
      → IsCounted c n s e z (at_node (λ m. c.cells.r (c.action n) s e z) (c.next n z)) at
  followed_counted e z at h1 = grind arith

  pub followed_split : backing c n s ≡ pos one *ℤ factored_reward (followed c n) (c.action n) s
      +ℤ pos c.cells.discount *ℤ factored_value c n s
  followed_split = counted_split c n s (λ e z. at_node (λ m. c.cells.r (c.action n) s e z) (c.next n z))
      (λ e z el zl. followed_counted e z)

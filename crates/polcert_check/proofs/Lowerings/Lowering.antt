-- What lowering every vector value by one number does to the shorts.
use Rattle.std.proofs.Common.{◌≡◌, ℕ, ◌+◌, ◌-◌, ◌*◌, ◌<◌, ◌≤◌, ℤ, pos, ◌+ℤ◌, ◌-ℤ◌, ◌*ℤ◌, ◌≤ℤ◌, Option, Some, None, sym, refl, ap, ◌∙◌}
use Rattle.std.proofs.Common.{arith}
use Rattle.polcert_check.proofs.Common.{total_below, Controller, one, step_weight, step_scale, backing, short, Lacks, Passes, IsController}
use Rattle.polcert_check.proofs.Common.{lowered_by}
use Rattle.polcert_check.proofs.Sums.Ring.{linear, products, sums, *ℤ-+ℤ, sub_add_cancel}
use Rattle.polcert_check.proofs.Sums.SumLaws.{sum_below_same, sum_below_add}
use Rattle.polcert_check.proofs.Horizons.Kept.{backing_term, sum_twice_scale, step_weights_sum, no_weight, LacksNone}

term_algebra : (w u r g v b : ℤ) → w *ℤ (u *ℤ r +ℤ g *ℤ v) +ℤ (g *ℤ b) *ℤ w ≡ w *ℤ (u *ℤ r +ℤ g *ℤ (v +ℤ b))
term_algebra w u r g v b = simp (products, sums)

lowered_term : (c : Controller) (by n s e z : ℕ) → (Lacks c n s z → ⊥) → e < c.cells.states → (at : Option ℕ) → c.next n z ≡ at
    → backing_term (lowered_by c by) n s e z at +ℤ pos (c.cells.discount * by) *ℤ pos (step_weight c n s e z) ≡ backing_term c n s e z at
lowered_term c by n s e z fine el None is = let h = no_weight c n s e z fine el is in
    rw h (ap pos (omega arith))
lowered_term c by n s e z fine el (Some m) is =
    let v = c.value m e in
    cc (
      term_algebra (pos (step_weight c n s e z)) (pos one) (c.cells.r (c.action n) s e z) (pos c.cells.discount) (v -ℤ pos by)
          (pos by),
      sub_add_cancel v (pos by),
    )

pub sum_twice_add : (f g : ℕ → ℕ → ℤ) (m n : ℕ) → total_below (λ e. total_below (λ z. f e z +ℤ g e z) m) n
    ≡ total_below (λ e. total_below (λ z. f e z) m) n +ℤ total_below (λ e. total_below (λ z. g e z) m) n
sum_twice_add f g m n =
    sum_below_same _ _ n (λ e _. sum_below_add (f e) (g e) m)
    ∙ sum_below_add _ _ n

pub lowered_backing : (c : Controller) → IsController c → (by n s : ℕ) → n < c.nodes → s < c.cells.states
    → ((z : ℕ) → z < c.cells.observations → Lacks c n s z → ⊥)
    → backing (lowered_by c by) n s +ℤ pos (c.cells.discount * by) *ℤ pos (step_scale c) ≡ backing c n s
lowered_backing c p by n s nl sl fine =
    let b : ℤ = pos (c.cells.discount * by) in
    let w = λ (e z : ℕ). pos (step_weight c n s e z) in
    let new = λ (e z : ℕ). backing_term (lowered_by c by) n s e z (c.next n z) in
    ap (λ (x : ℤ). backing (lowered_by c by) n s +ℤ b *ℤ x) (sym (step_weights_sum c p n s nl sl))
    ∙ ap (λ (x : ℤ). backing (lowered_by c by) n s +ℤ x) (sym (sum_twice_scale b w c.cells.observations c.cells.states))
    ∙ sym (sum_twice_add new (λ e z. b *ℤ w e z) c.cells.observations c.cells.states)
    ∙ sum_below_same _ _ c.cells.states (λ e el. sum_below_same _ _ c.cells.observations
    (λ z zl. lowered_term c by n s e z (fine z zl) el (c.next n z) refl))

-- lowering by `by` lowers a short by Q * (one - g) * by
split_nat : (q d g b : ℕ) → q * (d + g) * b ≡ q * (d * b) + g * b * q
split_nat q d g b = omega arith

lowered_nat : (q u g b : ℕ) → g ≤ u → q * u * b ≡ q * ((u - g) * b) + g * b * q
lowered_nat q u g b h = ap (λ (x : ℕ). q * x * b) (omega arith) ∙ split_nat q (u - g) g b

module _ (c : Controller) where
  pub lowered_short : IsController c → c.cells.discount ≤ one → (by n s : ℕ) → n < c.nodes → s < c.cells.states
      → ((z : ℕ) → z < c.cells.observations → Lacks c n s z → ⊥)
      → short c n s ≡ short (lowered_by c by) n s +ℤ pos (step_scale c * ((one - c.cells.discount) * by))
  lowered_short p gl by n s nl sl fine =
      let q = step_scale c in
      omega (
        arith,
        linear,
        ap pos (lowered_nat q one c.cells.discount by gl),
        ap (λ (y : ℤ). (pos (q * one)) *ℤ y) (sym (sub_add_cancel (c.value n s) (pos by)))
            ∙ *ℤ-+ℤ (pos (q * one)) ((c.value n s) -ℤ (pos by)) (pos by),
        lowered_backing c p by n s nl sl fine,
      )

  -- the vectors less `by` pass just where no pair lacks an observation and no short is above Q * (one - g) * by
  pub passes_lowered : IsController c → c.cells.discount ≤ one → (by : ℕ) → LacksNone c
      → ((n s : ℕ) → n < c.nodes → s < c.cells.states → short c n s ≤ℤ pos (step_scale c * ((one - c.cells.discount) * by)))
      → Passes (lowered_by c by)
  passes_lowered p gl by fine most n s nl sl =
      let is =
      lowered_short p gl by n s nl sl (λ z. fine n s z nl sl) in
      let le = most n s nl sl in
      record { lacks_none = λ z. fine n s z nl sl; not_short = omega (arith, linear) }

  pub from_passes_lowered : IsController c → c.cells.discount ≤ one → (by : ℕ) → Passes (lowered_by c by) → (n s : ℕ)
      → n < c.nodes → s < c.cells.states → short c n s ≤ℤ pos (step_scale c * ((one - c.cells.discount) * by))
  from_passes_lowered p gl by passes n s nl sl =
      omega (arith, linear, (passes n s nl sl).not_short, lowered_short p gl by n s nl sl (passes n s nl sl).lacks_none)

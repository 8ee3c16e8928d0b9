-- The greatest short, and the least constant that it gives.
use Rattle.std.proofs.Common.{◌≡◌, ℕ, ◌+◌, ◌-◌, ◌*◌, ◌^◌, ◌<◌, ◌≤◌, ℤ, pos, ◌≤ℤ◌, ◌<ℤ◌, inl, ⊎_elim, sym, refl, subst, arith, ◌+ℤ◌, ◌-ℤ◌}
use Rattle.std.proofs.Common.{neg_ℤ, FitsSigned, to_z, of_z, unsigned_abs, w64}
use Rattle.polcert_check.proofs.Common.{w128, ints, fits_signed_from_abs, largest, CellTable, IsWithinLimits, Controller, one, step_scale}
use Rattle.polcert_check.proofs.Common.{short, Passes, IsController, most_scales, most_sum, lowered_by, NoneLacks, IsLeast, CanLower}
use Rattle.polcert_check.proofs.Common.{IsPair, IsWorstOf, Side, Below, signed_from, CanMove, PolicyVectors, AreProperVectors, IsInRange}
use Rattle.polcert_check.proofs.Sums.Bounds.{negated_is}
use Rattle.std.proofs.Math.Nat.{mul-le-mul}
use Rattle.polcert_check.proofs.Walking.Verdicts.{positive_product}
use Rattle.polcert_check.proofs.Certificates.{value_is_in_range}
use Rattle.polcert_check.proofs.Sums.Ring.{linear, wider}
use Rattle.polcert_check.proofs.Horizons.Kept.{LacksNone}
use Rattle.polcert_check.proofs.Lowerings.Lowering.{passes_lowered, from_passes_lowered}

mul_assoc : (a b d : ℕ) → a * b * d ≡ a * (b * d)
mul_assoc a b d = omega arith

at_most_nat : (a b : ℕ) → pos a ≤ℤ pos b → b < a → ⊥
at_most_nat a b h l = omega (arith, linear)

-- the least constant, where the discount is below 1: `by` is the worst short over the factor, rounded up
pub least_passes : (c : Controller) → IsController c → c.cells.discount ≤ one → LacksNone c → (worst by : ℕ) → IsWorstOf c (IsPair c) worst
    → worst ≤ step_scale c * (one - c.cells.discount) * by → Passes (lowered_by c by)
least_passes c p gl fine worst by w h =
    passes_lowered c p gl by fine (λ n s nl sl. wider (short c n s) worst (step_scale c * ((one - c.cells.discount) * by))
    (w.bounds n s (nl, sl)) (omega arith))

pub less_fails : (c : Controller) → IsController c → c.cells.discount ≤ one → (worst d : ℕ) → IsWorstOf c (IsPair c) worst
    → step_scale c * (one - c.cells.discount) * d < worst → Passes (lowered_by c d) → ⊥
less_fails c p gl worst d w h passes =
    ⊎_elim (λ e. omega arith)
    (λ r.
    at_most_nat worst (step_scale c * (one - c.cells.discount) * d)
    (subst (λ (x : ℤ). x ≤ℤ pos (step_scale c * (one - c.cells.discount) * d)) (sym r.3)
    (subst (λ (x : ℕ). short c r.0 r.1 ≤ℤ pos x) (sym (mul_assoc (step_scale c) (one - c.cells.discount) d))
    (from_passes_lowered c p gl d passes r.0 r.1 r.2.0 r.2.1))) h)
    w.is_reached

-- ---- the value less `by`
pub low_fits : (v : ℤ) → IsInRange v → FitsSigned w128 v × FitsSigned w128 (v +ℤ pos 10000000000000)
low_fits v r = grind arith

module _ (v : ℤ) (by : ℕ) where
  pub low_enough : IsInRange v → by ≤ unsigned_abs (v +ℤ pos 10000000000000) → IsInRange (v +ℤ neg_ℤ (pos by))
  low_enough r l = (omega (arith, ints, r.0, r.1), omega (arith, ints, r.0, r.1))

  pub from_low_enough : IsInRange v → IsInRange (v +ℤ neg_ℤ (pos by)) → by ≤ unsigned_abs (v +ℤ pos 10000000000000)
  from_low_enough r l = omega (arith, ints, r.0, r.1, l.0, l.1)

  low_is_small : IsInRange v → IsInRange (v +ℤ neg_ℤ (pos by)) → by ≤ 2 * largest
  low_is_small r l = omega (arith, ints, r.0, r.1, l.0, l.1)

-- ---- the factor by which a constant lowers each short
pub factor_room : (t o d x : ℕ) → t * o ≤ most_scales → x ≤ 3 * most_sum → (t * o < 2 ^ 64) × (t * o * (1000000 - d) < 2 ^ 128)
    × (x + t * o * (1000000 - d) ≤ 2 ^ 127)
factor_room t o d x q xl =
    let f = mul-le-mul q (at_most_million d) in
    (omega (arith, q), omega (arith, f), omega (arith, f, xl))
  where
    at_most_million : (d : ℕ) → 1000000 - d ≤ 1000000
    at_most_million d = omega arith

pub factor_positive : (t o d : ℕ) → 0 < t → 0 < o → d < 1000000 → 0 < t * o * (1000000 - d)
factor_positive t o d tl ol dl = positive_product (t * o) (1000000 - d) (positive_product t o tl ol) (omega arith)

module _ (c : Controller) where
  pub NoneLacks-gives : NoneLacks c → LacksNone c
  NoneLacks-gives none n s z nl sl zl = none n s nl sl z zl

  -- the candidate is least
  pub candidate_least : IsController c → NoneLacks c → (ts os d worst by : ℕ) → ts ≡ c.cells.t_scale → os ≡ c.cells.o_scale
      → d ≡ c.cells.discount → c.cells.discount < one → IsWorstOf c (IsPair c) worst → worst ≤ ts * os * (1000000 - d) * by
      → ((e : ℕ) → e < by → ts * os * (1000000 - d) * e < worst) → IsLeast c by
  unfolding one
  candidate_least p none ts os d worst by te oe de gl w enough least = (
    least_passes c p (omega arith) (NoneLacks-gives none) worst by w (subst (λ (x : ℕ). worst ≤ x * by) (rw (te, oe, de) refl) enough),
    (λ e el. less_fails c p (omega arith) worst e w (subst (λ (x : ℕ). x * e < worst) (rw (te, oe, de) refl) (least e el))),
  )

  pub least_zero : IsController c → c.cells.discount ≤ one → NoneLacks c → Passes c → IsLeast c 0
  least_zero p gl none passes = (
    least_passes c p gl (NoneLacks-gives none) 0 0 (record { bounds = λ n s p. (passes n s p.0 p.1).not_short; is_reached = inl refl })
        (omega arith),
    (λ d l. absurd (omega arith)),
  )

  -- at a discount of one nothing helps a pair that is short
  pub no_constant : IsController c → c.cells.discount ≡ one → (n s : ℕ) → n < c.nodes → s < c.cells.states
      → pos 0 <ℤ short c n s → (by : ℕ) → Passes (lowered_by c by) → ⊥
  no_constant p ge n s nl sl h by passes =
      let none : one - c.cells.discount ≡ 0 = omega arith in
      positive_not (short c n s) _ (rw none (omega arith))
      (from_passes_lowered c p (omega arith) by passes n s nl sl) h
    where
      positive_not : (x : ℤ) (y : ℕ) → y ≡ 0 → x ≤ℤ pos y → pos 0 <ℤ x → ⊥
      positive_not x y e l h = omega (arith, linear)

turned_in_range : (side : Side) (x : ℤ) → IsInRange x → IsInRange (signed_from side x)
turned_in_range side x h1 = grind arith

module _ (side : Side) (v : PolicyVectors) where
  constant_small : AreProperVectors v → (by : ℕ) → CanMove side v by → by ≤ 2 * largest
  constant_small proper by can = grind (arith, value_is_in_range, low_is_small, turned_in_range)

  pub constant_fits : AreProperVectors v → (by : ℕ) → CanMove side v by → FitsSigned w64 (pos by)
  constant_fits proper by can = let small = constant_small proper by can in
      record { sfits = omega (arith, ints) }

pub negated : (v : PolicyVectors) → AreProperVectors v → (by : ℕ) → CanLower v by → (x : ℤ) → x ≡ pos by
    → to_z w64 (of_z w64 (pos 0 -ℤ to_z w64 (of_z w64 x))) ≡ neg_ℤ (pos by)
negated v proper by can x e =
    let small = constant_small Below v proper by can in
    rw e (negated_is w64 (pos by) (constant_fits Below v proper by can) (fits_signed_from_abs w64 _ (omega (arith, ints))))

pub at_one : (m : CellTable) → IsWithinLimits m → 1000000 ≤ m.discount → m.discount ≡ one
unfolding one
at_one m limits h = omega (arith, limits.discount)

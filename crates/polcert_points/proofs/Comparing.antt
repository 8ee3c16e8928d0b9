-- The discounted value in 128 bits: how large its parts are, and what they sum to.
use Rattle.std.proofs.Common.{◌≡◌, ℕ, ◌+◌, ◌*◌, ◌<◌, ◌≤◌, ℤ, pos, ◌+ℤ◌, ◌-ℤ◌, ◌*ℤ◌, ◌≤ℤ◌, ◌<ℤ◌, unsigned_abs, FitsSigned, sym, ap, ◌∙◌}
use Rattle.std.proofs.Common.{rules}
use Rattle.std.proofs.Common.{arith}
use Rattle.std.proofs.Math.Nat.{mul-le-mul_right, le_trans}
use Rattle.std.proofs.lemmas.Int.{unsigned_abs-mul}
use Rattle.polcert_points.proofs.Common.{ints, w128}
use Rattle.polcert_check.proofs.Sums.Ring.{linear, *ℤ-+ℤ, *ℤ_left_comm}

pub fits_of : (x : ℤ) (b : ℕ) → unsigned_abs x ≤ b → b < 170141183460469231731687303715884105728 → FitsSigned w128 x
fits_of x b h k = grind arith

-- ---- the whole millions
pub millions_small : (number whole : ℤ) (n : ℕ) → unsigned_abs number ≤ n → (pos 1000000 *ℤ whole) ≤ℤ number
    → number <ℤ (pos 1000000 *ℤ whole +ℤ pos 1000000) → unsigned_abs (pos 1000000 *ℤ whole) ≤ n + 1000000
millions_small number whole n h k l = omega (arith, ints)

pub whole_small : (g : ℕ) (number whole : ℤ) (n : ℕ) → g ≤ 1000000 → unsigned_abs number ≤ n → (pos 1000000 *ℤ whole) ≤ℤ number
    → number <ℤ (pos 1000000 *ℤ whole +ℤ pos 1000000) → unsigned_abs (pos g *ℤ whole) ≤ n + 1000000
whole_small g number whole n gl h k l = grind (arith, unsigned_abs, unsigned_abs-mul, millions_small, le_trans, mul-le-mul_right)

-- ---- the sum
pub discounted_value : (g rest part : ℕ) (number whole main : ℤ) → number ≡ pos 1000000 *ℤ whole +ℤ pos rest → main ≡ pos g *ℤ whole
    → g * rest ≤ 1000000 * part → 1000000 * part < g * rest + 1000000
    → ((pos g *ℤ number) ≤ℤ (pos 1000000 *ℤ (main +ℤ pos part))) × ((pos 1000000 *ℤ (main +ℤ pos part)) <ℤ (pos g *ℤ number +ℤ pos 1000000))
discounted_value g rest part number whole main is main_is enough least =
    let first : pos g *ℤ number ≡ pos 1000000 *ℤ (pos g *ℤ whole) +ℤ pos (g * rest) =
    rw is (*ℤ-+ℤ (pos g) _ (pos rest)
    ∙ ap (λ (x : ℤ). x +ℤ pos (g * rest)) (*ℤ_left_comm (pos g) (pos 1000000) _)) in
    let second : pos 1000000 *ℤ (main +ℤ pos part) ≡ pos 1000000 *ℤ (pos g *ℤ whole) +ℤ pos (1000000 * part) =
    rw main_is (*ℤ-+ℤ (pos 1000000) (pos g *ℤ whole) _) in
    (omega (arith, linear, first, second, enough), search rules)

pub sum_small : (main : ℤ) (part : ℕ) → unsigned_abs main ≤ 50000000000000000000000000000001000000 → part ≤ 1000000
    → unsigned_abs (main +ℤ pos part) ≤ 50000000000000000000000000000002000000
sum_small main part h k = grind arith

-- ---- with reward and worth
pub excess_value : (u : ℕ) (reward later worth after discounted : ℤ) → later ≤ℤ (pos u *ℤ after) → (pos u *ℤ after) <ℤ (later +ℤ pos u)
    → (((pos u *ℤ reward +ℤ later) -ℤ pos u *ℤ worth) ≤ℤ (pos u *ℤ ((reward -ℤ worth) +ℤ after)))
    × ((pos u *ℤ ((reward -ℤ worth) +ℤ after)) <ℤ (((pos u *ℤ reward +ℤ later) -ℤ pos u *ℤ worth) +ℤ pos u))
excess_value u reward later worth after discounted h k =
    let apart : pos u *ℤ (reward -ℤ worth) +ℤ pos u *ℤ worth ≡ pos u *ℤ reward = sym (*ℤ-+ℤ (pos u) (reward -ℤ worth) _)
    ∙ ap (λ (x : ℤ). pos u *ℤ x) (omega (arith, linear)) in (
      omega (arith, linear, *ℤ-+ℤ (pos u) (reward -ℤ worth) after, h),
      omega (arith, linear, *ℤ-+ℤ (pos u) (reward -ℤ worth) after, k),
    )

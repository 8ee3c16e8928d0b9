-- The discounted remainder is below every tolerance after enough steps.
use Rattle.std.proofs.Common.{ℕ, zero, suc, ◌*◌, ◌^◌, ◌<◌, ◌≤◌, ℤ, pos, neg_ℤ, ◌≤ℤ◌, arith, unsigned_abs}
use Rattle.std.proofs.Math.Nat.{pow-suc, pow-le-pow_left, mul-le-mul_left, mul-le-mul_right, le_of_mul-le-mul_left}
use Rattle.polcert_optimum.proofs.Common.{ints}

-- (g + 1) ^ k grows by k more than g ^ k
growth_step : (g k p q : ℕ) → k * p ≤ g * q → p ≤ q → suc k * (p * g) ≤ g * (q * suc g)
growth_step g k p q before less = omega (arith, mul-le-mul_left g before, mul-le-mul_left g less)

growth : (g k : ℕ) → k * g ^ k ≤ g * suc g ^ k
growth g zero = omega arith
growth g (suc k) = grind (arith, pow-suc, pow-le-pow_left, growth_step, growth g k)

-- so g ^ k * x is at most u ^ k from some k on, for every u above g
grown : (g x k p q r : ℕ) → k * p ≤ suc g * q → q ≤ r → suc g * x ≤ k → suc g * (p * x) ≤ suc g * r
grown g x k p q r first wider few = omega (arith, mul-le-mul_left (suc g) wider, mul-le-mul_right p few)

pub vanishes : (g u x k : ℕ) → g < u → suc (g * x) ≤ k → g ^ k * x ≤ u ^ k
vanishes zero u x zero l h = absurd (omega arith)
vanishes zero u x (suc k) l h = rw (pow-suc 0 k) (omega arith)
vanishes (suc g) u x k l h =
    le_of_mul-le-mul_left {k = suc g} (grown g x k _ _ _ (growth _ k) (pow-le-pow_left l k)
    (omega arith)) (omega arith)

-- ---- values within a bound
pub at_least : (x : ℤ) (b : ℕ) → unsigned_abs x ≤ b → neg_ℤ (pos b) ≤ℤ x
at_least x b h = omega (arith, ints, h)

pub at_most : (x : ℤ) (b : ℕ) → unsigned_abs x ≤ b → x ≤ℤ pos b
at_most x b h = omega (arith, ints, h)

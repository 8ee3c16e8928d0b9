-- Sums that pass over what adds nothing, and their steps in 128 bits.
use Rattle.std.proofs.Common.{◌≡◌, ℕ, zero, suc, ◌+◌, ◌^◌, ◌<◌, ◌≤◌, ◌⊎◌, ℤ, pos, ◌+ℤ◌, ◌*ℤ◌, unsigned_abs, FitsSigned, to_z, of_z, arith}
use Rattle.std.proofs.Common.{refl}
use Rattle.polcert_check.proofs.Common.{w128, cases_lt, +ℤ_idr, zero-*ℤ, total_below}
use Rattle.std.proofs.lemmas.Int.{to_z-of_z}

-- from i to j the function is 0
pub gap : (f : ℕ → ℤ) (i j : ℕ) → i ≤ j → ((k : ℕ) → i ≤ k → k < j → f k ≡ pos 0) → total_below f j ≡ total_below f i
gap f i zero l h = let e : i ≡ 0 = omega arith in rw e refl
gap f i (suc j) l h = go (cases_lt j i) (λ k. gap f i j k (λ n a b. h n a (omega arith)))
  where
    go : (j < i) ⊎ (i ≤ j) → (i ≤ j → total_below f j ≡ total_below f i) → total_below f j +ℤ f j ≡ total_below f i
    go h1 h2 = grind (arith, +ℤ_idr)

-- weights that are 0 add nothing
pub no_weight : (w : ℕ) (x : ℤ) → w ≡ 0 → pos w *ℤ x ≡ pos 0
no_weight w x e = rw e (zero-*ℤ x)

-- one entry more, after a gap
pub past_gap : (f : ℕ → ℤ) (i j : ℕ) (sum x : ℤ) → i ≤ j → ((k : ℕ) → i ≤ k → k < j → f k ≡ pos 0) → sum ≡ total_below f i → x ≡ f j
    → sum +ℤ x ≡ total_below f (suc j)
past_gap f i j sum x l h before is = grind (arith, gap)

-- a sum in 128 bits
pub add_step : (sum x next : ℤ) (b : ℕ) → FitsSigned w128 x → sum +ℤ x ≡ next → unsigned_abs next ≤ b → b < 2 ^ 127
    → FitsSigned w128 (sum +ℤ to_z w128 (of_z w128 x)) × (to_z w128 (of_z w128 (sum +ℤ to_z w128 (of_z w128 x))) ≡ next)
add_step sum x next b f is small fits = grind arith

pub cursor_step : (f : ℕ → ℤ) (b i j : ℕ) (sum x : ℤ) → i ≤ j → ((k : ℕ) → i ≤ k → k < j → f k ≡ pos 0) → sum ≡ total_below f i
    → FitsSigned w128 x → x ≡ f j → unsigned_abs (total_below f (suc j)) ≤ b → b < 2 ^ 127
    → FitsSigned w128 (sum +ℤ to_z w128 (of_z w128 x))
    × (to_z w128 (of_z w128 (sum +ℤ to_z w128 (of_z w128 x))) ≡ total_below f (j + 1))
cursor_step f b i j sum x l h before fx is small fits = grind (arith, past_gap)

-- a product in 128 bits
pub weighed_is : (w v : ℕ) (x y g : ℤ) → FitsSigned w128 y → x ≡ pos w *ℤ to_z w128 (of_z w128 y) → w ≡ v → y ≡ g → x ≡ pos v *ℤ g
weighed_is w v x y g f xe we ye = rw (xe, to_z-of_z w128 y f, we, ye) refl

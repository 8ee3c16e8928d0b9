-- The sum of a sparse row.
use Rattle.std.proofs.Common.{◌≡◌, ◌∙◌, ℕ, zero, suc, ◌+◌, ◌-◌, ◌*◌, ◌<◌, ◌≤◌, ⊎_elim, List, [], ◌∷◌, mul-suc, Bool, cond, ltb, length, sum}
use Rattle.std.proofs.Common.{All, refl, sym, ap, subst, arith}
use Rattle.polcert_rules.proofs.Common.{cases_lt, nat_tests, sum_below, Cell, weight_at, scaled_cells, IsSparse, sum_of_weights, one}
use Rattle.std.proofs.lemmas.List.Sums.{sum_by-cons, sum_by-le}
use Rattle.std.proofs.Math.Nat.{mul_comm}
use Rattle.polcert_cells.proofs.SparseLaws.{Climbs, cell_of, climbs_from, weight_head, weight_tail, weight_below}

sum_without : (x : Cell) (xs : List Cell) (n : ℕ) → n ≤ x.column → sum_below (weight_at (x ∷ xs)) n ≡ sum_below (weight_at xs) n
sum_without x xs zero l = refl
sum_without x xs (suc n) l = omega (arith, sum_without x xs n (omega arith), weight_tail x xs n (λ e. omega arith))

sum_with : (x : Cell) (xs : List Cell) (n : ℕ) → x.column < n → weight_at xs x.column ≡ 0
    → sum_below (weight_at (x ∷ xs)) n ≡ x.weight + sum_below (weight_at xs) n
sum_with x xs zero l z = absurd (omega arith)
sum_with x xs (suc n) l z = ⊎_elim (λ less. omega (arith, sum_with x xs n less z, weight_tail x xs n (λ e. omega arith))) (λ ge.
    let same : x.column ≡ n = omega arith in
    omega (arith, sum_without x xs n ge, weight_head x xs n same, ap (weight_at xs) (sym same) ∙ z))
    (cases_lt _ n)

sum_none : (n : ℕ) → sum_below (weight_at []) n ≡ 0
sum_none zero = refl
sum_none (suc n) = omega (arith, sum_none n)

sum_climbs : (low n : ℕ) (xs : List Cell) → Climbs low n xs → sum_below (weight_at xs) n ≡ sum_of_weights xs
sum_climbs low n [] h = sum_none n
sum_climbs low n (x ∷ xs) h =
    sum_with x xs n h.1 (weight_below (x.column + 1) n x.column xs h.3 (omega arith))
    ∙ ap (λ k. x.weight + k) (sum_climbs (x.column + 1) n xs h.3)

pub sum_is : (n : ℕ) (xs : List Cell) → IsSparse n xs → sum_of_weights xs ≡ sum_below (weight_at xs) n
sum_is n xs s = sym (sum_climbs 0 n xs (climbs_from n xs s))

pub sum_small : (f : ℕ → ℕ) (b n : ℕ) → ((c : ℕ) → c < n → f c ≤ b) → sum_below f n ≤ b * n
sum_small f b zero h = omega arith
sum_small f b (suc n) h = omega (arith, sum_small f b n (λ c l. h c (omega arith)), h n (omega arith), mul-suc b n)

pub sum_same : (f g : ℕ → ℕ) (n : ℕ) → ((c : ℕ) → c < n → f c ≡ g c) → sum_below f n ≡ sum_below g n
sum_same f g zero h = refl
sum_same f g (suc n) h = omega (arith, sum_same f g n (λ c l. h c (omega arith)), h n (omega arith))

-- ---- rows of numbers
pub total_scaled : (scale k : ℕ) (ns : List ℕ) → sum_of_weights (scaled_cells scale k ns) ≡ sum ns * scale
total_scaled scale k [] = sym (omega arith)
total_scaled scale k (n ∷ ns) =
    at (total_scaled scale (k + 1) ns) (grind arith) (ltb 0 (n * scale)) refl ∙ ap (λ m. m * scale) (sym (sum_by-cons (λ x. x) n ns))
  where
    xs : List Cell
    xs = scaled_cells scale (k + 1) ns

    at : sum_of_weights xs ≡ sum ns * scale → (n + sum ns) * scale ≡ n * scale + sum ns * scale → (b : Bool) → ltb 0 (n * scale) ≡ b
        → sum_of_weights (cond b (cell_of k (n * scale) ∷ xs) xs) ≡ (n + sum ns) * scale
    at h1 h2 b h3 = grind (arith, nat_tests)

pub sum_most : (ns : List ℕ) → All (λ n. n ≤ one) ns → sum ns ≤ one * length ns
sum_most ns a = subst (λ m. sum ns ≤ m) (mul_comm (length ns) one) (sum_by-le (λ x. x) one ns a)

-- a sparse row has no more cells than columns
climbs_few : (low n : ℕ) (xs : List Cell) → Climbs low n xs → length xs ≤ n - low
climbs_few low n [] h = omega arith
climbs_few low n (x ∷ xs) h = omega (arith, climbs_few (x.column + 1) n xs h.3, h.0, h.1)

pub sparse_few : (n : ℕ) (xs : List Cell) → IsSparse n xs → length xs ≤ n
sparse_few n xs s = omega (arith, climbs_few 0 n xs (climbs_from n xs s))

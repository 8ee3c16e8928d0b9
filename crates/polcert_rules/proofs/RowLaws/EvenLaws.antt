-- Rows of one weight but for exceptions.
use Rattle.std.proofs.Common.{◌≡◌, ◌∙◌, ℕ, zero, suc, ◌+◌, ◌-◌, ◌*◌, ◌<◌, ◌≤◌, ⊎_elim, Bool, true, false, cond, eqb, ltb, List, [], ◌∷◌}
use Rattle.std.proofs.Common.{◌++◌, length, All, refl, sym, ap, subst, arith, add-one}
use Rattle.polcert_rules.proofs.Common.{cases_lt, nat_tests, All-nil, All-cons, sum_below, Cell, weight_at, IsRow, sum_of_weights}
use Rattle.polcert_rules.proofs.Common.{weight_over, Rises}
use Rattle.polcert_rules.specs.Steps.Lists.{filled_cells}
use Rattle.polcert_cells.specs.Sparse.{AreRising, excepted_weight}
use Rattle.polcert_cells.proofs.SparseLaws.{cell_of, climbs_from, sparse_from, row_push, row_skip, weight_beyond}
use Rattle.polcert_rules.proofs.RowLaws.SumLaws.{sum_is, sum_same}

-- ---- the cells of the columns with a weight above 0
pub filled_row : (f : ℕ → ℕ) (n : ℕ) → IsRow n f (filled_cells f n)
filled_row f zero = record { sparse = sparse_from 0 0 [] tt; each = λ c l. absurd (omega arith) }
filled_row f (suc n) = subst (λ m. IsRow m f (filled_cells f (suc n))) (add-one n) (at (ltb 0 (f n)) refl (filled_row f n))
  where
    at : (b : Bool) → ltb 0 (f n) ≡ b → IsRow n f (filled_cells f n)
        → IsRow (n + 1) f (cond b (filled_cells f n ++ cell_of n (f n) ∷ []) (filled_cells f n))
    at true e row = row_push f n _ _ row refl (grind (arith, nat_tests))
    at false e row =
        row_skip f n _ _ row (omega arith)
        (λ i low high. let same : n ≡ i = omega arith in sym (ap f same) ∙ (grind (arith, nat_tests)))

pub filled_sum : (f : ℕ → ℕ) (n : ℕ) → sum_of_weights (filled_cells f n) ≡ sum_below f n
filled_sum f n = let row = filled_row f n in sum_is n _ row.sparse ∙ sum_same _ _ n row.each

pub filled_beyond : (f : ℕ → ℕ) (n c : ℕ) → n ≤ c → weight_at (filled_cells f n) c ≡ 0
filled_beyond f n c l = weight_beyond 0 n c _ (climbs_from n _ (filled_row f n).sparse) l

-- one column more
next : (f : ℕ → ℕ) (n : ℕ) (xs ys : List Cell) → xs ≡ filled_cells f n → ys ≡ cond (ltb 0 (f n)) (xs ++ cell_of n (f n) ∷ []) xs
    → ys ≡ filled_cells f (n + 1)
next f n xs ys e is = is ∙ ap (λ zs. cond (ltb 0 (f n)) (zs ++ cell_of n (f n) ∷ []) zs) e ∙ ap (filled_cells f) (sym (add-one n))

pub with_weight : (f : ℕ → ℕ) (n w : ℕ) (xs : List Cell) → xs ≡ filled_cells f n → w ≡ f n → 0 < w
    → xs ++ cell_of n w ∷ [] ≡ filled_cells f (n + 1)
with_weight f n w xs e same some = next f n xs _ e (grind (arith, nat_tests))

pub without_weight : (f : ℕ → ℕ) (n w : ℕ) (xs : List Cell) → xs ≡ filled_cells f n → w ≡ f n → w ≤ 0 → xs ≡ filled_cells f (n + 1)
without_weight f n w xs e same none = next f n xs xs e (grind (arith, nat_tests))

-- ---- exceptions in order
above : (low n : ℕ) (xs : List Cell) → Rises low n xs → All (λ x. low ≤ x.column) xs
above low n [] h = All-nil _
above low n (x ∷ xs) h = All-cons (λ x. low ≤ x.column) x xs h.0 (λ k d l. let rest = above (x.column + 1) n xs h.2 k d l in omega arith)

pub rising : (low n : ℕ) (xs : List Cell) → Rises low n xs → AreRising xs
rising low n [] h = grind arith
rising low n (x ∷ xs) h = grind (arith, above, rising (x.column + 1) n xs h.2)

pub within : (low n : ℕ) (xs : List Cell) → Rises low n xs → All (λ x. x.column < n) xs
within low n [] h = All-nil _
within low n (x ∷ xs) h = All-cons (λ x. x.column < n) x xs h.1 (within (x.column + 1) n xs h.2)

pub few : (low n : ℕ) (xs : List Cell) → Rises low n xs → low ≤ n → low + length xs ≤ n
few low n [] h l = omega arith
few low n (x ∷ xs) h l = omega (arith, h.0, few (x.column + 1) n xs h.2 (omega arith))

excepted_low : (w low n c : ℕ) (xs : List Cell) → Rises low n xs → c < low → excepted_weight w xs c ≡ w
excepted_low w low n c [] h l = refl
excepted_low w low n c (x ∷ xs) h l = grind (arith, nat_tests, excepted_low w (x.column + 1) n c xs h.2 (omega arith))

-- the weight of a column is that of an exception over the same weight in all columns
pub excepted_over : (w c : ℕ) (xs : List Cell) → excepted_weight w xs c ≡ weight_over xs (λ i. w) c
excepted_over w c [] = refl
excepted_over w c (x ∷ xs) = ap (cond (eqb x.column c) x.weight) (excepted_over w c xs)

-- ---- their sum
-- two lists of weights that differ in one column
sum_apart : (f g : ℕ → ℕ) (k n : ℕ) → k < n → ((c : ℕ) → (k ≡ c → ⊥) → f c ≡ g c) → sum_below f n + g k ≡ sum_below g n + f k
sum_apart f g k zero l same = absurd (omega arith)
sum_apart f g k (suc n) l same = ⊎_elim (λ less. omega (arith, sum_apart f g k n less same, same n (λ e. omega arith))) (λ ge.
    let last : k ≡ n = omega arith in
    omega (arith, sum_same f g n (λ c m. same c (λ e. omega arith)), ap f last, ap g last))
    (cases_lt k n)

pub sum_even : (w n : ℕ) → sum_below (excepted_weight w []) n ≡ n * w
sum_even w zero = sym (omega arith)
sum_even w (suc n) = grind (arith, sum_even w n)

pub excepted_sum : (w low n : ℕ) (xs : List Cell) → Rises low n xs
    → sum_below (excepted_weight w xs) n + length xs * w ≡ n * w + sum_of_weights xs
excepted_sum w low n [] h = let all = sum_even w n in let none : 0 * w ≡ 0 = omega arith in omega (arith, all, none)
excepted_sum w low n (x ∷ xs) h =
    let rest = excepted_sum w (x.column + 1) n xs h.2 in
    let apart : sum_below (excepted_weight w (x ∷ xs)) n + excepted_weight w xs x.column
    ≡ sum_below (excepted_weight w xs) n + excepted_weight w (x ∷ xs) x.column =
    sum_apart (excepted_weight w (x ∷ xs)) (excepted_weight w xs) x.column n h.1 (λ c d. grind (arith, nat_tests)) in
    let here : excepted_weight w (x ∷ xs) x.column ≡ x.weight = grind (arith, nat_tests) in
    let below : excepted_weight w xs x.column ≡ w = excepted_low w (x.column + 1) n x.column xs h.2 (omega arith) in
    let more : suc (length xs) * w ≡ w + length xs * w = grind arith in
    omega (arith, rest, apart, here, below, more)

pub excepted_scale : (w n scale : ℕ) (xs : List Cell) → Rises 0 n xs → w * (n - length xs) + sum_of_weights xs ≡ scale
    → sum_below (excepted_weight w xs) n ≡ scale
excepted_scale w n scale xs h total =
    let all = excepted_sum w 0 n xs h in
    let count = few 0 n xs h (omega arith) in
    let parts = split w (n - length xs) (length xs) n (omega arith) in
    omega (arith, all, parts, total)
  where
    split : (w others count n : ℕ) → others + count ≡ n → w * others + count * w ≡ n * w
    split w others count n e = grind arith

-- exceptions that are no greater than this many
pub over_sum : (b low n : ℕ) (xs : List Cell) (f : ℕ → ℕ) → Rises low n xs
    → ((c : ℕ) → low ≤ c → c < n → weight_over xs f c ≤ b) → sum_of_weights xs ≤ b * length xs
over_sum b low n [] f h small = omega arith
over_sum b low n (x ∷ xs) f h small =
    let rest = over_sum b (x.column + 1) n xs f h.2 (λ c m l. grind (arith, nat_tests)) in
    let here : weight_over (x ∷ xs) f x.column ≡ x.weight = grind (arith, nat_tests) in
    let more : b * suc (length xs) ≡ b + b * length xs = grind arith in
    omega (arith, rest, here, small x.column h.0 h.1, more)

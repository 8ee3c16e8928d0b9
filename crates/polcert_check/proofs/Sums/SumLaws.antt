-- Laws of sums of integers.
use Rattle.std.proofs.Common.{◌≡◌, ℕ, zero, suc, ◌+◌, ◌*◌, ◌<◌, ℤ, pos, ◌+ℤ◌, ◌*ℤ◌, ◌≤ℤ◌, Bool, cond, List, [], ◌∷◌, ◌++◌, map, filter}
use Rattle.std.proofs.Common.{flat_map, sym, refl, ap, ◌∙◌, arith, All}
use Rattle.polcert_check.proofs.Common.{range_with_len, All-head, All-tail, +ℤ_assoc, +ℤ_idl, +ℤ_idr, *ℤ-zero, zero-*ℤ, total_below}
use Rattle.polcert_check.proofs.Common.{sum_over}
use Rattle.std.specs.Prelude.{⊤}
use Rattle.polcert_check.proofs.Sums.Ring.{linear, products, sums, *ℤ-+ℤ, +ℤ-*ℤ}

module _ (f : ℕ → ℤ) (g : ℕ → ℤ) where
  -- ---- sums below n
  pub sum_below_same : (n : ℕ) → ((i : ℕ) → i < n → f i ≡ g i) → total_below f n ≡ total_below g n
  sum_below_same zero h = refl
  sum_below_same (suc n) h =
      cc (sum_below_same n (λ i l. h i (omega arith)), h n (omega arith))

  pub sum_below_le : (n : ℕ) → ((i : ℕ) → i < n → f i ≤ℤ g i) → total_below f n ≤ℤ total_below g n
  sum_below_le zero h = omega (arith, linear)
  sum_below_le (suc n) h =
      omega (arith, linear, sum_below_le n (λ i l. h i (omega arith)), h n (omega arith))

pub sum_below_scale : (a : ℤ) (f : ℕ → ℤ) (n : ℕ) → total_below (λ i. a *ℤ f i) n ≡ a *ℤ total_below f n
sum_below_scale a f zero = sym (*ℤ-zero a)
sum_below_scale a f (suc n) = rw (sum_below_scale a f n) (sym (*ℤ-+ℤ a (total_below f n) (f n)))

module _ (f : ℕ → ℤ) where
  pub sum_below_add : (g : ℕ → ℤ) (n : ℕ) → total_below (λ i. f i +ℤ g i) n ≡ total_below f n +ℤ total_below g n
  sum_below_add g zero = refl
  sum_below_add g (suc n) = rw (sum_below_add g n) (omega (arith, linear))

  pub sum_below_front : (n : ℕ) → total_below f (suc n) ≡ f 0 +ℤ total_below (λ i. f (suc i)) n
  sum_below_front zero = omega (arith, linear)
  sum_below_front (suc n) = grind (arith, +ℤ_assoc, sum_below_front n)

  pub sum_below_split : (a n : ℕ) → total_below f (a + n) ≡ total_below f a +ℤ total_below (λ i. f (a + i)) n
  sum_below_split a zero =
      let none : a + 0 ≡ a = omega arith in
      rw none (sym (+ℤ_idr (total_below f a)))
  sum_below_split a (suc n) =
      let more : a + suc n ≡ suc (a + n) = omega arith in
      rw (more, sum_below_split a n) (+ℤ_assoc (total_below f a) (total_below (λ i. f (a + i)) n) (f (a + n)))

  -- row after row
  pub sum_below_rows : (rows width : ℕ) → total_below f (rows * width)
      ≡ total_below (λ e. total_below (λ z. f (e * width + z)) width) rows
  sum_below_rows zero width =
      let none : 0 * width ≡ 0 = omega arith in
      rw none refl
  sum_below_rows (suc n) width =
      let more : suc n * width ≡ n * width + width = omega arith in
      rw (more, sum_below_split (n * width) width, sum_below_rows n width) refl

-- ---- sums over a list
pub sum_over_same_all : {X : Type 0} (P : X → Type 0) (f g : X → ℤ) (xs : List X) → ((x : X) → P x → f x ≡ g x) → All P xs
    → sum_over f xs ≡ sum_over g xs
sum_over_same_all P f g [] h a = refl
sum_over_same_all P f g (x ∷ xs) h a =
    cc (sum_over_same_all P f g xs h (All-tail P x xs a), h x (All-head P x xs a))

pub sum_over_same : {X : Type 0} (f g : X → ℤ) (xs : List X) → ((x : X) → f x ≡ g x) → sum_over f xs ≡ sum_over g xs
sum_over_same f g xs h = sum_over_same_all (λ _. ⊤) f g xs (λ x _. h x) (λ i d l. tt)

pub sum_over_scale : {X : Type 0} (a : ℤ) (f : X → ℤ) (xs : List X) → sum_over (λ x. a *ℤ f x) xs ≡ a *ℤ sum_over f xs
sum_over_scale a f [] = sym (*ℤ-zero a)
sum_over_scale a f (x ∷ xs) = rw (sum_over_scale a f xs) (sym (*ℤ-+ℤ a (f x) (sum_over f xs)))

pub sum_over_times : {X : Type 0} (m : ℤ) (f : X → ℤ) (xs : List X) → sum_over (λ x. f x *ℤ m) xs ≡ sum_over f xs *ℤ m
sum_over_times m f [] = sym (zero-*ℤ m)
sum_over_times m f (x ∷ xs) = rw (sum_over_times m f xs) (sym (+ℤ-*ℤ (f x) (sum_over f xs) m))

pub sum_over_zero : {X : Type 0} (xs : List X) → sum_over (λ x. pos 0) xs ≡ pos 0
sum_over_zero [] = refl
sum_over_zero (x ∷ xs) = rw (sum_over_zero xs) refl

pub sum_over_append : {X : Type 0} (f : X → ℤ) (xs ys : List X) → sum_over f (xs ++ ys) ≡ sum_over f xs +ℤ sum_over f ys
sum_over_append f [] ys = sym (+ℤ_idl (sum_over f ys))
sum_over_append f (x ∷ xs) ys = rw (sum_over_append f xs ys) (sym (+ℤ_assoc (f x) (sum_over f xs) (sum_over f ys)))

pub sum_over_map : {X Y : Type 0} (f : Y → ℤ) (h : X → Y) (xs : List X) → sum_over f (map h xs) ≡ sum_over (λ x. f (h x)) xs
sum_over_map f h [] = refl
sum_over_map f h (x ∷ xs) = ap (λ (s : ℤ). f (h x) +ℤ s) (sum_over_map f h xs)

pub sum_over_flat_map : {X Y : Type 0} (f : Y → ℤ) (h : X → List Y) (xs : List X)
    → sum_over f (flat_map h xs) ≡ sum_over (λ x. sum_over f (h x)) xs
sum_over_flat_map f h [] = refl
sum_over_flat_map f h (x ∷ xs) = sum_over_append f (h x) (flat_map h xs) ∙ ap (λ (s : ℤ). sum_over f (h x) +ℤ s) (sum_over_flat_map f h xs)

pub sum_over_filter : {X : Type 0} (f : X → ℤ) (p : X → Bool) (xs : List X)
    → sum_over f (filter p xs) ≡ sum_over (λ x. cond (p x) (f x) (pos 0)) xs
sum_over_filter f p [] = refl
sum_over_filter {X} f p (x ∷ xs) = grind (arith, sum_over_filter f p xs)

factor_algebra : (w a g x t s u : ℤ) → (w *ℤ x) *ℤ (a +ℤ g *ℤ t) +ℤ w *ℤ (a *ℤ s +ℤ g *ℤ u) ≡ w *ℤ (a *ℤ (x +ℤ s) +ℤ g *ℤ (x *ℤ t +ℤ u))
factor_algebra w a g x t s u = simp (products, sums)

-- a common factor taken out
pub sum_over_factor : {X : Type 0} (w a g : ℤ) (x t f : X → ℤ) (xs : List X) → ((i : X) → f i ≡ (w *ℤ x i) *ℤ (a +ℤ g *ℤ t i))
    → sum_over f xs ≡ w *ℤ (a *ℤ sum_over x xs +ℤ g *ℤ sum_over (λ i. x i *ℤ t i) xs)
sum_over_factor w a g x t f [] each = rw (*ℤ-zero a, *ℤ-zero g) (sym (*ℤ-zero w))
sum_over_factor w a g x t f (i ∷ xs) each = rw (each i, sum_over_factor w a g x t f xs each)
    (factor_algebra w a g (x i) (t i) (sum_over x xs) (sum_over (λ j. x j *ℤ t j) xs))

pub sum_over_parts : {X : Type 0} (h : ℤ) (x r v : X → ℤ) (xs : List X)
    → sum_over (λ i. x i *ℤ (r i +ℤ h *ℤ v i)) xs ≡ sum_over (λ i. x i *ℤ r i) xs +ℤ h *ℤ sum_over (λ i. x i *ℤ v i) xs
sum_over_parts h x r v [] = rw (*ℤ-zero h) refl
sum_over_parts h x r v (i ∷ xs) = rw (sum_over_parts h x r v xs) (simp (products, sums))

-- over n numbers, from a on
sum_over_from : (f : ℕ → ℤ) (a n : ℕ) → sum_over f (range_with_len a n) ≡ total_below (λ i. f (a + i)) n
sum_over_from f a zero = refl
sum_over_from f a (suc n) =
    let first : a ≡ a + 0 = omega arith in
    cc (
      sum_over_from f (a + 1) n,
      sum_below_same (λ i. f (a + 1 + i)) (λ i. f (a + suc i)) n
          (λ i _. ap f (omega arith)),
      first,
      sum_below_front (λ i. f (a + i)) n,
    )

pub sum_over_below : (f : ℕ → ℤ) (n : ℕ) → sum_over f (range_with_len 0 n) ≡ total_below f n
sum_over_below f n = sum_over_from f 0 n ∙ sum_below_same (λ i. f (0 + i)) f n (λ i _. ap f (omega arith))

-- ---- with a fact of each item
pub sum_over_le_all : {X : Type 0} (P : X → Type 0) (f g : X → ℤ) (xs : List X) → ((x : X) → P x → f x ≤ℤ g x) → All P xs
    → sum_over f xs ≤ℤ sum_over g xs
sum_over_le_all P f g [] h a = omega (arith, linear)
sum_over_le_all P f g (x ∷ xs) h a =
    omega (arith, linear, sum_over_le_all P f g xs h (All-tail P x xs a), h x (All-head P x xs a))

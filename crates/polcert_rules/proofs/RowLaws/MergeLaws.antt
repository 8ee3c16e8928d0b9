-- Newer cells over a row.
use Rattle.std.proofs.Common.{◌≡◌, ◌∙◌, ℕ, ◌+◌, ◌<◌, ◌≤◌, ◌==◌, Bool, true, cond, eqb, ltb, List, [], ◌∷◌, ◌++◌, length, refl, ap, arith}
use Rattle.polcert_rules.proofs.Common.{nat_tests, Cell, weight_at, IsRow, before, following, merged, weight_over, Rises}
use Rattle.std.specs.List.{list_all}
use Rattle.polcert_rules.specs.Steps.Merging.{with_cell, has_weight}
use Rattle.polcert_cells.proofs.SparseLaws.{Climbs, climbs_lower, climbs_from, sparse_from, weight_head, weight_tail, weight_below}

-- ---- the cells before a column and after it
climbs_before : (low n k : ℕ) (base rest : List Cell) → Climbs low n base → low ≤ k → Climbs k n rest → Climbs low n (before k base ++ rest)
climbs_before low n k [] rest h le g = climbs_lower low k n rest le g
climbs_before low n k (x ∷ xs) rest h le g = at (ltb x.column k) refl (λ l. climbs_before (x.column + 1) n k xs rest h.3 l g)
  where
    at : (b : Bool) → ltb x.column k ≡ b → (x.column + 1 ≤ k → Climbs (x.column + 1) n (before k xs ++ rest))
        → Climbs low n (cond b (x ∷ before k xs) [] ++ rest)
    at b h1 h2 = grind (arith, nat_tests, climbs_lower)

climbs_after : (low n k : ℕ) (base : List Cell) → Climbs low n base → Climbs (k + 1) n (following k base)
climbs_after low n k [] h = tt
climbs_after low n k (x ∷ xs) h = at (ltb x.column k) refl (eqb x.column k) refl (climbs_after (x.column + 1) n k xs h.3)
  where
    at : (b : Bool) → ltb x.column k ≡ b → (t : Bool) → eqb x.column k ≡ t → Climbs (k + 1) n (following k xs)
        → Climbs (k + 1) n (cond b (following k xs) (cond t xs (x ∷ xs)))
    at b h1 t h2 h3 = grind (arith, nat_tests)

-- a column before the given one
weight_before : (low n k c : ℕ) (base rest : List Cell) → Climbs low n base → c < k → weight_at rest c ≡ 0
    → weight_at (before k base ++ rest) c ≡ weight_at base c
weight_before low n k c [] rest h l z = z
weight_before low n k c (x ∷ xs) rest h l z = at (ltb x.column k) refl (weight_before (x.column + 1) n k c xs rest h.3 l z)
  where
    at : (b : Bool) → ltb x.column k ≡ b → weight_at (before k xs ++ rest) c ≡ weight_at xs c
        → weight_at (cond b (x ∷ before k xs) [] ++ rest) c ≡ weight_at (x ∷ xs) c
    at b h1 h2 = grind (arith, nat_tests, weight_below)

-- a column from the given one on
weight_after : (k c : ℕ) (base rest : List Cell) → k ≤ c → weight_at (before k base ++ rest) c ≡ weight_at rest c
weight_after k c [] rest l = refl
weight_after k c (x ∷ xs) rest l = grind (arith, nat_tests, weight_tail, weight_after k c xs rest l)

weight_following : (k c : ℕ) (base : List Cell) → k < c → weight_at (following k base) c ≡ weight_at base c
weight_following k c [] l = refl
weight_following k c (x ∷ xs) l = grind (arith, nat_tests, weight_tail, weight_following k c xs l)

-- ---- a cell in front
climbs_with : (k n : ℕ) (x : Cell) (xs : List Cell) → x.column ≡ k → k < n → Climbs (k + 1) n xs → Climbs k n (with_cell x xs)
climbs_with k n x xs e l h = grind (arith, nat_tests, climbs_lower)

weight_with_here : (k n : ℕ) (x : Cell) (xs : List Cell) → x.column ≡ k → Climbs (k + 1) n xs → weight_at (with_cell x xs) k ≡ x.weight
weight_with_here k n x xs e h = grind (arith, nat_tests, weight_head, weight_below)

weight_with_there : (c : ℕ) (x : Cell) (xs : List Cell) → (x.column ≡ c → ⊥) → weight_at (with_cell x xs) c ≡ weight_at xs c
weight_with_there c x xs d = grind arith

-- ---- the weights of newer cells over others
over_low : (low n c : ℕ) (newer : List Cell) (f : ℕ → ℕ) → Rises low n newer → c < low → weight_over newer f c ≡ f c
over_low low n c [] f h l = refl
over_low low n c (x ∷ xs) f h l = at (eqb x.column c) refl (over_low (x.column + 1) n c xs f h.2 (omega arith))
  where
    at : (b : Bool) → eqb x.column c ≡ b → weight_over xs f c ≡ f c → cond b x.weight (weight_over xs f c) ≡ f c
    at b h1 h2 = grind (arith, nat_tests)

pub over_same : (newer : List Cell) (f g : ℕ → ℕ) (c : ℕ) → f c ≡ g c → weight_over newer f c ≡ weight_over newer g c
over_same [] f g c e = e
over_same (x ∷ xs) f g c e = ap (cond (eqb x.column c) x.weight) (over_same xs f g c e)

pub merged_climbs : (low n : ℕ) (base newer : List Cell) → Climbs low n base → Rises low n newer → Climbs low n (merged base newer)
merged_climbs low n base [] h r = h
merged_climbs low n base (x ∷ xs) h r =
    climbs_before low n x.column base (with_cell x (merged (following x.column base) xs)) h r.0
    (climbs_with x.column n x (merged (following x.column base) xs) refl r.1
    (merged_climbs (x.column + 1) n (following x.column base) xs (climbs_after low n x.column base h) r.2))

pub merged_weights : (low n c : ℕ) (base newer : List Cell) → Climbs low n base → Rises low n newer
    → weight_at (merged base newer) c ≡ weight_over newer (weight_at base) c
merged_weights low n c base [] h r = refl
merged_weights low n c base (x ∷ xs) h r =
    at (ltb c x.column) refl (eqb x.column c) refl (merged_weights (k + 1) n c _ xs (climbs_after low n k base h) r.2)
  where
    k : ℕ
    k = x.column

    rest : List Cell
    rest = merged (following k base) xs

    rest_climbs : Climbs (k + 1) n rest
    rest_climbs = merged_climbs _ n _ xs (climbs_after low n k base h) r.2

    at : (b : Bool) → ltb c k ≡ b → (t : Bool) → eqb k c ≡ t → weight_at rest c ≡ weight_over xs (weight_at (following k base)) c
        → weight_at (before k base ++ with_cell x rest) c ≡ cond t x.weight (weight_over xs (weight_at base) c)
    at b h1 t h2 h3 = grind (
      arith,
      nat_tests,
      weight_below,
      weight_before,
      weight_after,
      weight_following,
      climbs_with,
      weight_with_here,
      weight_with_there,
      over_low,
      over_same,
      k,
      rest,
      rest_climbs,
    )

-- newer cells over a row are a row
pub merged_row : (n : ℕ) (f : ℕ → ℕ) (base newer : List Cell) → IsRow n f base → Rises 0 n newer
    → IsRow n (weight_over newer f) (merged base newer)
merged_row n f base newer row r =
    let h = climbs_from n base row.sparse in
    record {
      sparse = sparse_from 0 n _ (merged_climbs 0 n base _ h r);
      each = λ c l. merged_weights 0 n c base _ h r ∙ over_same _ _ f c (row.each c l);
    }

-- cells that all have a weight stay as they are over no row
pub positive_stay : (newer : List Cell) → list_all has_weight newer ≡ true → newer ≡ merged [] newer
positive_stay [] positive = refl
positive_stay (x ∷ xs) positive = grind (arith, nat_tests, positive_stay xs)

pub over_none : (base newer : List Cell) → (length base == 0) ≡ true → list_all has_weight newer ≡ true → newer ≡ merged base newer
over_none [] newer none positive = positive_stay _ positive
over_none (x ∷ xs) newer none positive = absurd (grind (arith, nat_tests))

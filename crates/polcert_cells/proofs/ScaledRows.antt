-- Rows whose weights are numbers times a scale.
use Rattle.std.proofs.Common.{◌≡◌, ◌∙◌, ℕ, zero, suc, ◌+◌, ◌*◌, ◌<◌, Bool, true, false, cond, ltb, List, [], ◌∷◌, length, slice_index, refl}
use Rattle.std.proofs.Common.{sym, subst, arith}
use Rattle.polcert_cells.proofs.Common.{nat_tests, Cell, weight_at, scaled_cells, IsRow}
use Rattle.polcert_cells.proofs.SparseLaws.{Climbs, cell_of, climbs_lower, sparse_from, weight_head, weight_tail, weight_below}

pub climbs_scaled : (scale k : ℕ) (ns : List ℕ) → Climbs k (k + length ns) (scaled_cells scale k ns)
climbs_scaled scale k [] = tt
climbs_scaled scale k (n ∷ ns) =
    at (subst (λ m. Climbs (k + 1) m (scaled_cells scale (k + 1) ns)) (omega arith) (climbs_scaled scale (k + 1) ns)) (ltb 0 (n * scale))
    refl
  where
    at : Climbs (k + 1) (k + suc (length ns)) (scaled_cells scale (k + 1) ns) → (b : Bool) → ltb 0 (n * scale) ≡ b
        → Climbs k (k + suc (length ns)) (cond b (cell_of k (n * scale) ∷ scaled_cells scale (k + 1) ns) (scaled_cells scale (k + 1) ns))
    at rest true e = let some : 0 < n * scale = grind (arith, nat_tests) in (omega arith, omega arith, some, rest)
    at rest false e = climbs_lower k (k + 1) (k + suc (length ns)) (scaled_cells scale (k + 1) ns) (omega arith) rest

pub weight_scaled : (scale k : ℕ) (ns : List ℕ) (i : ℕ) → weight_at (scaled_cells scale k ns) (k + i) ≡ slice_index ns i * scale
weight_scaled scale k [] i = let none : 0 * scale ≡ 0 = omega arith in sym none
weight_scaled scale k (n ∷ ns) zero = at (ltb 0 (n * scale)) refl
  where
    xs : List Cell
    xs = scaled_cells scale (k + 1) ns

    at : (b : Bool) → ltb 0 (n * scale) ≡ b → weight_at (cond b (cell_of k (n * scale) ∷ xs) xs) (k + 0) ≡ n * scale
    at true e = weight_head (cell_of k (n * scale)) xs (k + 0) (omega arith)
    at false e =
        let none : n * scale ≡ 0 = grind (arith, nat_tests) in
        weight_below (k + 1) (k + 1 + length ns) (k + 0) xs (climbs_scaled scale (k + 1) ns) (omega arith) ∙ sym none
weight_scaled scale k (n ∷ ns) (suc i) = grind (arith, cell_of, weight_tail, weight_scaled scale (k + 1) ns i)

pub scaled_weight : (scale : ℕ) (ns : List ℕ) (c : ℕ) → weight_at (scaled_cells scale 0 ns) c ≡ slice_index ns c * scale
scaled_weight scale ns c = let same : 0 + c ≡ c = omega arith in
    subst (λ k. weight_at (scaled_cells scale 0 ns) k ≡ slice_index ns c * scale) same (weight_scaled scale 0 ns c)

pub scaled_row : (scale : ℕ) (ns : List ℕ) → IsRow (length ns) (λ c. slice_index ns c * scale) (scaled_cells scale 0 ns)
scaled_row scale ns =
    let size : 0 + length ns ≡ length ns = omega arith in
    record {
      sparse = sparse_from 0 (length ns) _ (subst (λ m. Climbs 0 m (scaled_cells scale 0 ns)) size (climbs_scaled scale 0 ns));
      each
          = λ c l. scaled_weight scale ns c;
    }

-- The sum over the start of the greatest values: how large it is, and one term more.
use Rattle.std.proofs.Common.{◌≡◌, ℕ, ◌+◌, ◌*◌, ◌<◌, ◌≤◌, ℤ, pos, ◌+ℤ◌, ◌*ℤ◌, unsigned_abs, FitsSigned, to_z, of_z, w64, refl, sym, ◌∙◌}
use Rattle.std.proofs.Common.{arith}
use Rattle.polcert_optimum.proofs.Common.{w128, int_max, largest, Meaning, HasLimitedNumbers, states_of, start_weight, start_total}
use Rattle.polcert_optimum.proofs.Common.{PolicyVectors, value_of, total_below, greatest_below}
use Rattle.std.proofs.lemmas.Int.{to_z-of_z}
use Rattle.std.proofs.Math.Numerals.{add-one}
use Rattle.polcert_policy.specs.Vectors.{AreProperVectors}
use Rattle.polcert_check.proofs.Certificates.{value_is_within}
use Rattle.polcert_check.proofs.Horizons.StartSums.{start_row, term_small, start_fits}
use Rattle.polcert_check.proofs.Sums.Bounds.{abs_part_le}
use Rattle.polcert_optimum.proofs.Greatest.{greatest_more, greatest_reached, max_small}

-- one value more
pub one_value_more : (f : ℕ → ℤ) (n most : ℕ) (g x y : ℤ) → 0 < n → g ≡ greatest_below f n → unsigned_abs g ≤ most → y ≡ f n
    → unsigned_abs (f n) ≤ most → x ≡ int_max g y
    → (x ≡ greatest_below f (n + 1)) × (unsigned_abs x ≤ most)
one_value_more f n most g x y some before small is within max =
    ((rw (sym before, sym is) max) ∙ sym (greatest_more f n some), rw max (max_small g y most small (rw is within)))

module _ (m : Meaning) (v : PolicyVectors) (limits : HasLimitedNumbers m) (proper : AreProperVectors v) (same : v.states ≡ states_of m)
  where
    abbrev pub best : ℕ → ℤ
    best s = greatest_below (λ n. value_of v n s) v.nodes

    pub best_part_le : (i : ℕ) → i ≤ states_of m → unsigned_abs (total_below (λ s. pos (start_weight m s) *ℤ best s) i) ≤ start_total m
        * largest
    best_part_le i il =
        abs_part_le _ _ _ i _ _ (start_row m limits) il
        (λ s sl. term_small _ _ (let (n, nl, is) = greatest_reached (λ n. value_of v n s) _ proper.some_nodes in
        rw (sym is) (value_is_within v proper n s nl (omega arith))))

    -- the code's sum takes one more term
    pub best_step : (s share : ℕ) (value x total : ℤ) → s < states_of m → share ≡ start_weight m s → value ≡ best s → FitsSigned w64 value
        → FitsSigned w128 x → x ≡ pos share *ℤ to_z w64 (of_z w64 value) → total ≡ total_below (λ i. pos (start_weight m i) *ℤ best i) s
        → FitsSigned w128 (total +ℤ to_z w128 (of_z w128 x))
        × (to_z w128 (of_z w128 (total +ℤ to_z w128 (of_z w128 x))) ≡ total_below (λ i. pos (start_weight m i) *ℤ best i) (s + 1))
    best_step s share value x total sl share_is value_is fv fx x_is before =
        let here : to_z w128 _ ≡ pos (start_weight m s) *ℤ best s = to_z-of_z w128 x fx ∙ x_is
        ∙ rw (to_z-of_z w64 value fv, share_is, value_is) refl in
        let next : total +ℤ to_z w128 _ ≡ total_below (λ i. pos (start_weight m i) *ℤ best i) (s + 1) =
        rw add-one (cc) in
        let fits : FitsSigned w128 _ =
        rw next (start_fits _ _ limits.start_most (best_part_le (s + 1) (omega arith))) in
        (fits, to_z-of_z w128 _ fits ∙ next)

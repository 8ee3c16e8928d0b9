-- End states that show the same: one vector is the best after each observation.
use Rattle.std.proofs.Common.{◌≡◌, ℕ, zero, suc, ◌*◌, ◌<◌, ◌≤◌, ⊎_elim, ℤ, pos, ◌*ℤ◌, ◌≤ℤ◌, ◌<ℤ◌, unsigned_abs, refl, sym, ap, ◌∙◌}
use Rattle.std.proofs.Common.{arith}
use Rattle.polcert_optimum.proofs.Common.{*ℤ_comm, cases_lt, clamps, ints, int_max, largest, CellTable, IsProper, IsWithinLimits}
use Rattle.polcert_optimum.proofs.Common.{expected_value, greatest_below, best_value}
use Rattle.std.proofs.lemmas.Int.{by_lt_z}
use Rattle.polcert_check.specs.Steps.Exceptions.{IsWeighed}
use Rattle.polcert_check.proofs.Sums.Ring.{linear, mul_le, *ℤ_assoc, *ℤ_left_comm}
use Rattle.polcert_check.proofs.Sums.SumLaws.{sum_below_same, sum_below_scale}
use Rattle.polcert_check.proofs.Sums.RowTotals.{t_rows, o_rows}
use Rattle.polcert_check.proofs.Sums.Scales.{scales_small}
use Rattle.polcert_check.proofs.Sums.Bounds.{abs-*ℤ_le, abs_part_le}
use Rattle.polcert_check.proofs.Sums.Gaps.{no_weight}
use Rattle.polcert_optimum.specs.Steps.Sums.{ShowSame, mean_value}

-- ---- the greatest of multiples
max_later : (x y : ℤ) → x ≤ℤ y → int_max x y ≡ y
max_later x y l = omega (arith, ints, clamps)

max_earlier : (x y : ℤ) → y ≤ℤ x → int_max x y ≡ x
max_earlier x y l = omega (arith, ints, clamps)

greatest_scaled : (k : ℕ) (f : ℕ → ℤ) (n : ℕ) → 0 < n → greatest_below (λ b. pos k *ℤ f b) n ≡ pos k *ℤ greatest_below f n
greatest_scaled k f zero some = absurd (omega arith)
greatest_scaled k f (suc zero) some = refl
greatest_scaled k f (suc (suc n)) some =
    ap (λ (x : ℤ). int_max x (pos k *ℤ f (suc n))) (greatest_scaled k f (suc n) (omega arith))
    ∙ by_lt_z _ _ (λ (l : _ <ℤ _). let le : _ ≤ℤ _ = omega (arith, linear, l) in max_later _ _ (mul_le k _ _ le)
    ∙ ap (λ (m : ℤ). pos k *ℤ m) (sym (omega (arith, ints, clamps))))
    (λ (le : _ ≤ℤ _). max_earlier _ _ (mul_le k _ _ le) ∙ ap (λ (m : ℤ). pos k *ℤ m) (sym (omega (arith, ints, clamps))))

-- ---- the best vector
module _ (t : CellTable) (vectors : ℕ → ℕ → ℤ) (a s first : ℕ) (same : ShowSame t a s first) where
  value_is : (z b : ℕ) → z < t.observations → expected_value t a s z (vectors b) ≡ pos (t.o a first z) *ℤ mean_value t (vectors b) a s
  value_is z b zl = sum_below_same _ _ _ (λ e el. *ℤ_assoc (pos (t.t a s e)) (pos _) _
      ∙ ⊎_elim (λ (some : 0 < t.t a s e). ap (λ (n : ℕ). pos (t.t a s e) *ℤ (pos n *ℤ vectors b e)) (same.each e el some z zl))
      (λ (h : t.t a s e ≤ 0). let none : t.t a s e ≡ 0 = omega arith in no_weight _ _ none ∙ sym (no_weight _ _ none)) (cases_lt 0 _)
      ∙ *ℤ_left_comm (pos (t.t a s e)) (pos _) _)
      ∙ sum_below_scale (pos _) _ t.states

  abbrev most : ℤ
  most = greatest_below (λ b. mean_value t (vectors b) a s) t.actions

  pub uninformed_is : IsProper t → a < t.actions
      → pos t.o_scale *ℤ greatest_below (λ b. mean_value t (vectors b) a s) t.actions ≡ best_value t vectors a s
  uninformed_is p al =
      sym (sum_below_same _ _ _ (λ z zl. (λ i. greatest_below (λ b. value_is z b zl i) t.actions)
      ∙ greatest_scaled _ (λ b. mean_value t (vectors b) a s) _ (omega arith)
      ∙ *ℤ_comm _ most)
      ∙ sum_below_scale most _ t.observations
      ∙ ap (λ (x : ℤ). most *ℤ x) (o_rows t p a first al same.within)
      ∙ *ℤ_comm most _)

-- ---- how large
pub means_weighed : (t : CellTable) → IsProper t → IsWithinLimits t → (a s : ℕ) → a < t.actions → s < t.states
    → IsWeighed (t.t a s) t.states t.t_scale largest
means_weighed t p limits a s al sl =
    let some : 1 ≤ t.o_scale = omega arith in
    let same : largest ≤ largest = omega arith in
    record {
      all = t_rows t p a s al sl;
      small = (scales_small t limits).0;
      room = omega arith;
    }

pub mean_le : (t : CellTable) → IsProper t → (vector : ℕ → ℤ) → ((e : ℕ) → e < t.states → unsigned_abs (vector e) ≤ largest) → (a s : ℕ)
    → a < t.actions → s < t.states → unsigned_abs (mean_value t vector a s) ≤ t.t_scale * largest
mean_le t p vector small a s al sl =
    abs_part_le _ _ _ t.states _ _ (t_rows t p a s al sl) (omega arith)
    (λ e el. abs-*ℤ_le (pos (t.t a s e)) _ _ _ (omega arith) (small e el))

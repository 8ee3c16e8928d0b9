-- A worst row has the least mean of all rows within the intervals, on any scale.
use Rattle.std.proofs.Common.{◌≡◌, ℕ, zero, suc, ◌+◌, ◌*◌, ◌<◌, ◌≤◌, ℤ, pos, neg_ℤ, ◌+ℤ◌, ◌-ℤ◌, ◌*ℤ◌, ◌≤ℤ◌, ◌<ℤ◌, sym, ap, ◌∙◌, arith}
use Rattle.std.proofs.lemmas.Int.{by_lt_z}
use Rattle.std.proofs.Math.IntN.{*ℤ-zero, zero-*ℤ}
use Rattle.polcert_cells.specs.Meaning.{sum_below}
use Rattle.polcert_check.specs.Horizon.{total_below}
use Rattle.polcert_robust.specs.Worst.{IsWorstRow, mean}
use Rattle.polcert_robust.specs.Intervals.{IsBetween}
use Rattle.polcert_check.proofs.Sums.SumLaws.{sum_below_same, sum_below_le, sum_below_scale}
use Rattle.polcert_check.proofs.Sums.Ring.{linear, mul_le, ≤ℤ_trans, ≤ℤ_from_eq, *ℤ-+ℤ, +ℤ-*ℤ, *ℤ_assoc, *ℤ_left_comm, neg_product}
use Rattle.polcert_check.proofs.Sums.Ring.{sub_add_cancel}

-- ---- products
pub pos_product : (a b : ℕ) (x : ℤ) → pos (a * b) *ℤ x ≡ pos a *ℤ (pos b *ℤ x)
pos_product a b x = *ℤ_assoc (pos a) (pos b) x

pub pos_sum : (a b : ℕ) (x : ℤ) → pos (a + b) *ℤ x ≡ pos a *ℤ x +ℤ pos b *ℤ x
pos_sum a b x = +ℤ-*ℤ (pos a) (pos b) x

pub times_less : (a b c : ℤ) → a *ℤ (b -ℤ c) ≡ a *ℤ b -ℤ a *ℤ c
times_less a b c = omega (arith, linear, *ℤ-+ℤ a (b -ℤ c) c, ap (λ (y : ℤ). a *ℤ y) (sub_add_cancel b c))

weight_up : (a b : ℕ) (x : ℤ) → a ≤ b → pos 0 ≤ℤ x → (pos a *ℤ x) ≤ℤ (pos b *ℤ x)
weight_up a b x l h = grind arith

no_weight : (a b : ℕ) (x : ℤ) → x ≡ pos 0 → (pos a *ℤ x) ≤ℤ (pos b *ℤ x)
no_weight a b x e = rw e (≤ℤ_from_eq _ _ (*ℤ-zero (pos a) ∙ sym (*ℤ-zero (pos b))))

pub le_cancel : (a : ℕ) (x y : ℤ) → 0 < a → (pos a *ℤ x) ≤ℤ (pos a *ℤ y) → x ≤ℤ y
le_cancel a x y some h =
    by_lt_z y x
    (λ l. absurd (omega (arith, linear, mul_le a (y +ℤ pos 1) x (omega (arith, linear)), *ℤ-+ℤ (pos a) y (pos 1))))
    (λ le. le)

-- ---- means
-- the mean of what is left above a level
pub centered : (w : ℕ → ℕ) (x : ℕ → ℤ) (level : ℤ) (n : ℕ)
    → total_below (λ i. pos (w i) *ℤ (x i -ℤ level)) n ≡ mean w x n -ℤ pos (sum_below w n) *ℤ level
centered w x level zero = omega (arith, linear, zero-*ℤ level)
centered w x level (suc n) =
    omega (arith, linear, centered w x level n, times_less (pos (w n)) (x n) level, pos_sum (sum_below w n) (w n) level)

pub mean_le : (q : ℕ → ℕ) (f g : ℕ → ℤ) (n b c : ℕ) → ((e : ℕ) → e < n → (pos b *ℤ f e) ≤ℤ (pos c *ℤ g e))
    → (pos b *ℤ mean q f n) ≤ℤ (pos c *ℤ mean q g n)
mean_le q f g n b c h =
    ≤ℤ_trans _ _ _ (≤ℤ_from_eq _ _ (sym (sum_below_scale (pos b) _ n)))
    (≤ℤ_trans _ _ _ (sum_below_le _ _ n (λ e l. each e (h e l)))
    (≤ℤ_from_eq _ _ (sum_below_scale (pos c) _ n)))
  where
    each : (e : ℕ) → (pos b *ℤ f e) ≤ℤ (pos c *ℤ g e) → (pos b *ℤ (pos (q e) *ℤ f e)) ≤ℤ (pos c *ℤ (pos (q e) *ℤ g e))
    each e k = omega (arith, linear, *ℤ_left_comm (pos b) (pos (q e)) (f e), *ℤ_left_comm (pos c) (pos (q e)) (g e), mul_le (q e) _ _ k)

-- ---- one weight of a worst row, and of another row
term : (low high scale w q q_scale : ℕ) (x level : ℤ) → IsBetween low high scale q q_scale → (x <ℤ level → w ≡ high)
    → (level <ℤ x → w ≡ low)
    → (pos (w * q_scale) *ℤ (x -ℤ level)) ≤ℤ (pos (q * scale) *ℤ (x -ℤ level))
term low high scale w q q_scale x level between below above =
    by_lt_z x level
    (λ l. omega (
      arith,
      linear,
      weight_up (q * scale) (w * q_scale) (neg_ℤ (x -ℤ level)) (rw (below l) between.to) (omega (arith, linear)),
      neg_product (pos (w * q_scale)) (x -ℤ level),
      neg_product (pos (q * scale)) (x -ℤ level),
    ))
    (λ at_least.
    by_lt_z level x
    (λ l. weight_up _ (q * scale) _ (rw (above l) between.from) (omega (arith, linear)))
    (λ at_most. no_weight _ (q * scale) _ (omega (arith, linear))))

-- ---- the law
cancel_level : (p q : ℕ) (a b level : ℤ) → (pos q *ℤ (a -ℤ pos p *ℤ level)) ≤ℤ (pos p *ℤ (b -ℤ pos q *ℤ level))
    → (pos q *ℤ a) ≤ℤ (pos p *ℤ b)
cancel_level p q a b level h =
    omega (arith, linear, times_less (pos q) a (pos p *ℤ level), times_less (pos p) b (pos q *ℤ level), *ℤ_left_comm (pos q) (pos p) level)

pub worst_row_is_least : (low high : ℕ → ℕ) (scale count : ℕ) (x : ℕ → ℤ) (row : ℕ → ℕ) → IsWorstRow low high scale count x row
    → (q : ℕ → ℕ) (q_scale : ℕ) → ((i : ℕ) → i < count → IsBetween (low i) (high i) scale (q i) q_scale) → sum_below q count ≡ q_scale
    → (pos q_scale *ℤ mean row x count) ≤ℤ (pos scale *ℤ mean q x count)
worst_row_is_least low high scale count x row worst q q_scale between sums =
    cancel_level scale _ _ _ _
    (≤ℤ_trans _ _ _ (≤ℤ_from_eq _ _ (sym (side row scale _ worst.sums)))
    (omega (arith, linear, sum_below_le _ _ count each, side q _ scale sums)))
  where
    side : (w : ℕ → ℕ) (total b : ℕ) → sum_below w count ≡ total
        → total_below (λ i. pos (w i * b) *ℤ (x i -ℤ worst.level)) count ≡ pos b *ℤ (mean w x count -ℤ pos total *ℤ worst.level)
    side w total b e =
        sum_below_same _ _ count (λ i _. cc (
          *ℤ_left_comm (pos b) (pos (w i)) (x i -ℤ worst.level),
          pos_product (w i) b
              (x i -ℤ worst.level),
        ))
        ∙ sum_below_scale (pos b) _ count
        ∙ ap (λ (y : ℤ). pos b *ℤ y) (centered w x _ count)
        ∙ ap (λ (k : ℕ). pos b *ℤ (mean w x count -ℤ pos k *ℤ worst.level)) e

    each : (i : ℕ) → i < count → (pos (row i * q_scale) *ℤ (x i -ℤ worst.level)) ≤ℤ (pos (q i * scale) *ℤ (x i -ℤ worst.level))
    each i l = term _ _ scale _ (q i) _ (x i) _ (between i l) (worst.below i l) (worst.above i l)

-- A row of T and the rows of O at its end states as one row of weights, end state after end state.
use Rattle.polcert_check.proofs.Common.{reward_at_end}
use Rattle.std.proofs.Common.{◌≡◌, ◌∙◌, ℕ, ◌+◌, ◌*◌, ◌/◌, ◌%◌, ◌^◌, ◌<◌, ◌≤◌, ℤ, pos, ◌*ℤ◌, unsigned_abs, List, refl, ap, arith}
use Rattle.polcert_check.proofs.Common.{*ℤ_comm, largest, CellTable, IsProper, IsWithinLimits, CommonReward, RewardCell, row_reward, one}
use Rattle.polcert_check.proofs.Common.{total_below, factored_reward, most_scales, AreExcepted, IsWeighed, row_weight}
use Rattle.polcert_check.proofs.Common.{weighed_total}
use Rattle.polcert_cells.specs.CommonRewards.{IsCommonReward}
use Rattle.std.proofs.Math.Nat.{mul-le-mul, div-lt_iff_lt-mul, mod-lt}
use Rattle.std.proofs.lemmas.Nat.{div-mul-add, mod-mul-add}
use Rattle.polcert_check.proofs.Sums.Bounds.{term_le}
use Rattle.polcert_check.proofs.Sums.Ring.{*ℤ_assoc}
use Rattle.polcert_check.proofs.Sums.RowTotals.{t_rows, o_rows}
use Rattle.polcert_check.proofs.Sums.Scales.{scales_le, scales_small}
use Rattle.polcert_check.proofs.Sums.SumLaws.{sum_below_same, sum_below_scale, sum_below_rows}

-- ---- one row of both

module _ (m : CellTable) (a s : ℕ) where
  weight_at : (e z : ℕ) → z < m.observations → row_weight m a s (e * m.observations + z) ≡ m.t a s e * m.o a e z
  weight_at e z l = rw (div-mul-add e _ z l, mod-mul-add e _ z l) refl

  reward_at : (e z : ℕ) → z < m.observations → row_reward m a s (e * m.observations + z) ≡ m.r a s e z
  reward_at e z l = ap (λ k. m.r a s k ((e * m.observations + z) % m.observations)) (div-mul-add e _ z l)
      ∙ ap (m.r a s e) (mod-mul-add e _ z l)

  -- the sum of all is the nested one
  pub row_total : weighed_total (row_weight m a s) (row_reward m a s) (m.states * m.observations) ≡ factored_reward m a s
  row_total =
      sum_below_rows (λ k. pos (row_weight m a s k) *ℤ row_reward m a s k) m.states m.observations
      ∙ sum_below_same _ (λ e. pos (m.t a s e) *ℤ reward_at_end m a s e) m.states (λ e el.
      sum_below_same _ (λ z. pos (m.t a s e) *ℤ (pos (m.o a e z) *ℤ m.r a s e z)) m.observations (λ z zl. here e z zl)
      ∙ sum_below_scale (pos (m.t a s e)) (λ z. pos (m.o a e z) *ℤ m.r a s e z) m.observations)
    where
      here : (e z : ℕ) → z < m.observations → pos (row_weight m a s (e * m.observations + z)) *ℤ row_reward m a s (e * m.observations + z)
          ≡ pos (m.t a s e) *ℤ (pos (m.o a e z) *ℤ m.r a s e z)
      here e z l =
          ap (λ (k : ℕ). pos k *ℤ row_reward m a s (e * m.observations + z)) (weight_at e z l)
          ∙ ap (λ (x : ℤ). pos (m.t a s e * m.o a e z) *ℤ x) (reward_at e z l) ∙ *ℤ_assoc (pos (m.t a s e)) (pos (m.o a e z)) (m.r a s e z)

-- a number is of one end state and one observation
pub end_of : (m : CellTable) → IsWithinLimits m → (k : ℕ) → k < m.states * m.observations → k / m.observations < m.states
end_of m limits k l = (div-lt_iff_lt-mul limits.observations.0).1 l

pub observation_of : (m : CellTable) → IsWithinLimits m → (k : ℕ) → k % m.observations < m.observations
observation_of m limits k = mod-lt k limits.observations.0

module _ (m : CellTable) (p : IsProper m) (limits : IsWithinLimits m) (a s : ℕ) (al : a < m.actions) (sl : s < m.states) where
  weights_total : total_below (λ k. pos (row_weight m a s k)) (m.states * m.observations) ≡ pos (m.t_scale * m.o_scale)
  weights_total =
      sum_below_rows (λ k. pos (row_weight m a s k)) m.states m.observations
      ∙ sum_below_same _ _ _ (λ e el.
      sum_below_same _ _ _ (λ z zl. ap pos (weight_at m a s e z zl))
      ∙ sum_below_scale (pos (m.t a s e)) _ m.observations
      ∙ ap (λ x. pos (m.t a s e) *ℤ x) (o_rows m p a e al el) ∙ *ℤ_comm (pos (m.t a s e)) (pos m.o_scale))
      ∙ sum_below_scale (pos m.o_scale) _ m.states
      ∙ ap (λ x. pos m.o_scale *ℤ x) (t_rows m p a s al sl) ∙ *ℤ_comm (pos m.o_scale) (pos m.t_scale)

  both_weighed : IsWeighed (row_weight m a s) (m.states * m.observations) (m.t_scale * m.o_scale) (2 * largest)
  both_weighed = record {
    all = weights_total;
    small = omega (arith, scales_le m limits);
    room = omega (arith, scales_le m limits);
  }

  -- a weight of both has 63 bits
  pub weight_of_both : (e z : ℕ) → e < m.states → z < m.observations → m.t a s e * m.o a e z ≤ most_scales
  weight_of_both e z el zl =
      omega (
        arith,
        (mul-le-mul (term_le (m.t a s) e m.states m.t_scale (t_rows m p a s al sl) el)
            (term_le (m.o a e) z m.observations m.o_scale (o_rows m p a e al el) zl)),
        scales_le m limits,
      )

  -- ---- rewards of a start state, and of an end state

  pub row_excepted : (answers : ℕ → ℕ → Type 0) (scale : ℕ) (common : CommonReward) (cells : List RewardCell)
      → ((k weight : ℕ) → k < m.states * m.observations → answers k weight → weight ≡ row_weight m a s k)
      → scale ≡ m.t_scale * m.o_scale → unsigned_abs common.reward ≤ largest
      → IsCommonReward (row_reward m a s) (m.states * m.observations) common cells
      → AreExcepted answers scale common cells (row_weight m a s) (row_reward m a s) (m.states * m.observations) (2 * largest)
  row_excepted answers scale common cells answer same small is = record {
    answer = answer;
    weighed = rw same both_weighed;
    rewards = is;
    small = omega (arith, small);
    limited = λ k l. limits.r a s _ _ al sl (end_of m limits k l) (observation_of m limits k);
  }

  pub end_excepted : (e : ℕ) → e < m.states → (answers : ℕ → ℕ → Type 0) (scale : ℕ) (common : CommonReward) (cells : List RewardCell)
      → ((z weight : ℕ) → z < m.observations → answers z weight → weight ≡ m.o a e z)
      → scale ≡ m.o_scale → unsigned_abs common.reward ≤ 2 ^ 63 → IsCommonReward (m.r a s e) m.observations common cells
      → AreExcepted answers scale common cells (m.o a e) (m.r a s e) m.observations (2 ^ 64)
  unfolding one
  end_excepted e el answers scale common cells answer same small is = record {
    answer = answer;
    weighed = rw same (record {
      all = o_rows m p a e al el;
      small = (scales_small m limits).1;
      room = omega (arith, limits.o_scale, limits.observations.1);
    });
    rewards = is;
    small = omega (arith, small);
    limited = λ z. limits.r a s e z al sl el;
  }

-- Rows of weights, summed as whole numbers.
use Rattle.std.proofs.Common.{◌≡◌, ℕ, zero, suc, ◌<◌, pos, refl, ap, ◌∙◌, ℤ, ◌+ℤ◌}
use Rattle.polcert_cells.specs.Meaning as meaning
use Rattle.polcert_check.proofs.Common.{CellTable, IsProper, total_below}

pub sum_of_pos : (f : ℕ → ℕ) (n : ℕ) → total_below (λ i. pos (f i)) n ≡ pos (meaning.sum_below f n)
sum_of_pos f zero = refl
sum_of_pos f (suc n) = ap (λ (x : ℤ). x +ℤ pos (f n)) (sum_of_pos f n)

pub t_rows : (m : CellTable) → IsProper m → (a s : ℕ) → a < m.actions → s < m.states
    → total_below (λ e. pos (m.t a s e)) m.states ≡ pos m.t_scale
t_rows m proper a s al sl = sum_of_pos (m.t a s) m.states ∙ ap pos (proper.t_rows a s al sl)

pub o_rows : (m : CellTable) → IsProper m → (a e : ℕ) → a < m.actions → e < m.states
    → total_below (λ z. pos (m.o a e z)) m.observations ≡ pos m.o_scale
o_rows m proper a e al el = sum_of_pos (m.o a e) m.observations ∙ ap pos (proper.o_rows a e al el)

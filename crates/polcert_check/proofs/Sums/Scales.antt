-- How large the products of the scales are: one number, and the room that it leaves for every sum.
use Rattle.polcert_check.proofs.Common.{common_steps, largest, CellTable, IsWithinLimits, one, most_scales, most_sum}
use Rattle.std.proofs.Common.{◌≡◌, ◌∙◌, ℕ, ◌*◌, ◌^◌, ◌<◌, ◌≤◌, sym, ap, arith, rules}
use Rattle.std.proofs.Math.Nat.{mul_assoc, mul_comm}

pub scales : (m : CellTable) → IsWithinLimits m → (0 < m.t_scale) × (0 < m.o_scale)
unfolding one
scales m limits = (omega (arith, limits.t_scale, limits.states.0), omega (arith, limits.o_scale, limits.observations.0))

-- a scale has 63 bits
pub scales_small : (m : CellTable) → IsWithinLimits m → (m.t_scale < 2 ^ 63) × (m.o_scale < 2 ^ 63)
unfolding one
scales_small m limits = (omega (arith, limits.t_scale, limits.states.1), omega (arith, limits.o_scale, limits.observations.1))

products_of : (a b s z : ℕ) → (a * s) * (b * z) ≡ a * b * (s * z)
products_of a b s z = mul_assoc a s (b * z) ∙ ap (λ x. a * x) (sym (mul_assoc s b z) ∙ ap (λ x. x * z) (mul_comm s b) ∙ mul_assoc b s z)
    ∙ sym (mul_assoc a b (s * z))

pub scales_le : (m : CellTable) → IsWithinLimits m → m.t_scale * m.o_scale ≤ most_scales
unfolding one
scales_le m limits = grind (arith, products_of)

-- a row of either table is no larger than a row of both
row_of_both : (m : CellTable) → IsWithinLimits m → (x b : ℕ) → m.t_scale * (m.o_scale * x) ≤ b → m.o_scale * x ≤ b
row_of_both m limits x b h = grind (arith, common_steps)

-- ---- sums of rewards or of values
pub sum_room : (m : CellTable) → IsWithinLimits m → m.t_scale * (m.o_scale * largest) ≤ most_scales * largest
sum_room m limits = search (rules, scales_le)

pub ahead_room : (m : CellTable) → IsWithinLimits m → m.t_scale * (m.o_scale * largest) ≤ most_sum
ahead_room m limits = omega (arith, sum_room m limits)

pub after_room : (m : CellTable) → IsWithinLimits m → m.o_scale * largest ≤ most_sum
after_room m limits = row_of_both m limits largest most_sum (ahead_room m limits)

pub discount_le : (m : CellTable) → IsWithinLimits m → m.discount ≤ one
unfolding one
discount_le m limits = limits.discount

-- The amount by which a value is above its backing, computed in 128 bits.
use Rattle.polcert_check.proofs.Common.{common_steps, w128, largest, Controller, one, backing, short, most_scales, most_sum}
use Rattle.std.proofs.Common.{◌≡◌, ℕ, ◌*◌, ◌^◌, ◌≤◌, ℤ, pos, ◌+ℤ◌, ◌-ℤ◌, ◌*ℤ◌, unsigned_abs, FitsSigned, to_z, of_z, refl, ◌∙◌, arith}
use Rattle.std.proofs.lemmas.Int.{to_z-of_z}
use Rattle.polcert_check.proofs.Sums.Bounds.{abs-*ℤ_le}

back : (x : ℤ) → FitsSigned w128 x → to_z w128 (of_z w128 x) ≡ x
back x f = to_z-of_z w128 x f

pub factor_small : (w : ℕ) (x y : ℤ) → w ≤ 1000000 → unsigned_abs x ≤ most_scales * largest → y ≡ pos w *ℤ x → unsigned_abs y ≤ most_sum
factor_small w x y wl xl is = grind (arith, common_steps)

-- a value on the scale of one step
pub at_scale_small : (q : ℕ) (v x : ℤ) → q ≤ most_scales → unsigned_abs v ≤ largest → x ≡ pos q *ℤ v
    → unsigned_abs x ≤ most_scales * largest
at_scale_small q v x ql vl is = rw is (abs-*ℤ_le (pos q) v most_scales largest ql vl)

pub scaled_is : (q : ℕ) (v x y : ℤ) → x ≡ pos q *ℤ v → y ≡ pos 1000000 *ℤ x → y ≡ pos (q * one) *ℤ v
unfolding one
scaled_is q v x y xe ye = grind arith

pub amount_fits : (x y z : ℤ) → FitsSigned w128 x → FitsSigned w128 y → FitsSigned w128 z → unsigned_abs x ≤ most_sum
    → unsigned_abs y ≤ most_sum → unsigned_abs z ≤ most_sum
    → FitsSigned w128 (to_z w128 (of_z w128 x) -ℤ to_z w128 (of_z w128 (to_z w128 (of_z w128 y) +ℤ to_z w128 (of_z w128 z))))
    × (to_z w128 (of_z w128 (to_z w128 (of_z w128 x) -ℤ to_z w128 (of_z w128 (to_z w128 (of_z w128 y) +ℤ to_z w128 (of_z w128 z)))))
    ≡ x -ℤ (y +ℤ z))
amount_fits x y z fx fy fz xl yl zl = grind (arith, back)

lead_fits : (x y : ℤ) → FitsSigned w128 x → FitsSigned w128 y → unsigned_abs x ≤ most_scales * largest
    → unsigned_abs y ≤ most_scales * largest
    → (unsigned_abs (to_z w128 (of_z w128 (to_z w128 (of_z w128 x) -ℤ to_z w128 (of_z w128 y)))) ≤ 2 ^ 107)
    × (to_z w128 (of_z w128 (to_z w128 (of_z w128 x) -ℤ to_z w128 (of_z w128 y))) ≡ x -ℤ y)
lead_fits x y fx fy xl yl = grind (arith, back)

-- how far a value is above the reward
pub lead_is : (q : ℕ) (v r x : ℤ) → q ≤ most_scales → unsigned_abs v ≤ largest → unsigned_abs r ≤ most_scales * largest → FitsSigned w128 x
    → FitsSigned w128 r → x ≡ pos q *ℤ v
    → (unsigned_abs (to_z w128 (of_z w128 (to_z w128 (of_z w128 x) -ℤ to_z w128 (of_z w128 r)))) ≤ 2 ^ 107)
    × (to_z w128 (of_z w128 (to_z w128 (of_z w128 x) -ℤ to_z w128 (of_z w128 r))) ≡ pos q *ℤ v -ℤ r)
lead_is q v r x ql vl rl fx fr is =
    let (small, back_is) = lead_fits x r fx fr (at_scale_small q v x ql vl is) rl in
    (small, back_is ∙ rw is refl)

-- how far a value is above what backs it, as the code computes it
pub amount_from : (q d : ℕ) (v r e at scaled earned later : ℤ) → q ≤ most_scales → d ≤ 1000000 → unsigned_abs v ≤ largest
    → unsigned_abs r ≤ most_scales * largest → unsigned_abs e ≤ most_scales * largest
    → FitsSigned w128 scaled → FitsSigned w128 earned → FitsSigned w128 later → at ≡ pos q *ℤ v → scaled ≡ pos 1000000 *ℤ at
    → earned ≡ pos 1000000 *ℤ r → later ≡ pos d *ℤ e
    → FitsSigned w128 (to_z w128 (of_z w128 scaled) -ℤ to_z w128 (of_z w128 (to_z w128 (of_z w128 earned) +ℤ to_z w128 (of_z w128 later))))
    × (to_z w128 (of_z w128 (to_z w128 (of_z w128 scaled) -ℤ to_z w128
    (of_z w128 (to_z w128 (of_z w128 earned) +ℤ to_z w128 (of_z w128 later))))) ≡ pos (q * one) *ℤ v -ℤ (pos one *ℤ r +ℤ pos d *ℤ e))
unfolding one
amount_from q d v r e at scaled earned later ql dl vl rl el fs fe fl ae se ee le =
    let (fits, is) = amount_fits scaled earned later fs fe fl
    (factor_small 1000000 at scaled (omega arith) (at_scale_small q v at ql vl ae) se) (factor_small 1000000 r earned (omega arith) rl ee)
    (factor_small d e later dl el le) in
    (fits, is ∙ rw (scaled_is q v at scaled ae se, ee, le) refl)

pub amount_is : (c : Controller) (n s : ℕ) (e x : ℤ) → backing c n s ≡ pos one *ℤ e +ℤ pos c.cells.discount *ℤ x
    → (amount v earned expected : ℤ) → amount ≡ pos (c.cells.t_scale * c.cells.o_scale * one)
    *ℤ v -ℤ (pos one *ℤ earned +ℤ pos c.cells.discount *ℤ expected) → v ≡ c.value n s → earned ≡ e → expected ≡ x → amount ≡ short c n s
amount_is c n s e x split amount v earned expected is ve ee xe = grind arith

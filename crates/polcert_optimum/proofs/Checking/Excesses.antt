-- The greatest excess of the actions and states so far: one more at a time.
use Rattle.std.proofs.Common.{◌≡◌, ℕ, ◌+◌, ◌<◌, ◌≤◌, inl, inr, ⊎_elim, ℤ, pos, ◌≤ℤ◌, unsigned_abs, subst, arith}
use Rattle.polcert_optimum.proofs.Common.{int_max, cases_lt, ints, CellTable, IsProper, IsWithinLimits, largest, excess, most_excess}
use Rattle.polcert_optimum.proofs.Common.{IsGreatestExcess}
use Rattle.polcert_check.specs.Verdict.{IsBefore}
use Rattle.polcert_check.proofs.Sums.Ring.{≤ℤ_trans}
use Rattle.polcert_optimum.proofs.Checking.Amounts.{excess_le}
use Rattle.polcert_optimum.proofs.Greatest.{max_left, max_right}

module _ (t : CellTable) (vectors : ℕ → ℕ → ℤ) where
  module _ (a s : ℕ) (x : ℤ) (before : IsGreatestExcess t vectors a s x) where
    above : (y : ℤ) → y ≡ excess t vectors a s → (b u : ℕ) → b < t.actions → u < t.states → IsBefore b u a (s + 1)
        → excess t vectors b u ≤ℤ int_max x y
    above y is b u bl ul earlier =
        ⊎_elim (λ (l : b < a). ≤ℤ_trans _ _ _ (before.bounds b u bl ul (inl l)) (max_left x y))
        (λ (h : _ × (u < s + 1)). ⊎_elim
        (λ (k : u < s). ≤ℤ_trans _ _ _ (before.bounds b u bl ul (inr (h.0, k))) (max_left x y))
        (λ (k : s ≤ u).
        let e : s ≡ u = omega arith in
        let here = subst (λ (v : ℤ). v ≤ℤ int_max x y) is (max_right x y) in
        rw h.0 (rw (← e) here))
        (cases_lt u s))
        earlier

    pub one_more : (y : ℤ) → y ≡ excess t vectors a s → a < t.actions → s < t.states → IsGreatestExcess t vectors a (s + 1) (int_max x y)
    one_more y is al sl = grind (arith, above)

-- how large it is
pub greatest_small : (t : CellTable) → IsProper t → IsWithinLimits t → (vectors : ℕ → ℕ → ℤ)
    → ((b e : ℕ) → b < t.actions → e < t.states → unsigned_abs (vectors b e) ≤ largest) → (a s : ℕ) (x : ℤ)
    → IsGreatestExcess t vectors a s x
    → unsigned_abs x ≤ most_excess t
greatest_small t p limits vectors small a s x is = grind (arith, excess_le)

pub pos_abs : (x : ℤ) → pos 0 ≤ℤ x → x ≡ pos (unsigned_abs x)
pos_abs x some = omega (arith, ints)

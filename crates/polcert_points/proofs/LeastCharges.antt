-- The least charge of an action at a state, one point more at a time.
use Rattle.std.proofs.Common.{◌≡◌, ◌⊎◌, inl, inr, ⊎_elim, ℕ, ◌+◌, ◌*◌, ◌/◌, ◌%◌, ◌<◌, ◌≤◌, ℤ, pos, FitsSigned, to_z, of_z, w64, List, rules}
use Rattle.std.proofs.Common.{length, get_or, set, sym, ap, ◌∙◌, arith, Some}
use Rattle.std.specs.Int.{int_min}
use Rattle.std.proofs.lemmas.Grind.{get_or-set_at}
use Rattle.std.proofs.lemmas.List.{get_or-set_other}
use Rattle.std.proofs.lemmas.Nat.{div-mul-add, mod-mul-add, mul-add-lt}
use Rattle.polcert_points.proofs.Common.{cases_lt, CellTable}
use Rattle.polcert_points.specs.Points.{AreCharges, IsAtState}
use Rattle.polcert_points.specs.PointTable.{PointTable, FitPoints, IsOneState, AreLeastCharges, charge_at}
use Rattle.polcert_points.specs.Steps.PointSums.{IsCorner, AreLeastUntil}

-- the lesser, as the code reads it
pub min_is : (x y v m : ℤ) → FitsSigned w64 x → FitsSigned w64 y → FitsSigned w64 m
    → m ≡ int_min (to_z w64 (of_z w64 x)) (to_z w64 (of_z w64 y)) → y ≡ v → to_z w64 (of_z w64 m) ≡ int_min x v
min_is x y v m fx fy fm is same = grind arith

-- ---- a list that is filled row after row
pub filled_more : (f : ℕ → ℤ) (xs : List ℤ) (k : ℕ) (x : ℤ) → k < length xs → ((j : ℕ) → j < k → get_or xs j (pos 0) ≡ f j) → x ≡ f k
    → (j : ℕ) → j < k + 1 → get_or (set xs k x) j (pos 0) ≡ f j
filled_more f xs k x room before here j l = grind (arith, get_or-set_other, get_or-set_at, cases_lt)

-- item (a, s)
pub at_place : (v : ℕ → ℕ → ℤ) (f : ℕ → ℤ) (n rows m a s : ℕ) → m ≡ rows * n → ((j : ℕ) → j < m → f j ≡ v (j / n) (j % n)) → a < rows
    → s < n → f (a * n + s) ≡ v a s
at_place v f n rows m a s room each al sl = grind (arith, mul-add-lt, div-mul-add, mod-mul-add)

-- no two items are the same
same_place : (n a s b u : ℕ) → s < n → u < n → a * n + s ≡ b * n + u → (a ≡ b) × (s ≡ u)
same_place n a s b u sl ul e = (
  grind arith,
  sym (mod-mul-add a n s sl) ∙ ap (λ (k : ℕ). k % n) e ∙ mod-mul-add b n u ul,
)

-- ---- the charges at a corner, one action more
module _ (p : PointTable) (old new : List ℤ) (values : ℕ → ℤ) (a s : ℕ) (al : a < p.actions) (sl : s < p.states)
    (room : length new ≡ p.actions * p.states)
    (lowered : (b : ℕ) → b < a → charge_at p new b s ≡ int_min (charge_at p old b s) (values b))
    (others : (b u : ℕ) → u < p.states → (a ≤ b) ⊎ (u ≡ s → ⊥) → charge_at p new b u ≡ charge_at p old b u) where
  elsewhere : (x : ℤ) (b u : ℕ) → u < p.states → ((b ≡ a) × (u ≡ s) → ⊥)
      → charge_at p (set new (a * p.states + s) x) b u ≡ charge_at p new b u
  elsewhere x b u ul apart = grind (arith, get_or-set_other, same_place)

  pub one_lowered : (x : ℤ) → x ≡ int_min (charge_at p new a s) (values a) → (b : ℕ) → b < a + 1
      → charge_at p (set new (a * p.states + s) x) b s ≡ int_min (charge_at p old b s) (values b)
  one_lowered x is b bl = grind (arith, elsewhere, get_or-set_at, mul-add-lt, cases_lt)

  pub others_more : (x : ℤ) (b u : ℕ) → u < p.states → (a + 1 ≤ b) ⊎ (u ≡ s → ⊥)
      → charge_at p (set new (a * p.states + s) x) b u ≡ charge_at p old b u
  others_more x b u ul (inl l) = grind (arith, elsewhere)
  others_more x b u ul (inr other) = grind (arith, elsewhere)

-- at all actions
pub lowered_all : (p : PointTable) (vectors : ℕ → ℕ → ℤ) (old new : List ℤ) (i s : ℕ) → IsCorner p.states (p.points.belief i) (Some s)
    → ((b : ℕ) → b < p.actions → charge_at p new b s ≡ int_min (charge_at p old b s) (p.points.value i b))
    → ((b u : ℕ) → u < p.states → (u ≡ s → ⊥) → charge_at p new b u ≡ charge_at p old b u) → AreLeastUntil p vectors i old
    → AreLeastUntil p vectors (i + 1) new
lowered_all p vectors old new i s corner lowered others before a u al ul =
    ⊎_elim (λ (e : u ≡ s). rw e
    (rw (lowered a al)
    (search rules)))
    (λ (other : u ≡ s → ⊥). rw (others a u ul other)
    (grind arith))
    (same_or_not u s)
  where
    same_or_not : (m n : ℕ) → (m ≡ n) ⊎ (m ≡ n → ⊥)
    same_or_not m n = grind arith

-- a charge is that of the vector, or of a point that is the state alone
pub are_charges : (t : CellTable) (p : PointTable) (vectors charges : ℕ → ℕ → ℤ) → FitPoints t p → AreLeastCharges p vectors charges
    → AreCharges t vectors p.points charges
are_charges t p vectors charges fit are a s al sl = grind arith
  where
    given : (charges a s ≡ vectors a s) ⊎ ((i : ℕ) × (i < p.points.count) × IsOneState p.states (p.points.belief i) s
        × (charges a s ≡ p.points.value i a))
        → (charges a s ≡ vectors a s) ⊎ ((i : ℕ) × (i < p.points.count) × IsAtState t p.points i s × (charges a s ≡ p.points.value i a))
    given (inl e) = inl e
    given (inr r) = grind arith

-- What raising every vector by one constant does, and the least constant by which the informed inequality holds.
use Rattle.std.specs.Prelude.{◌≡◌, ℕ, ◌<◌, ℤ, pos, ◌+ℤ◌}
use Rattle.polcert_cells.specs.Tables.{CellTable}
use Rattle.polcert_policy.specs.Vectors.{PolicyVectors, value_of, CanShift}
use Rattle.polcert_optimum.specs.Informed.{AreInformed}
use Rattle.polcert_optimum.specs.InformedCheck.{IsInformedVerdict, NamesSmallExcess}
use Rattle.polcert_optimum.specs.declared.verdict.InformedVerdict.TheVariants.{Exceeded}
use Rattle.polcert_optimum.specs.declared.fault.InformedRaiseFault.{InformedRaiseFault}
use Rattle.polcert_optimum.specs.declared.fault.InformedRaiseFault.TheVariants.{NoConstant, OutOfRange}

-- every vector with one constant added
abbrev pub vectors_raised_by : (ℕ → ℕ → ℤ) → ℕ → ℕ → ℕ → ℤ
vectors_raised_by vectors by a s = vectors a s +ℤ pos by

-- raised by `by` the vectors are informed, and raised by less they are not
abbrev pub IsLeastInformedRaise : CellTable → (ℕ → ℕ → ℤ) → ℕ → Type 0
IsLeastInformedRaise t vectors by = AreInformed t (vectors_raised_by vectors by) × ((d : ℕ) → d < by → AreInformed t (vectors_raised_by vectors d) → ⊥)

-- the least constant, which leaves every value in range
abbrev pub IsRaiseConstant : CellTable → PolicyVectors → ℤ → Type 0
IsRaiseConstant t v x = (by : ℕ) × (x ≡ pos by) × IsLeastInformedRaise t (value_of v) by × CanShift v (pos by)

-- Why no constant serves: none makes the vectors informed, and this is the first action and state where they are not; or the least
-- that does takes a value out of range.
abbrev pub HasNoInformedRaise : CellTable → PolicyVectors → InformedRaiseFault → Type 0
HasNoInformedRaise t v (NoConstant a s amount) = ((by : ℕ) → AreInformed t (vectors_raised_by (value_of v) by) → ⊥) × IsInformedVerdict t (value_of v) (Exceeded a s amount) × NamesSmallExcess t (Exceeded a s amount)
HasNoInformedRaise t v OutOfRange = (by : ℕ) × IsLeastInformedRaise t (value_of v) by × (CanShift v (pos by) → ⊥)

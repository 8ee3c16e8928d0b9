-- The least constant by which upper bounds pass in every model within intervals. What is worst from above is worst from below where each
-- reward and each value is negated.
use Rattle.std.specs.Prelude.{◌≡◌, ℕ, ◌<◌, ℤ, pos}
use Rattle.polcert_cells.specs.Tables.{CellTable}
use Rattle.polcert_policy.specs.Graphs.{PolicyGraph}
use Rattle.polcert_policy.specs.Vectors.{PolicyVectors}
use Rattle.polcert_check.specs.Horizon.{Controller}
use Rattle.polcert_check.specs.Lower.{IsMoved}
use Rattle.polcert_check.specs.Raise.{CanRaise, raised_by}
use Rattle.polcert_check.specs.declared.fault.RaiseFault.{RaiseFault}
use Rattle.polcert_check.specs.declared.fault.RaiseFault.TheVariants.{NoSuccessor, NoConstant, OutOfRange, Memory}
use Rattle.polcert_robust.specs.Intervals.{IntervalTable, negated}
use Rattle.polcert_robust.specs.RobustAbove.{PassesAboveInEveryModel}
use Rattle.polcert_robust.specs.RobustLower.{IsFirstRobustShort, IsFirstThatMayLack, NoneMayLack}
use Rattle.polcert_robust.specs.Worst.{IsRobust, negated_values}

-- every pair is robust from above
abbrev pub IsRobustAbove : IntervalTable → Controller → Type 0
IsRobustAbove i c = IsRobust (negated i) (negated_values c)

-- raised by `by` every pair is robust from above, and raised by less not every pair is
abbrev pub IsLeastRobustAbove : IntervalTable → Controller → ℕ → Type 0
IsLeastRobustAbove i c by = IsRobustAbove i (raised_by c by) × ((d : ℕ) → d < by → IsRobustAbove i (raised_by c d) → ⊥)

-- the first pair where the next step comes to more than the value under worst rows, and by how much
abbrev pub IsFirstRobustLong : IntervalTable → Controller → ℕ → ℕ → ℤ → Type 0
IsFirstRobustLong i c n s amount = IsFirstRobustShort (negated i) (negated_values c) n s amount

-- Why no constant serves: a pair may lack an observation, which no raising mends; or none may, but no constant makes the vectors pass, or
-- the least that does takes a value out of range.
abbrev pub IsNotRaisedRobustly : IntervalTable → Controller → PolicyVectors → RaiseFault → Type 0
IsNotRaisedRobustly i c v (NoSuccessor n s z) = IsFirstThatMayLack i c n s z
IsNotRaisedRobustly i c v (NoConstant n s amount) = NoneMayLack i c × ((by : ℕ) → IsRobustAbove i (raised_by c by) → ⊥) × IsFirstRobustLong i c n s amount
IsNotRaisedRobustly i c v OutOfRange = NoneMayLack i c × ((by : ℕ) × IsLeastRobustAbove i c by × (CanRaise v by → ⊥))
IsNotRaisedRobustly i c v Memory = ⊥

-- the least constant, which leaves every value in range
abbrev pub IsLeastRobustRaise : IntervalTable → Controller → PolicyVectors → ℤ → Type 0
IsLeastRobustRaise i c v x = (by : ℕ) × (x ≡ pos by) × IsLeastRobustAbove i c by × CanRaise v by

-- ---- in every model that lies within

-- raised by `by` the vectors pass from above in every model that lies within, and raised by less not in every one
abbrev pub IsLeastAboveInEveryModel : IntervalTable → Controller → ℕ → Type 0
IsLeastAboveInEveryModel i c by = PassesAboveInEveryModel i (raised_by c by) × ((d : ℕ) → d < by → PassesAboveInEveryModel i (raised_by c d) → ⊥)

-- the least constant, which leaves every value in range
abbrev pub IsLeastRaising : IntervalTable → Controller → PolicyVectors → ℤ → Type 0
IsLeastRaising i c v x = (by : ℕ) × (x ≡ pos by) × IsLeastAboveInEveryModel i c by × CanRaise v by

-- that constant, and the vectors raised by it, which pass from above in every model that lies within
abbrev pub IsRaisedRobustly : IntervalTable → CellTable → PolicyGraph → PolicyVectors → ℤ × PolicyVectors → Type 0
IsRaisedRobustly i t g v answer = IsMoved (IsLeastRaising i) (λ by. by) (PassesAboveInEveryModel i) t g v answer

-- why none are answered: out of memory, where there is such a constant, or the reason why there is none
abbrev pub RefusesToRaiseRobustly : IntervalTable → Controller → PolicyVectors → RaiseFault → Type 0
RefusesToRaiseRobustly i c v Memory = (x : ℤ) × IsLeastRaising i c v x
RefusesToRaiseRobustly i c v fault = IsNotRaisedRobustly i c v fault

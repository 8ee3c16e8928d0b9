-- The least constant by which vectors pass in every model within intervals.
use Rattle.std.specs.Prelude.{◌≡◌, ℕ, ◌<◌, ℤ, pos, neg_ℤ, ◌<ℤ◌, Some, None}
use Rattle.polcert_cells.specs.Tables.{CellTable}
use Rattle.polcert_policy.specs.Graphs.{PolicyGraph}
use Rattle.polcert_policy.specs.Vectors.{PolicyVectors}
use Rattle.polcert_check.specs.Horizon.{Controller}
use Rattle.polcert_check.specs.Lower.{CanLower, IsMoved, lowered_by}
use Rattle.polcert_check.specs.Verdict.{IsBefore}
use Rattle.polcert_check.specs.declared.fault.LowerFault.{LowerFault}
use Rattle.polcert_check.specs.declared.fault.LowerFault.TheVariants.{NoSuccessor, NoConstant, OutOfRange, Memory}
use Rattle.polcert_robust.specs.Intervals.{IntervalTable}
use Rattle.polcert_robust.specs.RobustVerdict.{IsLeastThatMayLack, IsRobustBefore, IsRobustShort, PassesInEveryModel}
use Rattle.polcert_robust.specs.Worst.{IsRobust}

-- lowered by `by` every pair is robust, and lowered by less not every pair is
abbrev pub IsLeastRobust : IntervalTable → Controller → ℕ → Type 0
IsLeastRobust i c by = IsRobust i (lowered_by c by) × ((d : ℕ) → d < by → IsRobust i (lowered_by c d) → ⊥)

-- no pair may lack an observation
abbrev pub NoneMayLack : IntervalTable → Controller → Type 0
NoneMayLack i c = (n s : ℕ) → n < c.nodes → s < i.states → IsLeastThatMayLack i c n s None

-- the first pair that may lack an observation, and the least that it may lack
abbrev pub IsFirstThatMayLack : IntervalTable → Controller → ℕ → ℕ → ℕ → Type 0
IsFirstThatMayLack i c n s z = (n < c.nodes) × (s < i.states) × IsLeastThatMayLack i c n s (Some z) × ((m t : ℕ) → m < c.nodes → t < i.states → IsBefore m t n s → IsLeastThatMayLack i c m t None)

-- the first pair that is short under worst rows, and by how much
abbrev pub IsFirstRobustShort : IntervalTable → Controller → ℕ → ℕ → ℤ → Type 0
IsFirstRobustShort i c n s amount = (n < c.nodes) × (s < i.states) × IsRobustShort i c n s amount × (pos 0 <ℤ amount) × IsRobustBefore i c n s

-- Why no constant serves: a pair may lack an observation, which no lowering mends; or none may, but no constant makes the vectors pass, or
-- the least that does takes a value out of range. `Can` says by which constants all stay in range.
abbrev pub IsNotMendedRobustly : IntervalTable → Controller → (ℕ → Type 0) → LowerFault → Type 0
IsNotMendedRobustly i c Can (NoSuccessor n s z) = IsFirstThatMayLack i c n s z
IsNotMendedRobustly i c Can (NoConstant n s amount) = NoneMayLack i c × ((by : ℕ) → IsRobust i (lowered_by c by) → ⊥) × IsFirstRobustShort i c n s amount
IsNotMendedRobustly i c Can OutOfRange = NoneMayLack i c × ((by : ℕ) × IsLeastRobust i c by × (Can by → ⊥))
IsNotMendedRobustly i c Can Memory = ⊥

abbrev pub IsNotLoweredRobustly : IntervalTable → Controller → PolicyVectors → LowerFault → Type 0
IsNotLoweredRobustly i c v fault = IsNotMendedRobustly i c (CanLower v) fault

-- the least constant, which leaves every value in range
abbrev pub IsLeastRobustConstant : IntervalTable → Controller → PolicyVectors → ℤ → Type 0
IsLeastRobustConstant i c v x = (by : ℕ) × (x ≡ pos by) × IsLeastRobust i c by × CanLower v by

-- ---- in every model that lies within

-- lowered by `by` the vectors pass in every model that lies within, and lowered by less not in every one
abbrev pub IsLeastInEveryModel : IntervalTable → Controller → ℕ → Type 0
IsLeastInEveryModel i c by = PassesInEveryModel i (lowered_by c by) × ((d : ℕ) → d < by → PassesInEveryModel i (lowered_by c d) → ⊥)

-- the least constant, which leaves every value in range
abbrev pub IsLeastLowering : IntervalTable → Controller → PolicyVectors → ℤ → Type 0
IsLeastLowering i c v x = (by : ℕ) × (x ≡ pos by) × IsLeastInEveryModel i c by × CanLower v by

-- that constant, and the vectors lowered by it, which pass in every model that lies within
abbrev pub IsLoweredRobustly : IntervalTable → CellTable → PolicyGraph → PolicyVectors → ℤ × PolicyVectors → Type 0
IsLoweredRobustly i t g v answer = IsMoved (IsLeastLowering i) neg_ℤ (PassesInEveryModel i) t g v answer

-- why none are answered: out of memory, where there is such a constant, or the reason why there is none
abbrev pub RefusesToLowerRobustly : IntervalTable → Controller → PolicyVectors → LowerFault → Type 0
RefusesToLowerRobustly i c v Memory = (x : ℤ) × IsLeastLowering i c v x
RefusesToLowerRobustly i c v fault = IsNotLoweredRobustly i c v fault

-- What lowering every vector value by one constant does, and the least constant by which the vectors pass.
use Rattle.std.specs.Prelude.{◌≡◌, ℕ, ◌<◌, ◌≤◌, ◌⊎◌, unsigned_abs, ⊤, ℤ, pos, neg_ℤ, ◌-ℤ◌, ◌≤ℤ◌, ◌<ℤ◌, Some, None}
use Rattle.polcert_cells.specs.Tables.{CellTable}
use Rattle.polcert_policy.specs.Graphs.{PolicyGraph}
use Rattle.polcert_policy.specs.Vectors.{PolicyVectors, CanShift, shifted_by}
use Rattle.polcert_check.specs.declared.fault.LowerFault.{LowerFault}
use Rattle.polcert_check.specs.declared.fault.LowerFault.TheVariants.{NoSuccessor, NoConstant, OutOfRange, Memory}
use Rattle.polcert_check.specs.Horizon.{Controller, Fits, controller_of}
use Rattle.polcert_check.specs.Shortfall.{short, most_short, Passes}
use Rattle.polcert_check.specs.Verdict.{IsBefore, IsLeastLacking}

-- the controller with every vector value less `by`
abbrev pub lowered_by : Controller → ℕ → Controller
lowered_by c by = record c { value = λ n s. c.value n s -ℤ pos by }

-- lowered by `by` every pair passes, and lowered by less not every pair does
abbrev pub IsLeast : Controller → ℕ → Type 0
IsLeast c by = Passes (lowered_by c by) × ((d : ℕ) → d < by → Passes (lowered_by c d) → ⊥)

-- every vector value less `by` is in range
abbrev pub CanLower : PolicyVectors → ℕ → Type 0
CanLower v by = CanShift v (neg_ℤ (pos by))

-- no pair lacks an observation
abbrev pub NoneLacks : Controller → Type 0
NoneLacks c = (n s : ℕ) → n < c.nodes → s < c.cells.states → IsLeastLacking c n s None

-- the first pair that lacks an observation, and the least that it lacks
abbrev pub IsFirstLack : Controller → ℕ → ℕ → ℕ → Type 0
IsFirstLack c n s z = (n < c.nodes) × (s < c.cells.states) × IsLeastLacking c n s (Some z) × ((m t : ℕ) → m < c.nodes → t < c.cells.states → IsBefore m t n s → IsLeastLacking c m t None)

-- the first pair that is short, and by how much
abbrev pub IsFirstShort : Controller → ℕ → ℕ → ℤ → Type 0
IsFirstShort c n s amount = (n < c.nodes) × (s < c.cells.states) × (amount ≡ short c n s) × (pos 0 <ℤ amount) × ((m t : ℕ) → m < c.nodes → t < c.cells.states → IsBefore m t n s → short c m t ≤ℤ pos 0)

-- Why no constant serves: a pair lacks an observation, which no lowering mends; or none does, but no constant makes the
-- vectors pass, or the least that does takes a value out of range. `Can` says by which constants all stay in range.
abbrev pub IsNotMended : Controller → (ℕ → Type 0) → LowerFault → Type 0
IsNotMended c Can (NoSuccessor n s z) = IsFirstLack c n s z
IsNotMended c Can (NoConstant n s amount) = NoneLacks c × ((by : ℕ) → Passes (lowered_by c by) → ⊥) × IsFirstShort c n s amount
IsNotMended c Can OutOfRange = NoneLacks c × ((by : ℕ) × IsLeast c by × (Can by → ⊥))
IsNotMended c Can Memory = ⊥

abbrev pub IsNotLowered : Controller → PolicyVectors → LowerFault → Type 0
IsNotLowered c v fault = IsNotMended c (CanLower v) fault

-- the least constant, which leaves every value in range
abbrev pub IsLeastConstant : Controller → PolicyVectors → ℤ → Type 0
IsLeastConstant c v x = (by : ℕ) × (x ≡ pos by) × IsLeast c by × CanLower v by

-- there is such a constant
abbrev pub HasLeastConstant : Controller → PolicyVectors → Type 0
HasLeastConstant c v = (x : ℤ) × IsLeastConstant c v x

-- the amount that a refusal names, if any, is no larger than a shortfall can be
abbrev pub RefusesSmallAmount : Controller → LowerFault → Type 0
RefusesSmallAmount c (NoConstant n s amount) = unsigned_abs amount ≤ most_short c
RefusesSmallAmount c (NoSuccessor n s z) = ⊤
RefusesSmallAmount c OutOfRange = ⊤
RefusesSmallAmount c Memory = ⊤

-- ---- the vectors that a call answers

-- The vectors are the given ones moved by the constant, which is the least by which they pass. `Least` says which constant that is,
-- `added` what is added to each value for it, and `Pass` what it is to pass.
pub record IsMoved (Least : Controller → PolicyVectors → ℤ → Type 0) (added : ℤ → ℤ) (Pass : Controller → Type 0)
    (t : CellTable) (g : PolicyGraph) (v : PolicyVectors) (answer : ℤ × PolicyVectors) : Type 0 where
  pub least : Least (controller_of t g v) v answer.0
  pub shifted : answer.1 ≡ shifted_by v (added answer.0)
  -- with the moved vectors every pair passes
  pub fits_still : Fits t g answer.1
  pub passes : Pass (controller_of t g answer.1)

-- the least constant, and the vectors lowered by it
abbrev pub IsLowered : CellTable → PolicyGraph → PolicyVectors → ℤ × PolicyVectors → Type 0
IsLowered t g v answer = IsMoved IsLeastConstant neg_ℤ Passes t g v answer

-- why none are answered: out of memory, where there is such a constant, or the reason why there is none
pub record RefusesToLower (t : CellTable) (g : PolicyGraph) (v : PolicyVectors) (fault : LowerFault) : Type 0 where
  pub refused : ((fault ≡ Memory) × HasLeastConstant (controller_of t g v) v) ⊎ IsNotLowered (controller_of t g v) v fault
  pub small : RefusesSmallAmount (controller_of t g v) fault

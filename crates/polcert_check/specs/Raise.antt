-- What raising every vector value by one constant does, and the least constant by which the vectors pass from above.
use Rattle.std.specs.Prelude.{◌≡◌, ℕ, ◌<◌, ◌≤◌, ◌⊎◌, unsigned_abs, ⊤, ℤ, pos, neg_ℤ, ◌+ℤ◌, ◌≤ℤ◌, ◌<ℤ◌}
use Rattle.polcert_cells.specs.Tables.{CellTable}
use Rattle.polcert_policy.specs.Graphs.{PolicyGraph}
use Rattle.polcert_policy.specs.Vectors.{PolicyVectors, CanShift}
use Rattle.polcert_check.specs.declared.fault.RaiseFault.{RaiseFault}
use Rattle.polcert_check.specs.declared.fault.RaiseFault.TheVariants.{NoSuccessor, NoConstant, OutOfRange, Memory}
use Rattle.polcert_check.specs.Horizon.{Controller, controller_of}
use Rattle.polcert_check.specs.Shortfall.{short, most_short}
use Rattle.polcert_check.specs.Verdict.{IsBefore}
use Rattle.polcert_check.specs.Lower.{NoneLacks, IsFirstLack, IsMoved}
use Rattle.polcert_check.specs.Above.{PassesAbove}

-- the controller with every vector value plus `by`
abbrev pub raised_by : Controller → ℕ → Controller
raised_by c by = record c { value = λ n s. c.value n s +ℤ pos by }

-- raised by `by` every pair passes from above, and raised by less not every pair does
abbrev pub IsLeastAbove : Controller → ℕ → Type 0
IsLeastAbove c by = PassesAbove (raised_by c by) × ((d : ℕ) → d < by → PassesAbove (raised_by c d) → ⊥)

-- every vector value plus `by` is in range
abbrev pub CanRaise : PolicyVectors → ℕ → Type 0
CanRaise v by = CanShift v (pos by)

-- the first pair whose value is below what the next step comes to, and by how much
abbrev pub IsFirstLong : Controller → ℕ → ℕ → ℤ → Type 0
IsFirstLong c n s amount = (n < c.nodes) × (s < c.cells.states) × (amount ≡ neg_ℤ (short c n s)) × (pos 0 <ℤ amount) × ((m t : ℕ) → m < c.nodes → t < c.cells.states → IsBefore m t n s → pos 0 ≤ℤ short c m t)

-- Why no constant serves: a pair lacks an observation, which no raising mends; or none does, but no constant makes the
-- vectors pass, or the least that does takes a value out of range.
abbrev pub IsNotRaised : Controller → PolicyVectors → RaiseFault → Type 0
IsNotRaised c v (NoSuccessor n s z) = IsFirstLack c n s z
IsNotRaised c v (NoConstant n s amount) = NoneLacks c × ((by : ℕ) → PassesAbove (raised_by c by) → ⊥) × IsFirstLong c n s amount
IsNotRaised c v OutOfRange = NoneLacks c × ((by : ℕ) × IsLeastAbove c by × (CanRaise v by → ⊥))
IsNotRaised c v Memory = ⊥

-- the least constant, which leaves every value in range
abbrev pub IsLeastRaise : Controller → PolicyVectors → ℤ → Type 0
IsLeastRaise c v x = (by : ℕ) × (x ≡ pos by) × IsLeastAbove c by × CanRaise v by

-- there is such a constant
abbrev pub HasLeastRaise : Controller → PolicyVectors → Type 0
HasLeastRaise c v = (x : ℤ) × IsLeastRaise c v x

-- the amount that a refusal names, if any, is no larger than a shortfall can be
abbrev pub RefusesSmallRaise : Controller → RaiseFault → Type 0
RefusesSmallRaise c (NoConstant n s amount) = unsigned_abs amount ≤ most_short c
RefusesSmallRaise c (NoSuccessor n s z) = ⊤
RefusesSmallRaise c OutOfRange = ⊤
RefusesSmallRaise c Memory = ⊤

-- the least constant, and the vectors raised by it
abbrev pub IsRaised : CellTable → PolicyGraph → PolicyVectors → ℤ × PolicyVectors → Type 0
IsRaised t g v answer = IsMoved IsLeastRaise (λ by. by) PassesAbove t g v answer

-- why none are answered: out of memory, where there is such a constant, or the reason why there is none
pub record RefusesToRaise (t : CellTable) (g : PolicyGraph) (v : PolicyVectors) (fault : RaiseFault) : Type 0 where
  pub refused : ((fault ≡ Memory) × HasLeastRaise (controller_of t g v) v) ⊎ IsNotRaised (controller_of t g v) v fault
  pub small : RefusesSmallRaise (controller_of t g v) fault

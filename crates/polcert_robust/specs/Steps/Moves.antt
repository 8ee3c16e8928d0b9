-- Helper definitions of private functions: the least constant by which vectors are moved from one side. Nobody has to believe them.
use Rattle.std.specs.Prelude.{◌≡◌, ℕ, ◌<◌, ℤ, pos, neg_ℤ, ◌+ℤ◌}
use Rattle.polcert_policy.specs.Vectors.{IsInRange, PolicyVectors, value_of}
use Rattle.polcert_check.specs.Horizon.{Controller}
use Rattle.polcert_robust.specs.Intervals.{IntervalTable}
use Rattle.polcert_robust.specs.RobustLower.{IsLeastRobust}
use Rattle.polcert_robust.specs.declared.side.Side.{Side}
use Rattle.polcert_robust.specs.Steps.Sides.{turned}

-- every vector value less `by` is in range, or from above every value and `by`
abbrev pub CanMoveBy : Side → PolicyVectors → ℕ → Type 0
CanMoveBy side v by = (n s : ℕ) → n < v.nodes → s < v.states → IsInRange (turned side (value_of v n s) +ℤ neg_ℤ (pos by))

-- the least constant by which every pair is robust, with all values in range
abbrev pub IsLeastRobustMove : IntervalTable → Controller → (ℕ → Type 0) → ℤ → Type 0
IsLeastRobustMove i c Can x = (by : ℕ) × (x ≡ pos by) × IsLeastRobust i c by × Can by

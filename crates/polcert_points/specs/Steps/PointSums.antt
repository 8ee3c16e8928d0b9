-- Helper definitions of private functions: the sums of a check of points. Nobody has to believe them.
use Rattle.std.specs.Prelude.{◌≡◌, ℕ, ◌+◌, ◌*◌, ◌^◌, ◌<◌, ◌≤◌, ℤ, pos, ◌+ℤ◌, ◌*ℤ◌, ◌≤ℤ◌, unsigned_abs, List, Option, Some, None, slice_index}
use Rattle.polcert_text.specs.Numbers.{largest}
use Rattle.polcert_cells.specs.Meaning.{sum_below}
use Rattle.polcert_cells.specs.Tables.{CellTable}
use Rattle.polcert_cells.specs.BorrowedRows.{IsRowOf, reached}
use Rattle.polcert_cells.specs.declared.cells.Row.{Row}
use Rattle.polcert_cells.specs.declared.cells.Step.{Step}
use Rattle.polcert_points.specs.Belief.{Belief, mass, sum_over_belief}
use Rattle.polcert_points.specs.Points.{Points, point_worth, Cover, best_worth}
use Rattle.polcert_points.specs.PointCheck.{IsCoverBy}
use Rattle.polcert_points.specs.PointTable.{PointTable, IsOneState, IsLeastCharge, charge_at}
use Rattle.polcert_points.specs.declared.best_worth.Taken.{Taken}

-- no charge is larger than a value can be
abbrev pub AreSmallCharges : PointTable → List ℤ → Type 0
AreSmallCharges p charges = (a s : ℕ) → a < p.actions → s < p.states → unsigned_abs (charge_at p charges a s) ≤ largest

-- the charge of each action at each state is the least with the first points, this many
abbrev pub AreLeastUntil : PointTable → (ℕ → ℕ → ℤ) → ℕ → List ℤ → Type 0
AreLeastUntil p vectors count charges = (a s : ℕ) → a < p.actions → s < p.states → IsLeastCharge p vectors a s count (charge_at p charges a s)

-- the point that is taken out of a belief is one of the points, with its mass; and the whole belief is small
pub record IsTaken (t : CellTable) (p : PointTable) (taken : Taken) (left : Belief) : Type 0 where
  pub known : (j : ℕ) → taken.point ≡ Some j → (j < p.points.count) × (taken.mass ≡ mass t (p.points.belief j))
  pub whole : taken.times * taken.mass + mass t left ≤ 5 * 10 ^ 24

-- what the point is worth so often with next action a
abbrev pub taken_worth : CellTable → Points → Option ℕ → ℕ → ℕ → ℤ
taken_worth t points None times a = pos 0
taken_worth t points (Some j) times a = pos times *ℤ point_worth t points j a

-- and with what is left, at the action's charges
abbrev pub left_worth : CellTable → (ℕ → ℕ → ℤ) → Points → Option ℕ → ℕ → Belief → ℕ → ℤ
left_worth t charges points point times left a = taken_worth t points point times a +ℤ sum_over_belief t left (charges a)

-- the weight with which an end state is reached from a belief by an action
abbrev pub arrival : CellTable → Belief → ℕ → ℕ → ℕ
arrival t b a e = sum_below (λ s. b s * t.t a s e) t.states

-- each end state's
pub record AreArrivals (t : CellTable) (b : Belief) (a : ℕ) (arrivals : List ℕ) : Type 0 where
  pub each : (e : ℕ) → e < t.states → slice_index arrivals e ≡ arrival t b a e

-- the belief has no weight at a state that the row leaves out
pub record IsWithinRow (states : ℕ) (b : Belief) (row : Row) : Type 0 where
  pub weights : ℕ → ℕ
  pub is_row : IsRowOf weights states row
  pub others : (s : ℕ) → s < states → weights s ≡ 0 → b s ≡ 0

-- a step from a place of such a row is past states where the belief has no weight; or there is none left that has any
abbrev pub IsStepWithin : ℕ → Belief → Row → ℕ → Option Step → Type 0
IsStepWithin states b row at None = (s : ℕ) → reached (Some row) at ≤ s → s < states → b s ≡ 0
IsStepWithin states b row at (Some step) = (reached (Some row) at ≤ step.column) × (step.column < states) × ((s : ℕ) → reached (Some row) at ≤ s → s < step.column → b s ≡ 0) × (reached (Some row) step.next ≡ step.column + 1)

-- the only state at which the belief has weight, or that there is none such
abbrev pub IsCorner : ℕ → Belief → Option ℕ → Type 0
IsCorner states b None = (s : ℕ) → s < states → IsOneState states b s → ⊥
IsCorner states b (Some s) = (s < states) × IsOneState states b s

-- x is the least that a belief is worth with the best next action, covered by none or by one of the first points, this many
pub record IsLeastWorth (t : CellTable) (charges : ℕ → ℕ → ℤ) (points : Points) (b : Belief) (count : ℕ) (x : ℤ) : Type 0 where
  pub uncovered : (cover : Cover) → IsCoverBy t points b None cover → x ≤ℤ best_worth t charges points b cover
  pub covered : (j : ℕ) (cover : Cover) → j < count → IsCoverBy t points b (Some j) cover → x ≤ℤ best_worth t charges points b cover
  pub is_reached : (named : Option ℕ) × (cover : Cover) × ((j : ℕ) → named ≡ Some j → j < count) × IsCoverBy t points b named cover × (x ≡ best_worth t charges points b cover)

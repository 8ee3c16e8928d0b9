-- Helper definitions of private functions: the intervals and the controller that a pair is checked in. Nobody has to believe them.
use Rattle.std.specs.Prelude.{◌≡◌, ℕ, ℤ, pos, ◌<ℤ◌, None, Some}
use Rattle.polcert_cells.specs.Tables.{CellTable}
use Rattle.polcert_cells.specs.declared.cells.Cells.{Ghosts}
use Rattle.polcert_check.specs.Horizon.{Controller, controller_of}
use Rattle.polcert_check.specs.declared.survey.Verdict.{Verdict}
use Rattle.polcert_check.specs.declared.survey.Verdict.TheVariants.{Yes, Short, NoSuccessor}
use Rattle.polcert_robust.specs.Intervals.{IntervalTable, around}
use Rattle.polcert_robust.specs.RobustVerdict.{IsLeastThatMayLack, IsRobustShort}
use Rattle.polcert_robust.specs.Worst.{IsWorstRow, IsWorstStep, PairIsRobust, mean, least_step_worth, worst_backing}
use Rattle.polcert_robust.specs.declared.robust_input.RobustInput.{RobustInput}
use Rattle.polcert_robust.specs.declared.side.Side.{Side}
use Rattle.polcert_robust.specs.Steps.Sides.{least_end, turned}

-- the largest of what a step is worth, in millionths of millionths
abbrev pub most_worth : ℕ
most_worth = 21_000_000_000_000_000_000

-- the largest of what a reward adds to the least mean at an end state
abbrev pub most_part : ℕ
most_part = 110_000_000_000_000_000_000_000_000_000

-- the largest product of the scales of T and O
abbrev pub most_scales : ℕ
most_scales = 5_000_000_000_000_000_000

-- the same intervals, from above with each reward negated
abbrev pub sided_table : Side → IntervalTable → IntervalTable
sided_table side i = record i { r_low = λ a s e z. least_end side (i.r_low a s e z) (i.r_high a s e z); r_high = λ a s e z. least_end side (i.r_high a s e z) (i.r_low a s e z) }

-- the same controller, from above with each value negated
abbrev pub sided_values : Side → Controller → Controller
sided_values side c = record c { value = λ n s. turned side (c.value n s) }

abbrev pub cells_of : {C : Type 0} {g : Ghosts C} → RobustInput C g → CellTable
cells_of {C} {g} input = g.table input.cells.now

abbrev pub near_table : {C : Type 0} {g : Ghosts C} → RobustInput C g → IntervalTable
near_table {C} {g} input = sided_table input.side (around (g.table input.cells.now) input.distance.t_by input.distance.o_by input.distance.r_by)

abbrev pub near_controller : {C : Type 0} {g : Ghosts C} → RobustInput C g → Controller
near_controller {C} {g} input = sided_values input.side (controller_of (g.table input.cells.now) input.graph.now input.vectors.now)

-- the least mean of what a step to e is worth
abbrev pub IsEndMean : IntervalTable → Controller → ℕ → ℕ → ℕ → ℤ → Type 0
IsEndMean i c n s e value = (row : ℕ → ℕ) × IsWorstRow (i.o_low (c.action n) e) (i.o_high (c.action n) e) i.o_scale i.observations (least_step_worth i c n s e) row × (value ≡ mean row (least_step_worth i c n s e) i.observations)

-- what backs the value of n at s in the worst case
pub record IsWorstBacking (i : IntervalTable) (c : Controller) (n s : ℕ) (value : ℤ) : Type 0 where
  pub seen : ℕ → ℕ → ℕ
  pub ends : ℕ → ℕ
  pub worst : IsWorstStep i c n s seen ends
  pub is : value ≡ worst_backing i c n s seen ends

-- the verdict on one pair
abbrev pub IsRobustPair : IntervalTable → Controller → ℕ → ℕ → Verdict → Type 0
IsRobustPair i c n s Yes = PairIsRobust i c n s
IsRobustPair i c n s (Short m t amount) = (m ≡ n) × (t ≡ s) × IsLeastThatMayLack i c n s None × IsRobustShort i c n s amount × (pos 0 <ℤ amount)
IsRobustPair i c n s (NoSuccessor m t z) = (m ≡ n) × (t ≡ s) × IsLeastThatMayLack i c n s (Some z)

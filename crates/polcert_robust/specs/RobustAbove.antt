-- What a check of upper bounds in every model within intervals finds. What is worst from above is worst from below where each reward and
-- each value is negated.
use Rattle.std.specs.Prelude.{ℕ}
use Rattle.polcert_cells.specs.Tables.{CellTable}
use Rattle.polcert_check.specs.Above.{MeetsEveryHorizonAbove, PassesAbove, PromiseAbove}
use Rattle.polcert_check.specs.Horizon.{Controller}
use Rattle.polcert_check.specs.declared.above.AboveVerdict.{AboveVerdict}
use Rattle.polcert_check.specs.declared.above.AboveVerdict.TheVariants as above
use Rattle.polcert_check.specs.declared.survey.Verdict.{Verdict}
use Rattle.polcert_check.specs.declared.survey.Verdict.TheVariants.{Yes, Short, NoSuccessor}
use Rattle.polcert_robust.specs.Intervals.{IntervalTable, LiesWithin, negated}
use Rattle.polcert_robust.specs.RobustVerdict.{IsRobustVerdict}
use Rattle.polcert_robust.specs.Worst.{negated_values, within_model}

-- the verdict from below that says the same of the negated rewards and values
abbrev pub below_of : AboveVerdict → Verdict
below_of above.Yes = Yes
below_of (above.Long n s amount) = Short n s amount
below_of (above.NoSuccessor n s z) = NoSuccessor n s z

-- Yes if every pair is robust from above, else the first pair that is not, and why: the least observation that it may lack, or else by how
-- much the next step comes to more under worst rows.
abbrev pub IsRobustAboveVerdict : IntervalTable → Controller → AboveVerdict → Type 0
IsRobustAboveVerdict i c v = IsRobustVerdict (negated i) (negated_values c) (below_of v)

-- the vectors pass from above in every model that lies within the intervals
abbrev pub PassesAboveInEveryModel : IntervalTable → Controller → Type 0
PassesAboveInEveryModel i c = (parts : ℕ) (m : CellTable) → LiesWithin i parts m → PassesAbove (within_model c parts m)

-- from n and s the promise of one step from above fails in some model that lies within
abbrev pub FailsAboveInSomeModel : IntervalTable → Controller → ℕ → ℕ → Type 0
FailsAboveInSomeModel i c n s = (m : CellTable) × LiesWithin i 1 m × (PromiseAbove (within_model c 1 m) 1 n s → ⊥)

-- A yes promises every horizon in every model that lies within; a no, that one step fails at the pair that it names in one of them.
abbrev pub MeetsHorizonAboveInEveryModel : IntervalTable → Controller → AboveVerdict → Type 0
MeetsHorizonAboveInEveryModel i c above.Yes = (parts : ℕ) (m : CellTable) → LiesWithin i parts m → MeetsEveryHorizonAbove (within_model c parts m)
MeetsHorizonAboveInEveryModel i c (above.Long n s amount) = FailsAboveInSomeModel i c n s
MeetsHorizonAboveInEveryModel i c (above.NoSuccessor n s z) = FailsAboveInSomeModel i c n s

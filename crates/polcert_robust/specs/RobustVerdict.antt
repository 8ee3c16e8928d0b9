-- What a check of every model within intervals finds.
use Rattle.std.specs.Prelude.{◌≡◌, ℕ, ◌*◌, ◌<◌, ℤ, pos, ◌-ℤ◌, ◌*ℤ◌, ◌<ℤ◌, Option, Some, None}
use Rattle.polcert_cells.specs.Tables.{CellTable}
use Rattle.polcert_check.specs.Horizon.{Controller, MeetsEveryHorizon, Promise, one}
use Rattle.polcert_check.specs.Shortfall.{Passes}
use Rattle.polcert_check.specs.Verdict.{IsBefore}
use Rattle.polcert_check.specs.declared.survey.Verdict.{Verdict}
use Rattle.polcert_check.specs.declared.survey.Verdict.TheVariants.{Yes, Short, NoSuccessor}
use Rattle.polcert_robust.specs.Intervals.{IntervalTable, LiesWithin}
use Rattle.polcert_robust.specs.Worst.{IsWorstStep, MayLack, PairIsRobust, IsRobust, within_model, worst_backing}

-- the least observation that n and s may lack, or that there is none
abbrev pub IsLeastThatMayLack : IntervalTable → Controller → ℕ → ℕ → Option ℕ → Type 0
IsLeastThatMayLack i c n s None = (z : ℕ) → z < i.observations → MayLack i c n s z → ⊥
IsLeastThatMayLack i c n s (Some z) = (z < i.observations) × MayLack i c n s z × ((y : ℕ) → y < z → MayLack i c n s y → ⊥)

-- The robust shortfall: how far the value of n at s is above what the next step backs under worst rows. It is one number: the law
-- `one_worst_case` says so.
pub record IsRobustShort (i : IntervalTable) (c : Controller) (n s : ℕ) (amount : ℤ) : Type 0 where
  pub seen : ℕ → ℕ → ℕ
  pub ends : ℕ → ℕ
  pub worst : IsWorstStep i c n s seen ends
  pub is : amount ≡ pos (i.t_scale * i.o_scale * one) *ℤ c.value n s -ℤ worst_backing i c n s seen ends

-- every pair before n and s is robust
abbrev pub IsRobustBefore : IntervalTable → Controller → ℕ → ℕ → Type 0
IsRobustBefore i c n s = (m t : ℕ) → m < c.nodes → t < i.states → IsBefore m t n s → PairIsRobust i c m t

-- Yes if every pair is robust, else the first pair that is not, and why: the least observation that it may lack, or else by how much it is
-- short under worst rows.
abbrev pub IsRobustVerdict : IntervalTable → Controller → Verdict → Type 0
IsRobustVerdict i c Yes = IsRobust i c
IsRobustVerdict i c (Short n s amount) = (n < c.nodes) × (s < i.states) × IsRobustBefore i c n s × IsLeastThatMayLack i c n s None × IsRobustShort i c n s amount × (pos 0 <ℤ amount)
IsRobustVerdict i c (NoSuccessor n s z) = (n < c.nodes) × (s < i.states) × IsRobustBefore i c n s × IsLeastThatMayLack i c n s (Some z)

-- ---- what it promises

-- the vectors pass in every model that lies within the intervals
abbrev pub PassesInEveryModel : IntervalTable → Controller → Type 0
PassesInEveryModel i c = (parts : ℕ) (m : CellTable) → LiesWithin i parts m → Passes (within_model c parts m)

-- from n and s the promise of one step fails in some model that lies within
abbrev pub FailsInSomeModel : IntervalTable → Controller → ℕ → ℕ → Type 0
FailsInSomeModel i c n s = (m : CellTable) × LiesWithin i 1 m × (Promise (within_model c 1 m) 1 n s → ⊥)

-- A yes promises every horizon in every model that lies within; a no, that one step fails at the pair that it names in one of them.
abbrev pub MeetsHorizonInEveryModel : IntervalTable → Controller → Verdict → Type 0
MeetsHorizonInEveryModel i c Yes = (parts : ℕ) (m : CellTable) → LiesWithin i parts m → MeetsEveryHorizon (within_model c parts m)
MeetsHorizonInEveryModel i c (Short n s amount) = FailsInSomeModel i c n s
MeetsHorizonInEveryModel i c (NoSuccessor n s z) = FailsInSomeModel i c n s

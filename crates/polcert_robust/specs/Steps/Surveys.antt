-- Helper definitions of private functions: what a walk over all pairs has found so far. Nobody has to believe them.
use Rattle.std.specs.Prelude.{◌≡◌, ◌⊎◌, ℕ, ◌<◌, ℤ, pos, ◌≤ℤ◌, None, ⊤}
use Rattle.polcert_check.specs.declared.fault.LowerFault.{LowerFault}
use Rattle.polcert_check.specs.declared.fault.LowerFault.TheVariants as faults
use Rattle.polcert_check.specs.Horizon.{Controller}
use Rattle.polcert_check.specs.Verdict.{IsBefore}
use Rattle.polcert_check.specs.declared.survey.Verdict.{Verdict}
use Rattle.polcert_check.specs.declared.survey.Verdict.TheVariants.{Yes, Short, NoSuccessor}
use Rattle.polcert_robust.specs.Intervals.{IntervalTable}
use Rattle.polcert_robust.specs.RobustLower.{IsFirstRobustShort}
use Rattle.polcert_robust.specs.RobustVerdict.{IsLeastThatMayLack, IsRobustBefore, IsRobustShort}
use Rattle.polcert_robust.specs.declared.findings.RobustFindings.{RobustFindings}

-- the pair may lack no observation, and its robust shortfall is at most this
pub record IsPairMeasured (i : IntervalTable) (c : Controller) (n s worst : ℕ) : Type 0 where
  pub lacks : IsLeastThatMayLack i c n s None
  pub amount : ℤ
  pub short : IsRobustShort i c n s amount
  pub most : amount ≤ℤ pos worst

-- the first pair before n and s that is short, or that every one of them is robust
abbrev pub IsFirstBefore : IntervalTable → Controller → ℕ → ℕ → Verdict → Type 0
IsFirstBefore i c n s Yes = IsRobustBefore i c n s
IsFirstBefore i c n s (Short m t amount) = IsFirstRobustShort i c m t amount
IsFirstBefore i c n s (NoSuccessor m t z) = ⊥

-- what is found at the pairs before n and s
pub record IsSurveyedBefore (i : IntervalTable) (c : Controller) (n s : ℕ) (f : RobustFindings) : Type 0 where
  pub measured : (m t : ℕ) → m < c.nodes → t < i.states → IsBefore m t n s → IsPairMeasured i c m t f.worst
  pub is_reached : (f.worst ≡ 0) ⊎ ((m : ℕ) × (t : ℕ) × (m < c.nodes) × (t < i.states) × IsRobustShort i c m t (pos f.worst))
  pub first : IsFirstBefore i c n s f.first

-- the verdict names no missing successor
abbrev pub HasSuccessors : Verdict → Type 0
HasSuccessors Yes = ⊤
HasSuccessors (Short n s amount) = ⊤
HasSuccessors (NoSuccessor n s z) = ⊥

-- the fault names the same missing successor
abbrev pub IsLackFault : Verdict → LowerFault → Type 0
IsLackFault Yes fault = ⊥
IsLackFault (Short n s amount) fault = ⊥
IsLackFault (NoSuccessor n s z) fault = fault ≡ faults.NoSuccessor n s z

-- the verdict so far if it is a no, else the one that is found
abbrev pub IsFirstNo : Verdict → Verdict → Verdict → Type 0
IsFirstNo Yes found r = r ≡ found
IsFirstNo (Short n s amount) found r = r ≡ Short n s amount
IsFirstNo (NoSuccessor n s z) found r = r ≡ NoSuccessor n s z

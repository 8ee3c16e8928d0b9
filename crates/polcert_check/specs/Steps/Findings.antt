-- Helper definitions of private functions: what a walk over the pairs of a node and a state has found so far. Nobody has to
-- believe them.
use Rattle.std.specs.Prelude.{◌≡◌, ℕ, ◌<◌, ◌≤◌, pos, ◌≤ℤ◌, ◌⊎◌, Some, None}
use Rattle.polcert_check.specs.Horizon.{Controller}
use Rattle.polcert_check.specs.Shortfall.{short}
use Rattle.polcert_check.specs.Verdict.{IsBefore, IsLeastLacking}
use Rattle.polcert_check.specs.Steps.Factored.{IsPairVerdict}
use Rattle.polcert_check.specs.declared.fault.LowerFault.{LowerFault}
use Rattle.polcert_check.specs.declared.fault.LowerFault.TheVariants as faults
use Rattle.polcert_check.specs.declared.findings.Mode.{Mode}
use Rattle.polcert_check.specs.declared.findings.Mode.TheVariants.{Check, Lowering}
use Rattle.polcert_check.specs.declared.findings.Findings.{Findings}
use Rattle.polcert_check.specs.declared.survey.Verdict.{Verdict}
use Rattle.polcert_check.specs.declared.survey.Verdict.TheVariants.{Yes, Short, NoSuccessor}

-- ---- which pairs were walked

abbrev pub IsPair : Controller → ℕ → ℕ → Type 0
IsPair c m t = (m < c.nodes) × (t < c.cells.states)

-- The walk goes by action, then by node and then by state. Its place is an action, a node and a state.

-- the pairs before this place
abbrev pub IsWalked : Controller → ℕ → ℕ → ℕ → ℕ → ℕ → Type 0
IsWalked c a n s m t = IsPair c m t × ((c.action m < a) ⊎ ((c.action m ≡ a) × IsBefore m t n s))

-- ---- the first of them

-- the same as IsPairVerdict, where to be short is no failure
abbrev pub IsLackVerdict : Controller → ℕ → ℕ → Verdict → Type 0
IsLackVerdict c n s Yes = IsLeastLacking c n s None
IsLackVerdict c n s (Short m t amount) = ⊥
IsLackVerdict c n s (NoSuccessor m t z) = (m ≡ n) × (t ≡ s) × IsLeastLacking c n s (Some z)

-- what a pair's verdict is for: no lowering mends what a pair lacks
abbrev pub IsVerdictFor : Mode → Controller → ℕ → ℕ → Verdict → Type 0
IsVerdictFor Check c n s v = IsPairVerdict c n s v
IsVerdictFor Lowering c n s v = IsLackVerdict c n s v

-- of each pair of P before n and s the verdict is yes
abbrev pub AreYesBefore : (ℕ → ℕ → Verdict → Type 0) → (ℕ → ℕ → Type 0) → ℕ → ℕ → Type 0
AreYesBefore Of P n s = (m t : ℕ) → P m t → IsBefore m t n s → Of m t Yes

-- the verdict on the first pair of P on which it isn't yes, or yes
abbrev pub IsFirstOf : (ℕ → ℕ → Verdict → Type 0) → (ℕ → ℕ → Type 0) → Verdict → Type 0
IsFirstOf Of P Yes = (m t : ℕ) → P m t → Of m t Yes
IsFirstOf Of P (Short n s amount) = P n s × Of n s (Short n s amount) × AreYesBefore Of P n s
IsFirstOf Of P (NoSuccessor n s z) = P n s × Of n s (NoSuccessor n s z) × AreYesBefore Of P n s

-- the verdict names a pair of node n or of one before it
abbrev pub NamesUntil : Verdict → ℕ → Type 0
NamesUntil Yes n = ⊥
NamesUntil (Short m s amount) n = m ≤ n
NamesUntil (NoSuccessor m s z) n = m ≤ n

-- what was found so far where that names a pair of node n or of one before it, else what was found at n
abbrev pub IsEarlier : Verdict → ℕ → Verdict → Verdict → Type 0
IsEarlier so_far n found r = (NamesUntil so_far n × (r ≡ so_far)) ⊎ ((NamesUntil so_far n → ⊥) × (r ≡ found))

-- ---- the greatest shortfall

-- no shortfall of a pair of P is above `worst`, which is one of them or 0
pub record IsWorstOf (c : Controller) (P : ℕ → ℕ → Type 0) (worst : ℕ) : Type 0 where
  pub bounds : (n s : ℕ) → P n s → short c n s ≤ℤ pos worst
  pub is_reached : (worst ≡ 0) ⊎ ((n : ℕ) × (s : ℕ) × P n s × (pos worst ≡ short c n s))

-- ---- together

pub record IsMeasured (c : Controller) (P : ℕ → ℕ → Type 0) (f : Findings) : Type 0 where
  pub short : IsFirstOf (IsPairVerdict c) P f.short
  pub worst : IsWorstOf c P f.worst

pub record IsFound (c : Controller) (P : ℕ → ℕ → Type 0) (f : Findings) : Type 0 where
  pub first : IsFirstOf (IsVerdictFor f.mode c) P f.first
  pub measured : f.mode ≡ Lowering → f.first ≡ Yes → IsMeasured c P f

-- the pairs before this place were walked
abbrev pub IsFoundBefore : Controller → ℕ → ℕ → ℕ → Findings → Type 0
IsFoundBefore c a n s f = IsFound c (IsWalked c a n s) f

-- what was found before n and s is found before n and t too: the pairs of n between them pass
abbrev pub PassUntil : Controller → ℕ → ℕ → ℕ → Type 0
PassUntil c n s t = (f : Findings) → IsFoundBefore c (c.action n) n s f → IsFoundBefore c (c.action n) n t f

-- ---- why vectors with this verdict are not lowered

abbrev pub IsLowerRefusal : Verdict → LowerFault → Type 0
IsLowerRefusal Yes fault = ⊥
IsLowerRefusal (Short n s amount) fault = fault ≡ faults.NoConstant n s amount
IsLowerRefusal (NoSuccessor n s z) fault = fault ≡ faults.NoSuccessor n s z

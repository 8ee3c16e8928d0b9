-- What a verdict says of the pairs of a node and a state.
use Rattle.std.specs.Prelude.{◌≡◌, ℕ, ◌<◌, ◌≤◌, unsigned_abs, ⊤, pos, ◌<ℤ◌, ◌⊎◌, Option, Some, None}
use Rattle.polcert_check.specs.declared.survey.Verdict.{Verdict}
use Rattle.polcert_check.specs.declared.survey.Verdict.TheVariants.{Yes, Short, NoSuccessor}
use Rattle.polcert_check.specs.Horizon.{Controller}
use Rattle.polcert_check.specs.Shortfall.{Lacks, short, most_short, PairPasses, Passes}

-- the pair m and t comes before n and s, by node and then by state
abbrev pub IsBefore : ℕ → ℕ → ℕ → ℕ → Type 0
IsBefore m t n s = (m < n) ⊎ ((m ≡ n) × (t < s))

-- every pair before n and s passes
abbrev pub PassesBefore : Controller → ℕ → ℕ → Type 0
PassesBefore c n s = (m t : ℕ) → m < c.nodes → t < c.cells.states → IsBefore m t n s → PairPasses c m t

-- the least observation that n and s lack, or that there is none
abbrev pub IsLeastLacking : Controller → ℕ → ℕ → Option ℕ → Type 0
IsLeastLacking c n s None = (z : ℕ) → z < c.cells.observations → Lacks c n s z → ⊥
IsLeastLacking c n s (Some z) = (z < c.cells.observations) × Lacks c n s z × ((y : ℕ) → y < z → Lacks c n s y → ⊥)

-- Yes where every pair passes, else the first pair that doesn't, and why: the least observation that it lacks, or else
-- by how much it is short.
abbrev pub IsVerdict : Controller → Verdict → Type 0
IsVerdict c Yes = Passes c
IsVerdict c (Short n s amount) = (n < c.nodes) × (s < c.cells.states) × PassesBefore c n s × IsLeastLacking c n s None × (amount ≡ short c n s) × (pos 0 <ℤ amount)
IsVerdict c (NoSuccessor n s z) = (n < c.nodes) × (s < c.cells.states) × PassesBefore c n s × IsLeastLacking c n s (Some z)

-- the amount that a verdict names, if any, is no larger than a shortfall can be
abbrev pub NamesSmallAmount : Controller → Verdict → Type 0
NamesSmallAmount c Yes = ⊤
NamesSmallAmount c (Short n s amount) = unsigned_abs amount ≤ most_short c
NamesSmallAmount c (NoSuccessor n s z) = ⊤

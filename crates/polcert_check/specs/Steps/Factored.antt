-- Helper definitions of private functions: what pairs of a node and a state have in common, added up once. Nobody has to
-- believe them.
use Rattle.std.specs.Prelude.{◌≡◌, ℕ, ◌<◌, ◌≤◌, ◌⊎◌, ℤ, pos, ◌*ℤ◌, ◌<ℤ◌, Option, Some, None, Bool, true, false, List, slice_index_or}
use Rattle.polcert_cells.specs.Tables.{CellTable}
use Rattle.polcert_check.specs.Horizon.{Controller, total_below}
use Rattle.polcert_check.specs.Shortfall.{at_node, short, PairPasses}
use Rattle.polcert_check.specs.Verdict.{IsLeastLacking}
use Rattle.polcert_check.specs.declared.expected_reward.EndRun.{EndRun}
use Rattle.polcert_check.specs.declared.expected_reward.TheConstants.{UNKNOWN}
use Rattle.polcert_check.specs.declared.survey.Verdict.{Verdict}
use Rattle.polcert_check.specs.declared.survey.Verdict.TheVariants.{Yes, Short, NoSuccessor}

-- ---- rewards, for each action and start state

-- the reward that is expected at end state e, on the scale of O
abbrev pub reward_at_end : CellTable → ℕ → ℕ → ℕ → ℤ
reward_at_end m a s e = total_below (λ z. pos (m.o a e z) *ℤ m.r a s e z) m.observations

-- the reward that action a expects at state s, on the scale of one step
abbrev pub factored_reward : CellTable → ℕ → ℕ → ℤ
factored_reward m a s = total_below (λ e. pos (m.t a s e) *ℤ reward_at_end m a s e) m.states

-- The reward is that expected at the run's end state. The end states after it, before another, have the same rewards, and if it is said so,
-- all observations have one.
pub record IsEndRun (m : CellTable) (a s : ℕ) (run : EndRun) : Type 0 where
  pub end : run.end < m.states
  pub reward : run.reward ≡ reward_at_end m a s run.end
  pub same : (f z : ℕ) → run.end ≤ f → f < run.until → f < m.states → z < m.observations → m.r a s f z ≡ m.r a s run.end z
  pub constant : run.is_constant ≡ true → (h : ℤ) × ((z : ℕ) → z < m.observations → m.r a s run.end z ≡ h)

-- the first numbers of the list are those of f, except those that are not computed yet
pub record AreKnown (f : ℕ → ℤ) (count : ℕ) (numbers : List ℤ) : Type 0 where
  pub each : (i : ℕ) → i < count → (slice_index_or numbers i (pos 0) ≡ UNKNOWN) ⊎ (slice_index_or numbers i (pos 0) ≡ f i)

-- at each end state that follows state s, the reward is in the list
pub record AreAtEnds (m : CellTable) (a s : ℕ) (at_ends : List ℤ) : Type 0 where
  pub each : (e : ℕ) → e < m.states → 0 < m.t a s e → slice_index_or at_ends e (pos 0) ≡ reward_at_end m a s e

-- every end state that action a reaches from one of the first states is marked
pub record AreMarked (m : CellTable) (a count : ℕ) (marks : List Bool) : Type 0 where
  pub each : (s e : ℕ) → s < count → e < m.states → 0 < m.t a s e → slice_index_or marks e false ≡ true

-- each start state has the same row of T
abbrev pub HasSameRows : CellTable → ℕ → Type 0
HasSameRows m a = (s e : ℕ) → s < m.states → e < m.states → m.t a s e ≡ m.t a 0 e

-- ---- values, for each node and end state

-- what observation z adds to the value at end state e
abbrev pub value_term : Controller → ℕ → ℕ → ℕ → Option ℕ → ℤ
value_term c n e z at = at_node (λ m. pos (c.cells.o (c.action n) e z) *ℤ c.value m e) at

-- the value of node n at end state e, on the scale of O
abbrev pub factored_value_at_end : Controller → ℕ → ℕ → ℤ
factored_value_at_end c n e = total_below (λ z. value_term c n e z (c.next n z)) c.cells.observations

-- the value that node n expects at state s, on the scale of one step
abbrev pub factored_value : Controller → ℕ → ℕ → ℤ
factored_value c n s = total_below (λ e. pos (c.cells.t (c.action n) s e) *ℤ factored_value_at_end c n e) c.cells.states

-- ---- observations that have no successor

-- the least number of which P is so, or that it is so of none
abbrev pub IsLeastOf : (ℕ → Type 0) → Option ℕ → Type 0
IsLeastOf P None = (z : ℕ) → P z → ⊥
IsLeastOf P (Some z) = P z × ((y : ℕ) → y < z → P y → ⊥)

-- observation z, below `count`, can be received in end state e, and n has no successor for it
abbrev pub Misses : Controller → ℕ → ℕ → ℕ → ℕ → Type 0
Misses c n e count z = (z < count) × (c.next n z ≡ None) × (0 < c.cells.o (c.action n) e z)

-- z, where n has no successor for it
abbrev pub IsMissedAt : Controller → ℕ → ℕ → Option ℕ → Type 0
IsMissedAt c n z missing = ((missing ≡ None) × (c.next n z ≡ None → ⊥)) ⊎ ((missing ≡ Some z) × (c.next n z ≡ None))

-- the least of two numbers, of which either may be none
abbrev pub IsMinOption : Option ℕ → Option ℕ → Option ℕ → Type 0
IsMinOption None y r = r ≡ y
IsMinOption (Some x) None r = r ≡ Some x
IsMinOption (Some x) (Some y) r = ((x ≤ y) × (r ≡ Some x)) ⊎ ((y < x) × (r ≡ Some y))

-- ---- the verdict on one pair

abbrev pub IsPairVerdict : Controller → ℕ → ℕ → Verdict → Type 0
IsPairVerdict c n s Yes = PairPasses c n s
IsPairVerdict c n s (Short m t amount) = (m ≡ n) × (t ≡ s) × IsLeastLacking c n s None × (amount ≡ short c n s) × (pos 0 <ℤ amount)
IsPairVerdict c n s (NoSuccessor m t z) = (m ≡ n) × (t ≡ s) × IsLeastLacking c n s (Some z)

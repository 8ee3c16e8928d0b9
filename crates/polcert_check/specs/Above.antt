-- The promise from above, for every number of steps: what a controller earns is expected to be at most what its vectors say.
-- Runs, weights, totals and shortfalls are those of the promise from below.
use Rattle.std.specs.Prelude.{◌≡◌, ℕ, ◌*◌, ◌^◌, ◌<◌, ◌≤◌, unsigned_abs, ⊤, ℤ, pos, neg_ℤ, ◌+ℤ◌, ◌*ℤ◌, ◌≤ℤ◌, ◌<ℤ◌, IsTrue, All, Some, None}
use Rattle.polcert_cells.specs.Tables.{CellTable}
use Rattle.polcert_policy.specs.Graphs.{PolicyGraph, nodes}
use Rattle.polcert_policy.specs.Vectors.{PolicyVectors, value_of}
use Rattle.polcert_check.specs.declared.above.AboveVerdict.{AboveVerdict}
use Rattle.polcert_check.specs.declared.above.AboveVerdict.TheVariants.{Yes, Long, NoSuccessor}
use Rattle.polcert_check.specs.Horizon.{Controller, Fits, controller_of, one, step_scale, runs, is_cut, run_weight, weights_sum, worth_sum, rewards_sum, HasCutRun}
use Rattle.polcert_check.specs.Shortfall.{short, most_short, Lacks, Passes}
use Rattle.polcert_check.specs.Verdict.{IsBefore, IsLeastLacking}

-- From n and s each cut run of k steps weighs nothing, and the others are worth at most the vector's value.
pub record PromiseAbove (c : Controller) (k n s : ℕ) : Type 0 where
  pub cut_runs : All (λ run. IsTrue (is_cut c (Some n) run) → run_weight c (Some n) s run ≡ 0) (runs c.cells k)
  pub uncut_runs : worth_sum c k (Some n) s ≤ℤ (pos (step_scale c ^ k * one ^ k) *ℤ c.value n s)

-- no vector value is below m
abbrev pub AtLeast : Controller → ℤ → Type 0
AtLeast c m = (n s : ℕ) → n < c.nodes → s < c.cells.states → m ≤ℤ c.value n s

-- Without the vectors at the end: the weights are all there; and where no vector value is below m, the rewards alone are
-- worth at most the vector's value less discount ^ k times m.
pub record RewardPromiseAbove (c : Controller) (k n s : ℕ) : Type 0 where
  pub weights : weights_sum c k (Some n) s ≡ pos (step_scale c ^ k)
  pub rewarded : (m : ℤ) → AtLeast c m → (rewards_sum c k (Some n) s +ℤ pos (c.cells.discount ^ k * step_scale c ^ k) *ℤ m) ≤ℤ (pos (step_scale c ^ k * one ^ k) *ℤ c.value n s)

-- every number of steps, from every node and state, with the vectors at the end and without
abbrev pub MeetsEveryHorizonAbove : Controller → Type 0
MeetsEveryHorizonAbove c = (k n s : ℕ) → n < c.nodes → s < c.cells.states → PromiseAbove c k n s × RewardPromiseAbove c k n s

-- A yes from above promises every horizon, and a no refutes the promise of one step at the pair that it names; where a
-- successor is missing, it is a run of one step that is cut and weighs more than 0.
abbrev pub MeetsHorizonAbove : Controller → AboveVerdict → Type 0
MeetsHorizonAbove c Yes = MeetsEveryHorizonAbove c
MeetsHorizonAbove c (Long n s amount) = PromiseAbove c 1 n s → ⊥
MeetsHorizonAbove c (NoSuccessor n s z) = (PromiseAbove c 1 n s → ⊥) × HasCutRun c n s z

-- ---- the verdict

-- the pair lacks no observation, and its value is not below what the next step comes to
pub record PairPassesAbove (c : Controller) (n s : ℕ) : Type 0 where
  pub lacks_none : (z : ℕ) → z < c.cells.observations → Lacks c n s z → ⊥
  pub not_long : pos 0 ≤ℤ short c n s

-- every pair passes
abbrev pub PassesAbove : Controller → Type 0
PassesAbove c = (n s : ℕ) → n < c.nodes → s < c.cells.states → PairPassesAbove c n s

-- every pair before n and s passes
abbrev pub PassesAboveBefore : Controller → ℕ → ℕ → Type 0
PassesAboveBefore c n s = (m t : ℕ) → m < c.nodes → t < c.cells.states → IsBefore m t n s → PairPassesAbove c m t

-- Yes where every pair passes, else the first pair that doesn't, and why: the least observation that it lacks, or else by
-- how much its value is below what the next step comes to.
abbrev pub IsAboveVerdict : Controller → AboveVerdict → Type 0
IsAboveVerdict c Yes = PassesAbove c
IsAboveVerdict c (Long n s amount) = (n < c.nodes) × (s < c.cells.states) × PassesAboveBefore c n s × IsLeastLacking c n s None × (amount ≡ neg_ℤ (short c n s)) × (pos 0 <ℤ amount)
IsAboveVerdict c (NoSuccessor n s z) = (n < c.nodes) × (s < c.cells.states) × PassesAboveBefore c n s × IsLeastLacking c n s (Some z)

-- the amount that a verdict from above names, if any, is no larger than a shortfall can be
abbrev pub NamesSmallAmountAbove : Controller → AboveVerdict → Type 0
NamesSmallAmountAbove c Yes = ⊤
NamesSmallAmountAbove c (Long n s amount) = unsigned_abs amount ≤ most_short c
NamesSmallAmountAbove c (NoSuccessor n s z) = ⊤

-- where the discount is below 1, vectors of the graph that pass from below are nowhere above these
abbrev pub BoundEveryLowerVector : CellTable → PolicyGraph → PolicyVectors → Type 0
BoundEveryLowerVector t g high = t.discount < one → (low : PolicyVectors) → Fits t g low → Passes (controller_of t g low) → (n s : ℕ) → n < nodes g → s < t.states → value_of low n s ≤ℤ value_of high n s

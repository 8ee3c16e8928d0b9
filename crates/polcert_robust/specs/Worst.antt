-- The worst case of one step: what the check computes at a pair of a node and a state.
use Rattle.std.specs.Prelude.{◌≡◌, ℕ, ◌*◌, ◌<◌, ◌≤◌, ◌==◌, if◌then◌else◌, ℤ, pos, neg_ℤ, ◌+ℤ◌, ◌*ℤ◌, ◌≤ℤ◌, ◌<ℤ◌, None}
use Rattle.polcert_cells.specs.Meaning.{sum_below}
use Rattle.polcert_cells.specs.Tables.{CellTable}
use Rattle.polcert_check.specs.Horizon.{Controller, one, total_below}
use Rattle.polcert_check.specs.Shortfall.{at_node}
use Rattle.polcert_robust.specs.Intervals.{IntervalTable}

-- The row is worst for the values x: it sums to the scale, and each weight lies in its interval, at its high end where the value
-- is below some level and at its low end where the value is above it.
-- Source: the order-maximizing rows of Givan, Leach and Dean (2000).
pub record IsWorstRow (low high : ℕ → ℕ) (scale count : ℕ) (x : ℕ → ℤ) (row : ℕ → ℕ) : Type 0 where
  pub sums : sum_below row count ≡ scale
  pub from : (i : ℕ) → i < count → low i ≤ row i
  pub to : (i : ℕ) → i < count → row i ≤ high i
  pub level : ℤ
  pub below : (i : ℕ) → i < count → x i <ℤ level → row i ≡ high i
  pub above : (i : ℕ) → i < count → level <ℤ x i → row i ≡ low i

-- the mean of x under a row, times what the row sums to
abbrev pub mean : (ℕ → ℕ) → (ℕ → ℤ) → ℕ → ℤ
mean row x count = total_below (λ i. pos (row i) *ℤ x i) count

-- What a step to e with z is worth at least, where n's action was taken at s: the least reward and the discounted value after it;
-- nothing where no node follows.
abbrev pub least_step_worth : IntervalTable → Controller → ℕ → ℕ → ℕ → ℕ → ℤ
least_step_worth i c n s e z = at_node (λ m. pos one *ℤ i.r_low (c.action n) s e z +ℤ pos i.discount *ℤ c.value m e) (c.next n z)

-- Worst rows of o, one for each end state, and the worst row of t for the means that they leave.
pub record IsWorstStep (i : IntervalTable) (c : Controller) (n s : ℕ) (seen : ℕ → ℕ → ℕ) (ends : ℕ → ℕ) : Type 0 where
  pub seen_worst : (e : ℕ) → e < i.states
      → IsWorstRow (i.o_low (c.action n) e) (i.o_high (c.action n) e) i.o_scale i.observations (least_step_worth i c n s e) (seen e)
  pub ends_worst : IsWorstRow (i.t_low (c.action n) s) (i.t_high (c.action n) s) i.t_scale i.states (λ e. mean (seen e) (least_step_worth i c n s e) i.observations) ends

-- what backs the value of n at s under these rows
abbrev pub worst_backing : IntervalTable → Controller → ℕ → ℕ → (ℕ → ℕ → ℕ) → (ℕ → ℕ) → ℤ
worst_backing i c n s seen ends = mean ends (λ e. mean (seen e) (least_step_worth i c n s e) i.observations) i.states

-- observation z may be received at n and s, and n has no successor for it
abbrev pub MayLack : IntervalTable → Controller → ℕ → ℕ → ℕ → Type 0
MayLack i c n s z = (c.next n z ≡ None) × ((e : ℕ) × (e < i.states) × (0 < i.t_high (c.action n) s e * i.o_high (c.action n) e z))

-- The pair lacks no observation that may be received, and is not short in the worst case.
pub record PairIsRobust (i : IntervalTable) (c : Controller) (n s : ℕ) : Type 0 where
  pub lacks_none : (z : ℕ) → z < i.observations → MayLack i c n s z → ⊥
  pub seen : ℕ → ℕ → ℕ
  pub ends : ℕ → ℕ
  pub worst : IsWorstStep i c n s seen ends
  pub not_short : (pos (i.t_scale * i.o_scale * one) *ℤ c.value n s) ≤ℤ worst_backing i c n s seen ends

-- every pair is
abbrev pub IsRobust : IntervalTable → Controller → Type 0
IsRobust i c = (n s : ℕ) → n < c.nodes → s < i.states → PairIsRobust i c n s

-- ---- from above

-- the same controller with each value negated
abbrev pub negated_values : Controller → Controller
negated_values c = record c { value = λ n s. neg_ℤ (c.value n s) }

-- ---- what it promises

-- the controller with the cells of a model that lies within the intervals, each value in the model's parts of a millionth
abbrev pub within_model : Controller → ℕ → CellTable → Controller
within_model c parts m = record c { cells = m; value = λ n s. pos parts *ℤ c.value n s }

-- ---- the model that is worst at one pair

-- These rows at one action and start state, the least rewards, and elsewhere the rows of another model.
abbrev pub worst_model : IntervalTable → CellTable → ℕ → ℕ → (ℕ → ℕ → ℕ) → (ℕ → ℕ) → CellTable
worst_model i m a s seen ends = record {
  states = i.states;
  actions = i.actions;
  observations = i.observations;
  discount = i.discount;
  t_scale = i.t_scale;
  o_scale = i.o_scale;
  t = (λ b u. if b == a then (if u == s then ends else m.t b u) else m.t b u);
  o = (λ b. if b == a then seen else m.o b);
  r = i.r_low;
}

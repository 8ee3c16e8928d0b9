-- Policies that choose by chance, and what one earns in k steps.
--
-- Sources: randomised policies that depend on the history as in Puterman, Markov Decision Processes (1994), section 2.1.4; what such a
-- policy earns, by the recursion of section 4.2 there.
use Rattle.std.specs.Prelude.{◌≡◌, ℕ, zero, suc, ◌*◌, ◌^◌, ◌<◌, ◌≤◌, ℤ, pos, ◌+ℤ◌, ◌*ℤ◌, ◌≤ℤ◌, Bool, true, false, List, [], ◌∷◌}
use Rattle.polcert_cells.specs.Meaning.{Meaning, states_of, start_total, sum_below}
use Rattle.polcert_cells.specs.Preamble.{is_mdp}
use Rattle.polcert_cells.specs.Tables.{CellTable, table_of}
use Rattle.polcert_check.specs.Horizon.{one, total_below}
use Rattle.polcert_optimum.specs.Policy.{step_weight, step_scale}
use Rattle.polcert_optimum.specs.Start.{sum_over_start}

-- After the actions taken and the observations made so far, the first pair first, the policy gives each action a weight. It takes each
-- with probability weight / draws, where `draws` is what the weights sum to. (In k steps there are finitely many histories, so whatever
-- rational probabilities a policy has can be brought on one such scale.)
abbrev pub RandomisedPolicy : Type 0
RandomisedPolicy = List (ℕ × ℕ) → ℕ → ℕ

-- actions and observations of the model
abbrev pub AreSteps : CellTable → List (ℕ × ℕ) → Type 0
AreSteps t [] = Unit {0}
AreSteps t (p ∷ history) = (p.0 < t.actions) × (p.1 < t.observations) × AreSteps t history

abbrev pub IsRandomisedPolicyOf : CellTable → ℕ → RandomisedPolicy → Type 0
IsRandomisedPolicyOf t draws policy = (history : List (ℕ × ℕ)) → AreSteps t history → sum_below (policy history) t.actions ≡ draws

-- how it continues after a first action with this observation
abbrev pub after_step : RandomisedPolicy → ℕ → ℕ → RandomisedPolicy
after_step policy a z = λ history. policy ((a, z) ∷ history)

-- the mean of f over the next action, on the scale `draws`
abbrev pub mean_of_next : CellTable → RandomisedPolicy → (ℕ → ℤ) → ℤ
mean_of_next t policy f = total_below (λ a. pos (policy [] a) *ℤ f a) t.actions

-- the scale of what is expected in k steps
abbrev pub drawn_scale : CellTable → ℕ → ℕ → ℕ
drawn_scale t draws k = (draws * step_scale t) ^ k * one ^ k

-- The discounted rewards of k steps that are expected from s, with the discounted value `end` added of what is left of the policy, and
-- of the state, where they end. `end` is on the scale `draws`, and all on `draws` * drawn_scale t draws k.
abbrev pub drawn_total : CellTable → ℕ → (RandomisedPolicy → ℕ → ℤ) → RandomisedPolicy → ℕ → ℕ → ℤ
drawn_total t draws end policy zero s = end policy s
drawn_total t draws end policy (suc k) s = mean_of_next t policy (λ a. total_below (λ e. total_below (λ z.
    pos (step_weight t a s e z) *ℤ (pos (one * (draws * drawn_scale t draws k)) *ℤ t.r a s e z +ℤ pos t.discount *ℤ drawn_total t draws end (after_step policy a z) k e))
    t.observations) t.states)

-- the rewards alone
abbrev pub drawn_rewards : CellTable → ℕ → RandomisedPolicy → ℕ → ℕ → ℤ
drawn_rewards t draws policy k s = drawn_total t draws (λ _ _. pos 0) policy k s

-- with the value of the next action's vector where they end
abbrev pub drawn_with_vectors : CellTable → ℕ → (ℕ → ℕ → ℤ) → RandomisedPolicy → ℕ → ℕ → ℤ
drawn_with_vectors t draws vectors policy k s = drawn_total t draws (λ left e. mean_of_next t left (λ b. vectors b e)) policy k s

-- Every policy that chooses by chance earns at most the mean over its first action of the action's vector where it starts, for every number
-- of steps: with the value of the next action's vector where it ends, and, if no value of a vector is below `low`, the rewards alone at most
-- that less discount ^ k times `low`.
abbrev pub BoundEveryRandomisedPolicy : CellTable → (ℕ → ℕ → ℤ) → Type 0
BoundEveryRandomisedPolicy t vectors = (draws : ℕ) (policy : RandomisedPolicy) → IsRandomisedPolicyOf t draws policy → (k s : ℕ) → s < t.states
    → (drawn_with_vectors t draws vectors policy k s ≤ℤ (pos (drawn_scale t draws k) *ℤ mean_of_next t policy (λ a. vectors a s)))
    × ((low : ℤ) → ((a e : ℕ) → a < t.actions → e < t.states → low ≤ℤ vectors a e)
    → (drawn_rewards t draws policy k s +ℤ pos (t.discount ^ k * (draws * (draws * step_scale t) ^ k)) *ℤ low) ≤ℤ (pos (drawn_scale t draws k) *ℤ mean_of_next t policy (λ a. vectors a s)))

-- ---- from a model's start

-- the scale of what is expected from the start
abbrev pub drawn_start_scale : Meaning → ℕ → ℕ → ℕ
drawn_start_scale m draws k = start_total m * (draws * drawn_scale (table_of m) draws k)

-- From the start the policy, which may be another one for each start state, earns at most `most` in k steps.
pub record IsDrawnBoundedFromStart (m : Meaning) (vectors : ℕ → ℕ → ℤ) (draws : ℕ) (policy : ℕ → RandomisedPolicy) (k : ℕ) (most : ℤ) : Type 0 where
  pub total : sum_over_start m (λ s. drawn_with_vectors (table_of m) draws vectors (policy s) k s) ≤ℤ (pos (drawn_start_scale m draws k) *ℤ most)
  pub rewards : (low : ℤ) → ((a e : ℕ) → a < (table_of m).actions → e < states_of m → low ≤ℤ vectors a e)
      → (sum_over_start m (λ s. drawn_rewards (table_of m) draws (policy s) k s) +ℤ pos (start_total m * (m.preamble.discount ^ k * (draws * (draws * step_scale (table_of m)) ^ k))) *ℤ low) ≤ℤ (pos (drawn_start_scale m draws k) *ℤ most)

-- In the long run it earns at most `high`: for each tolerance of 1 / d millionths there is a number of steps from which on its expected
-- discounted rewards are at most `high` and the tolerance.
abbrev pub DrawnEarnsAtMost : Meaning → ℕ → (ℕ → RandomisedPolicy) → ℤ → Type 0
DrawnEarnsAtMost m draws policy high = (d : ℕ) → 0 < d → (first : ℕ) × ((k : ℕ) → first ≤ k
    → (pos d *ℤ sum_over_start m (λ s. drawn_rewards (table_of m) draws (policy s) k s)) ≤ℤ (pos (d * drawn_start_scale m draws k) *ℤ high +ℤ pos (drawn_start_scale m draws k)))

-- Each policy that chooses by chance earns at most `most` from the start, for every number of steps; in an MDP (true) also one that sees the
-- start state, as a policy of its own for each start state.
abbrev pub BoundRandomisedOf : Bool → Meaning → (ℕ → ℕ → ℤ) → ℤ → Type 0
BoundRandomisedOf true m vectors most = (draws : ℕ) (policy : ℕ → RandomisedPolicy) → ((s : ℕ) → s < states_of m → IsRandomisedPolicyOf (table_of m) draws (policy s)) → (k : ℕ)
    → IsDrawnBoundedFromStart m vectors draws policy k most
BoundRandomisedOf false m vectors most = (draws : ℕ) (policy : RandomisedPolicy) → IsRandomisedPolicyOf (table_of m) draws policy → (k : ℕ)
    → IsDrawnBoundedFromStart m vectors draws (λ s. policy) k most

abbrev pub BoundRandomisedPoliciesOfModel : Meaning → (ℕ → ℕ → ℤ) → ℤ → Type 0
BoundRandomisedPoliciesOfModel m vectors most = BoundRandomisedOf (is_mdp m.preamble) m vectors most

-- the same in the long run
abbrev pub RandomisedEarnAtMost : Bool → Meaning → ℤ → Type 0
RandomisedEarnAtMost true m high = (draws : ℕ) (policy : ℕ → RandomisedPolicy) → ((s : ℕ) → s < states_of m → IsRandomisedPolicyOf (table_of m) draws (policy s)) → DrawnEarnsAtMost m draws policy high
RandomisedEarnAtMost false m high = (draws : ℕ) (policy : RandomisedPolicy) → IsRandomisedPolicyOf (table_of m) draws policy → DrawnEarnsAtMost m draws (λ s. policy) high

abbrev pub RandomisedPoliciesOfModelEarnAtMost : Meaning → ℤ → Type 0
RandomisedPoliciesOfModelEarnAtMost m high = RandomisedEarnAtMost (is_mdp m.preamble) m high

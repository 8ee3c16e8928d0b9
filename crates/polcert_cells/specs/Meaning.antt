-- What callers see of a model: what its text denotes.
-- Source: the POMDP file format page at pomdp.org. Our own is how it is kept: probabilities are whole numbers over a
-- scale (a row sums to its scale exactly), discount and rewards are in millionths, and a reward is what is written, or
-- minus that under `values: cost`, so that more is better; and that in an MDP the end state is observed.
use Rattle.std.specs.Prelude.{◌≡◌, ℕ, zero, suc, ◌+◌, ◌*◌, ◌<◌, ◌≤◌, ◌==◌, if◌then◌else◌, List, [], ◌∷◌, ℤ, unsigned_abs, Option, unwrap_or, length, get_or, sum}
use Rattle.polcert_text.specs.Numbers.{largest}
use Rattle.polcert_cells.specs.declared.entries.Table.TheVariants.{Transition, Observation}
use Rattle.polcert_cells.specs.declared.elements.Kind.{Kind}
use Rattle.polcert_cells.specs.declared.elements.Kind.TheVariants as kinds
use Rattle.polcert_cells.specs.Elements.{Elements, count_of, most_states, most_actions, most_observations, most_pairs}
use Rattle.polcert_cells.specs.Numbers.{one}
use Rattle.polcert_cells.specs.Preamble.{Preamble, is_mdp, observed}
use Rattle.polcert_cells.specs.declared.entries.Entry.{Entry}
use Rattle.polcert_cells.specs.Cells.{weight, reward}
use Rattle.polcert_cells.specs.Start.{StartWeights, all_states}

-- The preamble, the start, and each cell by its indices: action, start state, end state; action, end state,
-- observation; action, start state, end state, observation.
pub record Meaning : Type 0 where
  pub preamble : Preamble
  pub start : StartWeights
  pub t : ℕ → ℕ → ℕ → ℕ
  pub o : ℕ → ℕ → ℕ → ℕ
  pub r : ℕ → ℕ → ℕ → ℕ → ℤ

abbrev pub states_of : Meaning → ℕ
states_of m = count_of m.preamble.states

abbrev pub actions_of : Meaning → ℕ
actions_of m = count_of m.preamble.actions

abbrev pub observations_of : Meaning → ℕ
observations_of m = count_of (observed m.preamble)

-- the elements of this kind
abbrev pub elements_of : Meaning → Kind → Elements
elements_of m kinds.State = m.preamble.states
elements_of m kinds.Action = m.preamble.actions
elements_of m kinds.Observation = observed m.preamble

abbrev pub t_scale : Meaning → ℕ
t_scale m = one * states_of m

abbrev pub o_scale : Meaning → ℕ
o_scale m = one * observations_of m

-- the share of a state in the start, and the total of all shares
abbrev pub start_weight : Meaning → ℕ → ℕ
start_weight m s = get_or m.start.weights s 0

abbrev pub start_total : Meaning → ℕ
start_total m = m.start.total

-- The weight of an observation, at an action and an end state. In an MDP the end state is observed, and nothing else.
abbrev pub observation_weight : Preamble → List Entry → ℕ → ℕ → ℕ → ℕ
observation_weight p entries a e z =
    if is_mdp p then (if e == z then one * count_of p.states else 0) else weight p entries Observation (a ∷ e ∷ z ∷ [])

-- What a complete preamble, a start item and entries denote. With no start item all states are equally likely. In an MDP a reward has
-- nothing to do with what is observed.
abbrev pub meaning_of : Preamble → Option StartWeights → List Entry → Meaning
meaning_of p start entries = record {
  preamble = p;
  start = unwrap_or start (all_states p.states);
  t = (λ a s e. weight p entries Transition (a ∷ s ∷ e ∷ []));
  o = observation_weight p entries;
  r = (λ a s e z. reward p entries (a ∷ s ∷ e ∷ (if is_mdp p then 0 else z) ∷ []));
}

-- two meanings are equal, as far as indices are in range
pub record IsSame (m n : Meaning) : Type 0 where
  pub preamble : m.preamble ≡ n.preamble
  pub start : m.start ≡ n.start
  pub t : (a s e : ℕ) → a < actions_of m → s < states_of m → e < states_of m → m.t a s e ≡ n.t a s e
  pub o : (a e z : ℕ) → a < actions_of m → e < states_of m → z < observations_of m → m.o a e z ≡ n.o a e z
  pub r : (a s e z : ℕ) → a < actions_of m → s < states_of m → e < states_of m → z < observations_of m → m.r a s e z ≡ n.r a s e z

-- f 0 + f 1 + .. + f (n - 1)
abbrev pub sum_below : (ℕ → ℕ) → ℕ → ℕ
sum_below f zero = 0
sum_below f (suc n) = sum_below f n + f n

-- each row sums to its scale, exactly
pub record HasProperRows (m : Meaning) : Type 0 where
  pub transitions : (a s : ℕ) → a < actions_of m → s < states_of m → sum_below (m.t a s) (states_of m) ≡ t_scale m
  pub observations : (a e : ℕ) → a < actions_of m → e < states_of m → sum_below (m.o a e) (observations_of m) ≡ o_scale m

-- The last index of a reward, where this is observed: in an MDP a reward has nothing to do with it.
abbrev pub reward_index : Preamble → ℕ → ℕ
reward_index p z = if is_mdp p then 0 else z

-- how many elements of each kind there are
abbrev pub IsCount : ℕ → ℕ → Type 0
IsCount most n = (1 ≤ n) × (n ≤ most)

-- what callers may rely on: counts, and how large numbers are
pub record HasLimitedNumbers (m : Meaning) : Type 0 where
  pub states : IsCount most_states (states_of m)
  pub actions : IsCount most_actions (actions_of m)
  pub observations : IsCount most_observations (observations_of m)
  pub pairs : states_of m * observations_of m ≤ most_pairs
  pub discount : m.preamble.discount ≤ one
  pub t : (a s e : ℕ) → a < actions_of m → s < states_of m → e < states_of m → m.t a s e ≤ t_scale m
  pub o : (a e z : ℕ) → a < actions_of m → e < states_of m → z < observations_of m → m.o a e z ≤ o_scale m
  pub r : (a s e z : ℕ) → a < actions_of m → s < states_of m → e < states_of m → z < observations_of m → unsigned_abs (m.r a s e z) ≤ largest
  pub start_count : length m.start.weights ≡ states_of m
  pub start_sum : sum m.start.weights ≡ start_total m
  pub start_some : 0 < start_total m
  pub start_most : start_total m ≤ one

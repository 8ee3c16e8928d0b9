-- An entry that may come next fits into a list of entries: the numbers of its elements are small, and it has few numbers.
use Rattle.std.proofs.Common.{◌≡◌, ℕ, zero, suc, ◌*◌, ◌≤◌, ◌==◌, true, Option, Some, None, is_none, unwrap_or, All, List, [], ◌∷◌, length}
use Rattle.std.proofs.Common.{drop, arith}
use Rattle.std.proofs.Math.Nat.{mul-le-mul}
use Rattle.polcert_items.proofs.Common.{list_any, All-nil, All-cons, Elements, Count, Body, Entry, Place, Every, Only, Table, Transition}
use Rattle.polcert_items.proofs.Common.{Observation, Reward, count_of, most_states, most_actions, most_observations, cells_in, Preamble}
use Rattle.polcert_items.proofs.Common.{is_mdp, dimensions, ModelSoFar, preamble_in, indices_in}
use Rattle.polcert_cells.specs.Elements.{most_elements}
use Rattle.polcert_cells.specs.Entry.{forms}
use Rattle.polcert_cells.specs.EntryRefs.{IsSmallPlace, IsShortBody, CanBeKept, most_numbers}
use Rattle.polcert_cells.specs.Preamble.{observed}
use Rattle.polcert_cells.specs.Steps.Sound.{ArePlacesIn, Fills, IsSoundEntry}
use Rattle.polcert_cells.specs.declared.entries.Body.TheVariants.{Uniform, Identity}
use Rattle.polcert_items.proofs.CoveringLaws.{nothing_written}
use Rattle.polcert_items.specs.Steps.ModelSoFar.{IsCountIn}

abbrev IsFew : Elements → Type 0
IsFew d = count_of d ≤ most_elements

abbrev AreFew : List Elements → Type 0
AreFew [] = Unit {0}
AreFew (d ∷ ds) = IsFew d × AreFew ds

small_places : (ds : List Elements) (ps : List Place) → AreFew ds → ArePlacesIn ds ps → All IsSmallPlace ps
small_places ds [] few a = All-nil _
small_places [] (p ∷ ps) few a = absurd a
small_places (d ∷ ds) (Every ∷ ps) few a = All-cons IsSmallPlace Every ps tt (small_places ds ps few.1 a.1)
small_places (d ∷ ds) (Only n ∷ ps) few a = All-cons IsSmallPlace (Only n) ps (omega arith) (small_places ds ps few.1 a.1)

-- ---- the cells that places leave open

after_two : (n : ℕ) (s c : Elements) → IsFew s → IsFew c → cells_in (drop n (s ∷ c ∷ [])) ≤ most_numbers
after_two zero s c ls lc =
    let last : count_of c * 1 ≤ most_elements = omega arith in
    (mul-le-mul ls last)
after_two (suc zero) s c ls lc = omega (arith, lc)
after_two (suc (suc zero)) s c ls lc = omega arith
after_two (suc (suc (suc n))) s c ls lc = omega arith

-- after the action alone: in an MDP a reward has no observation
after_one : (observations : Option Elements) (s : Elements) (body : Body) → IsFew s
    → list_any (λ n. n == 1) (forms (is_none observations) Reward body) ≡ true
    → cells_in (s ∷ s ∷ unwrap_or observations (Count 1) ∷ []) ≤ most_numbers
after_one None s body ls form = after_two 0 s s ls ls
after_one (Some o) s _ ls form = absurd (grind arith)

module _ (p : Preamble) (states : IsFew p.states) (actions : IsFew p.actions) (observations : IsFew (observed p))
    (rewarded : IsFew (unwrap_or p.observations (Count 1))) where
  few_dimensions : (table : Table) → AreFew (dimensions p table)
  few_dimensions Transition = (actions, (states, (states, tt)))
  few_dimensions Observation = (actions, (states, (observations, tt)))
  few_dimensions Reward = (actions, (states, (states, (rewarded, tt))))

  few_cells : (table : Table) (places : List Place) (body : Body) → list_any (λ n. n == length places) (forms (is_mdp p) table body) ≡ true
      → cells_in (drop (length places) (dimensions p table)) ≤ most_numbers
  few_cells table [] body form = absurd (nothing_written (is_mdp p) table body form)
  few_cells Transition (x ∷ places) body form = after_two _ p.states p.states states states
  few_cells Observation (x ∷ places) body form = after_two _ p.states (observed p) states observations
  few_cells Reward (x ∷ []) body form = after_one _ p.states body states form
  few_cells Reward (x ∷ y ∷ places) body form = after_two _ p.states (unwrap_or p.observations (Count 1)) states rewarded

short_body : (cells : ℕ) (body : Body) → cells ≤ most_numbers → Fills cells body → IsShortBody body
short_body cells Uniform few fills = tt
short_body cells Identity few fills = tt
short_body cells _ few fills = omega (arith, few, fills.0)

pub can_be_kept : (k : ModelSoFar) (e : Entry) → IsCountIn most_states k.states → IsCountIn most_actions k.actions
    → IsCountIn most_observations k.observations → IsSoundEntry (preamble_in k) e → CanBeKept e
can_be_kept k e states actions observations sound =
    let p : Preamble = preamble_in k in
    let few_states : IsFew p.states = grind arith in
    let few_actions : IsFew p.actions = grind arith in
    let observed : IsFew (observed p) = grind arith in
    let rewarded : IsFew (unwrap_or p.observations (Count 1)) = grind arith in
    record {
      places = small_places (dimensions p e.table) e.places (few_dimensions p few_states few_actions observed rewarded e.table)
          sound.places;
      body = short_body _ e.body (few_cells p few_states few_actions observed rewarded e.table e.places e.body sound.form) sound.body;
    }

-- ---- there is room for one place more
pub few_indices : (k : ModelSoFar) (table : Table) → length (indices_in k table) ≤ 4
few_indices k Transition = omega arith
few_indices k Observation = omega arith
few_indices k Reward = omega arith

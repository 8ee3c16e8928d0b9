-- The entries of a printed model give each cell of the model back.
use Rattle.std.proofs.Common.{◌≡◌, ◌∙◌, ℕ, ◌<◌, ◌==◌, Bool, true, false, ◌&&◌, cond, Some, List, [], ◌∷◌, ◌++◌, refl, ap, arith, rules}
use Rattle.polcert_full_form.proofs.Common.{Table, Transition, Observation, Reward, Entry, is_mdp, is_table, covers, weight}
use Rattle.polcert_full_form.proofs.Common.{reward, value_or, Meaning, states_of, actions_of, observations_of, for_each}
use Rattle.polcert_cells.specs.Meaning.{reward_index}
use Rattle.polcert_full_form.proofs.Denoting.Covering.{last_of, none_of, last_after, last_before, none_both, none_of_each, last_of_each}
use Rattle.polcert_full_form.proofs.Denoting.RowEntries.{row_entries, Fits, entries_elsewhere, transition_rows}
use Rattle.polcert_full_form.proofs.Denoting.RowEntries.{observation_rows, row_covered}
use Rattle.polcert_full_form.proofs.Denoting.RewardEntries.{entries_from, IsGiven, given_is, given_after, given_each, from_elsewhere}
use Rattle.polcert_full_form.proofs.Denoting.RewardEntries.{from_given}

abbrev pub transition_entries : Meaning → List Entry
transition_entries m = for_each (actions_of m) (λ a. for_each (states_of m) (λ s. row_entries Transition a s (states_of m) (m.t a s)))

-- (none in an MDP)
abbrev pub seen_entries : Meaning → List Entry
seen_entries m = for_each (actions_of m) (λ a. for_each (states_of m) (λ e. row_entries Observation a e (observations_of m) (m.o a e)))

abbrev pub observation_entries : Meaning → List Entry
observation_entries m = cond (is_mdp m.preamble) [] (seen_entries m)

abbrev pub rewards_at : Meaning → ℕ → ℕ → List Entry
rewards_at m a s = entries_from (is_mdp m.preamble) m.preamble.costs a s (states_of m) (observations_of m) (m.r a s)

abbrev pub rewards_entries : Meaning → List Entry
rewards_entries m = for_each (actions_of m) (λ a. for_each (states_of m) (rewards_at m a))

abbrev pub all_entries : Meaning → List Entry
all_entries m = transition_entries m ++ observation_entries m ++ rewards_entries m

-- rows of a table that aren't asked for
module _ (table asked : Table) (i j : ℕ) (more : List ℕ) where
  other_table : (actions states n : ℕ) (w : ℕ → ℕ → ℕ → ℕ) → is_table table asked ≡ false
      → none_of (covers asked (i ∷ j ∷ more)) (for_each actions (λ a. for_each states (λ s. row_entries table a s n (w a s)))) ≡ false
  other_table actions states n w e = grind (arith, none_of_each, entries_elsewhere)

-- the row that is asked for
module _ (table : Table) (i j c : ℕ) (actions states n : ℕ) (w : ℕ → ℕ → ℕ → ℕ) where
  other_state : (s : ℕ) → (j ≡ s → ⊥) → none_of (covers table (i ∷ j ∷ c ∷ [])) (row_entries table i s n (w i s)) ≡ false
  other_state s apart = grind (arith, entries_elsewhere)

  row_of_table : (e : Entry) → i < actions → j < states → last_of (covers table (i ∷ j ∷ c ∷ [])) (row_entries table i j n (w i j)) ≡ Some e
      → last_of (covers table (i ∷ j ∷ c ∷ [])) (for_each actions (λ a. for_each states (λ s. row_entries table a s n (w a s)))) ≡ Some e
  row_of_table e l k found =
      last_of_each _ _ i _ e l
      (last_of_each _ _ j _ e k found
      (λ s m. other_state s))
      (λ a m. grind (arith, none_of_each))

-- ---- the cells of T and O
module _ (m : Meaning) where
  no_observations : (asked : Table) (i j : ℕ) (more : List ℕ) → is_table Observation asked ≡ false
      → none_of (covers asked (i ∷ j ∷ more)) (observation_entries m) ≡ false
  no_observations asked i j more e = at (is_mdp m.preamble)
    where
      at : (b : Bool) → none_of (covers asked (i ∷ j ∷ more)) (cond b [] (seen_entries m)) ≡ false
      at true = refl
      at false = grind (arith, none_of_each, entries_elsewhere)

  pub transition_back : (a s e : ℕ) → a < actions_of m → s < states_of m → e < states_of m → Fits (states_of m) (m.t a s e)
      → weight m.preamble (all_entries m) Transition (a ∷ s ∷ e ∷ []) ≡ m.t a s e
  transition_back a s e l k d f =
      let covered = row_covered m.preamble _ a s _ _ (transition_rows _) (omega arith) e d f in
      let test = covers _ _ in
      let found =
      row_of_table _ a s e _ _ (states_of m) _ _ l k covered.last in
      ap (value_or 0 _) (last_before test (transition_entries m ++ observation_entries m) _ (grind (arith, none_of_each, from_elsewhere))
      ∙ last_before test (transition_entries m) _ (no_observations _ a s (e ∷ []) refl) ∙ found) ∙ covered.weight

  pub observation_back : (a e z : ℕ) → is_mdp m.preamble ≡ false → a < actions_of m → e < states_of m → z < observations_of m
      → Fits (observations_of m) (m.o a e z)
      → weight m.preamble (all_entries m) Observation (a ∷ e ∷ z ∷ []) ≡ m.o a e z
  observation_back a e z seen l k d f =
      let covered = row_covered _ _ a e _ _ (observation_rows m.preamble seen)
      (omega (arith, d)) z d f in
      let test = covers _ _ in
      let found =
      row_of_table _ a e z _ _ (observations_of m) _ _ l k covered.last in
      let here = ap (λ b. last_of test (cond b [] (seen_entries m))) seen
      ∙ found in
      ap (value_or 0 _) (last_before test (transition_entries m ++ observation_entries m) _ (grind (arith, none_of_each, from_elsewhere))
      ∙ last_after test (transition_entries m) _ _ here) ∙ covered.weight

  -- ---- the rewards
  module _ (a s e z : ℕ) (l : a < actions_of m) (k : s < states_of m) (d : e < states_of m) (x : z < observations_of m) where
    abbrev last_index : ℕ
    last_index = reward_index m.preamble z

    abbrev indices : List ℕ
    indices = a ∷ s ∷ e ∷ last_index ∷ []

    elsewhere : (i j : ℕ) → ((i == a) && (j == s)) ≡ false → none_of (covers Reward indices) (rewards_at m i j) ≡ false
    elsewhere i j apart = from_elsewhere _ _ i j (states_of m) (observations_of m) (m.r i j) _ a s e _ apart

    not_action : (i j : ℕ) → (a ≡ i → ⊥) → none_of (covers Reward indices) (rewards_at m i j) ≡ false
    not_action i j apart = elsewhere i j (grind arith)

    not_state : (j : ℕ) → (s ≡ j → ⊥) → none_of (covers Reward indices) (rewards_at m a j) ≡ false
    not_state j apart = elsewhere a j (grind arith)

    no_weights : none_of (covers Reward indices) (transition_entries m ++ observation_entries m) ≡ false
    no_weights = none_both _ (transition_entries m) _ (other_table _ _ a s _ (actions_of m) (states_of m) (states_of m) _ refl)
        (no_observations _ a s _ refl)

    rewards_given : IsGiven m.preamble indices (rewards_entries m) (m.r a s e last_index)
    rewards_given =
        given_each _ _ _ _ a _ l
        (given_each _ _ _ _ s _ k
        (from_given _ _ a s _ _ e z (m.r a s) refl d x)
        (λ j y. not_state j))
        (λ i y apart. none_of_each _ (states_of m) _ (λ j u. not_action i j apart))

    pub reward_again : reward m.preamble (all_entries m) indices ≡ m.r a s e last_index
    reward_again = search (rules, given_is, given_after, no_weights, rewards_given)

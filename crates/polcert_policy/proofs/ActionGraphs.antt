-- The graph whose node a takes action a: one node more, and that it is a proper graph.
use Rattle.std.proofs.Common.{◌≡◌, ◌∙◌, ℕ, zero, suc, ◌+◌, ◌<◌, ◌≤◌, Option, Some, None, List, [], ◌∷◌, ◌++◌, slice_get, length, replicate}
use Rattle.std.proofs.Common.{ap, arith}
use Rattle.polcert_policy.proofs.Common.{range_with_len, get_or_from_slice_get, most_actions, most_states, nodes, action_of, IsProperGraph}
use Rattle.polcert_policy.proofs.Common.{PolicyVectors, AreProperVectors, Up}
use Rattle.std.proofs.lemmas.List.{length-replicate, get_or-replicate}
use Rattle.std.proofs.lemmas.List.FromFn.{length-range_with_len, get_or-range_with_len}
use Rattle.polcert_policy.specs.ActionVectors.{action_graph, IsActionVectorsText}
use Rattle.polcert_policy.proofs.FlatVectors.{parts_from}
use Rattle.polcert_policy.proofs.Places.{within_get}
use Rattle.polcert_policy.proofs.LimitLaws.{vectors_proper}

longer : (a n : ℕ) → range_with_len a (suc n) ≡ range_with_len a n ++ (a + n) ∷ []
longer a zero = ap (λ x. x ∷ []) (omega arith)
longer a (suc n) = grind (arith, longer (a + 1) n)

-- one action more
pub one_more : (a : ℕ) → range_with_len 0 (a + 1) ≡ range_with_len 0 a ++ a ∷ []
one_more a =
    let e : a + 1 ≡ suc a = omega arith in
    rw e (longer 0 a ∙ ap (λ x. range_with_len 0 a ++ x ∷ []) (omega arith))

pub node_count : (actions : ℕ) → nodes (action_graph actions) ≡ actions
node_count actions = length-range_with_len 0 actions

pub takes_its_action : (actions a : ℕ) → a < actions → action_of (action_graph actions) a ≡ a
takes_its_action actions a l = get_or-range_with_len 0 actions a 0 l ∙ (omega arith)

abbrev none_of : ℕ → List (Option ℕ)
none_of actions = replicate actions None

no_successor : (actions k m : ℕ) → slice_get (none_of actions) k ≡ Some (Some m) → m < nodes (action_graph actions)
no_successor actions k m e =
    let within = within_get _ k (Some m) e in
    let size : length (none_of actions) ≡ actions = length-replicate actions None in
    grind (arith, get_or-replicate, get_or_from_slice_get _ k (Some m) None e)

pub action_graph_proper : (actions : ℕ) → 1 ≤ actions → actions ≤ most_actions → IsProperGraph (action_graph actions)
action_graph_proper = grind (arith, length-replicate, node_count, takes_its_action, no_successor)

module _ (actions : ℕ) (states : ℕ) (text : List ℕ) (v : PolicyVectors) where
  -- ---- the vectors that a text denotes
  pub action_counts : IsActionVectorsText actions states text v
      → (v.nodes ≡ actions) × (v.states ≡ states)
  action_counts is = (is.2.nodes_are ∙ node_count actions, is.2.states_are)

  pub action_vectors_proper : 1 ≤ actions → actions ≤ most_actions → 1 ≤ states
      → states ≤ most_states → IsActionVectorsText actions states text v → AreProperVectors v
  action_vectors_proper some few some_states few_states is =
      let proper = action_graph_proper actions some few in
      vectors_proper _ states is.0 v proper.some_nodes proper.few_nodes some_states few_states
      (parts_from Up _ states is.0 v is.2)

-- What a text denotes is within its limits.
use Rattle.std.proofs.Common.{◌≡◌, ◌∙◌, ℕ, ◌+◌, ◌*◌, ◌<◌, ◌≤◌, List, Some, None, slice_get, sym, ap, subst, arith, rules}
use Rattle.polcert_policy.proofs.Common.{get_or_from_slice_get, slice_get-get_or, Lexeme, most_states, most_actions, PolicyGraph, nodes}
use Rattle.polcert_policy.proofs.Common.{action_of, IsLooseGraph, IsGraph, IsProperGraph, width, most_nodes, PolicyVectors}
use Rattle.polcert_policy.proofs.Common.{IsRoundedVectors, IsInRange, AreProperVectors, value_of, Rounding}
use Rattle.polcert_cells.specs.Elements.{most_observations}
use Rattle.polcert_policy.proofs.Places.{row_above, row_below, row_of, get_within, within_get, place_inside}
use Rattle.polcert_policy.proofs.VectorEndLaws.{values_in_range}

module _ (a : ℕ) (o : ℕ) (ts : List Lexeme) (g : PolicyGraph) where
  pub loose_actions : IsLooseGraph a o ts g → (n : ℕ) → n < nodes g → action_of g n < a
  loose_actions h n l =
      let token = get_within ts _ (omega (arith, row_above (width o) n (nodes g) l, h.tokens)) in
      let action = h.records.action n token.0 token.1 in
      subst (λ x. x < a) (sym (get_or_from_slice_get g.chosen n _ 0 action.value)) action.known

  pub graph_proper : a ≤ most_actions → 1 ≤ o → o ≤ most_observations → IsGraph a o ts g
      → IsProperGraph g
  graph_proper few_a some_o few_o is =
      let h = is.loose in
      record {
        some_actions = omega (arith, loose_actions h 0 (omega (arith, h.some)), h.actions_are);
        few_actions = omega arith;
        some_observations = omega arith;
        few_observations = omega arith;
        some_nodes = h.some;
        few_nodes = h.few;
        filled = cc (h.successors, h.observations_are);
        known = λ n l. subst (λ x. action_of g n < x) (sym h.actions_are) (loose_actions h n l);
        bound = λ k m e.
            let row = row_of o k some_o in
            let inside : row.0 * o + row.1.0 < nodes g * o = omega (arith, within_get g.successors k _ e, h.successors, row.1.1) in
            let here = row.1.1 ∙ ap (λ z. row.0 * z + row.1.0) (sym h.observations_are) in
            is.bound row.0 row.1.0 (row_below o row.0 row.1.0 (nodes g) inside) (omega arith) m
            (get_or_from_slice_get g.successors _ _ None (subst (λ j. slice_get g.successors j ≡ Some (Some m)) here e));
      }

module _ {way : Rounding} where
  pub vector_values : (graph : PolicyGraph) (states : ℕ) (ts : List Lexeme) (v : PolicyVectors) → IsRoundedVectors way graph states ts v
      → (n s : ℕ) → n < nodes graph → s < states → IsInRange (value_of v n s)
  vector_values graph states ts v is n s l k =
      values_in_range graph states is.parts (nodes graph) v.values is.records is.count is.filled (n * v.states + s) (value_of v n s)
      (slice_get-get_or v.values (n * v.states + s) _ (omega
      (arith, place_inside states n s (nodes graph) l k, is.filled, ap (λ z. n * z) is.states_are)))

  pub vectors_proper : (graph : PolicyGraph) (states : ℕ) (ts : List Lexeme) (v : PolicyVectors) → 1 ≤ nodes graph
      → nodes graph ≤ most_nodes → 1 ≤ states → states ≤ most_states → IsRoundedVectors way graph states ts v → AreProperVectors v
  vectors_proper graph states ts v some few some_s few_s is = search (rules, values_in_range)

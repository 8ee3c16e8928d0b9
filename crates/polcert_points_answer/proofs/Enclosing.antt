-- Two yeses enclose the optimum: one to the vectors of a graph, and one to vectors and points of the same model.
use Rattle.std.proofs.Common.{◌≡◌, ℕ, ◌<◌, ℤ, ◌-ℤ◌, Bool, true, false, List, Ok, subst}
use Rattle.polcert_points_answer.proofs.Common.{IsSame, Meaning, table_of, table_of_set, IsActionVectorsText, IsPointsText, value_of}
use Rattle.polcert_points_answer.proofs.Common.{IsPointBoundAnswer, IsPointBoundMost, PointCertificate, Yes}
use Rattle.polcert_cells.specs.Preamble.{is_mdp}
use Rattle.polcert_model.proofs.FilledLaws.{table_rows}
use Rattle.polcert_model.proofs.LimitLaws.{within_limits}
use Rattle.polcert_model.proofs.TextLaws as models
use Rattle.polcert_policy.specs.Graphs.{nodes}
use Rattle.polcert_check.specs.declared.survey.Verdict.TheVariants as verdicts
use Rattle.polcert_check.specs.Horizon.{one}
use Rattle.polcert_check.specs.StartWorth.{IsBestStart, IsStartWorth}
use Rattle.polcert_optimum.specs.Earnings.{policy_from, IsOptimalTo}
use Rattle.polcert_optimum.specs.Optimum.{EarnsAtMost, EncloseOptimum}
use Rattle.polcert_optimum.specs.Policy.{ObservationPolicy, IsPolicyOf, as_policy}
use Rattle.polcert_optimum.proofs.Earnings.{compared, own_is_policy}
use Rattle.polcert_optimum.proofs.Optimum.{earns_at_most}
use Rattle.polcert_optimum.proofs.Start.{informed_from_start}
use Rattle.polcert_points.proofs.OnePoints.{earns_at_most_by_points, encloses_by_points}
use Rattle.polcert_answer.specs.Answer.{IsAnswer}
use Rattle.polcert_answer.specs.Headline.{Certificate}
use Rattle.polcert_answer.proofs.Denoted.{fits_is, graph_is, proper_graph}
use Rattle.polcert_bound_answer.proofs.Denoted as bound
use Rattle.polcert_bound_answer.proofs.Denoted.{for_sizes}
use Rattle.polcert_bound_answer.proofs.Earning.{texts_at_least}
use Rattle.polcert_bound_answer.proofs.Enclosing.{texts_enclose}
use Rattle.polcert_points_answer.specs.Headline.{IsMostByPoints}
use Rattle.polcert_points_answer.proofs.Denoted.{bound_of, fit_points, for_all_counts, most_on_same, proper_points, vectors_yes}

-- no policy earns more in the long run, in an MDP by the vectors alone
module _ (model high points : List ℕ) (answer : IsPointBoundAnswer model high points (Ok Yes)) (d : PointCertificate model high points)
    (less : d.meaning.preamble.discount < one) (most : ℤ) where
  upper_of_kind : (mdp : Bool) → IsMostByPoints mdp d.meaning d.values (table_of_set d.set) most → (policy : ObservationPolicy)
      → IsPolicyOf (table_of d.meaning) (as_policy policy) → EarnsAtMost d.meaning (as_policy policy) most
  upper_of_kind true is =
      earns_at_most d.meaning (value_of d.values) most less
      (informed_from_start d.meaning (bound.limited (bound_of d)) (value_of d.values) (bound.table_proper (bound_of d)) (answer.1 d).0
      most
      (bound.mean_of (bound_of d) most is))
  upper_of_kind false is =
      earns_at_most_by_points d.meaning (value_of d.values) (table_of_set d.set) most (bound.limited (bound_of d))
      (bound.table_proper (bound_of d)) (fit_points d) (proper_points d) is (answer.1 d).0 (answer.1 d).1 less

  pub no_policy_earns_more : IsPointBoundMost d.meaning d.values (table_of_set d.set) most → (policy : ObservationPolicy)
      → IsPolicyOf (table_of d.meaning) (as_policy policy) → EarnsAtMost d.meaning (as_policy policy) most
  no_policy_earns_more = upper_of_kind (is_mdp d.meaning.preamble)

module _ (model graph low high points : List ℕ) (below : IsAnswer model graph low (Ok verdicts.Yes))
    (above : IsPointBoundAnswer model high points (Ok Yes)) (c : Certificate model graph low) (d : PointCertificate model high points)
    (less : c.meaning.preamble.discount < one) (n : ℕ) (worth most : ℤ) (is_worth : IsStartWorth c.meaning c.values n worth) where
  same : IsSame d.meaning c.meaning
  same = models.one_model model d.meaning c.meaning d.is_model c.is_model

  -- the vectors and the points, with the graph's model
  abbrev upper : PointCertificate model high points
  upper = record {
    meaning = c.meaning;
    values = d.values;
    set = d.set;
    is_model = c.is_model;
    are_vectors = for_sizes same (λ a s. IsActionVectorsText a s high d.values) d.are_vectors;
    are_points = for_all_counts same (λ s a z. IsPointsText s a z points d.set) d.are_points;
  }

  enclose_of_kind : (mdp : Bool) → IsMostByPoints mdp c.meaning d.values (table_of_set d.set) most → IsBestStart c.meaning c.values n
      → EncloseOptimum c.meaning worth most
  enclose_of_kind true is best = texts_enclose model graph low high below (vectors_yes model high points above) c (bound_of upper) less n
      worth most best is_worth is
  enclose_of_kind false is best =
      let nl : n < nodes c.policy = subst (λ (count : ℕ). n < count) c.are_vectors.2.nodes_are best.is_below in
      encloses_by_points c.meaning (value_of d.values) (table_of_set d.set) most (bound.limited (bound_of upper))
      (bound.table_proper (bound_of upper)) (fit_points upper) (proper_points upper) is (above.1 upper).0 (above.1 upper).1
      c.policy c.values (proper_graph c.meaning c.policy (graph_is c)) (fits_is c) (below.1 c) less n worth nl is_worth

  pub texts_enclose_by_points : IsBestStart c.meaning c.values n → IsPointBoundMost d.meaning d.values (table_of_set d.set) most
      → EncloseOptimum c.meaning worth most
  texts_enclose_by_points best is = enclose_of_kind (is_mdp c.meaning.preamble)
      (most_on_same d.meaning c.meaning d.values (table_of_set d.set) same most is) best

  pub texts_optimal_by_points : n < nodes c.policy → IsPointBoundMost d.meaning d.values (table_of_set d.set) most
      → IsOptimalTo c.meaning (policy_from c.policy n) (most -ℤ worth)
  texts_optimal_by_points nl is = record {
    is_policy = own_is_policy c.meaning (within_limits c.is_model.lexemes c.meaning c.is_model.denotes) c.policy c.values
        (table_rows c.meaning c.is_model.denotes.rows) (proper_graph c.meaning c.policy (graph_is c)) (fits_is c) (below.1 c) less n nl
        worth
        is_worth;
    none_better = λ other of.
        compared c.meaning (as_policy (policy_from c.policy n)) (as_policy other) worth most
        (texts_at_least model graph low below c less n worth nl is_worth)
        (no_policy_earns_more model high points above upper less most
        (most_on_same d.meaning c.meaning d.values (table_of_set d.set) same most is) other of);
  }

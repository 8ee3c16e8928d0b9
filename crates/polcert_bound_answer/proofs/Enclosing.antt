-- Two yeses enclose the optimum: one to the vectors of a graph, and one to vectors of the actions of the same model.
use Rattle.std.proofs.Common.{◌≡◌, ℕ, ◌<◌, ℤ, Bool, true, List, Ok, subst}
use Rattle.polcert_bound_answer.proofs.Common.{IsSame, IsActionVectorsText, value_of, IsBoundStartMost, Yes, IsBoundAnswer}
use Rattle.polcert_bound_answer.proofs.Common.{BoundCertificate}
use Rattle.polcert_cells.specs.Preamble.{is_mdp}
use Rattle.polcert_model.proofs.FilledLaws.{table_rows}
use Rattle.polcert_model.proofs.LimitLaws.{within_limits}
use Rattle.polcert_model.proofs.TextLaws as models
use Rattle.polcert_policy.specs.Graphs.{nodes}
use Rattle.polcert_check.specs.declared.survey.Verdict.TheVariants as verdicts
use Rattle.polcert_check.specs.Horizon.{one}
use Rattle.polcert_check.specs.StartWorth.{IsBestStart, IsStartWorth}
use Rattle.polcert_optimum.specs.Optimum.{EncloseOptimum}
use Rattle.polcert_optimum.specs.Seen.{IsMostOf, EncloseSeenOptimum}
use Rattle.polcert_optimum.proofs.Optimum.{encloses}
use Rattle.polcert_optimum.proofs.Seen.{encloses_seen, number_is}
use Rattle.polcert_optimum.proofs.SeenModels.{same_bound_most}
use Rattle.polcert_answer.specs.Answer.{IsAnswer}
use Rattle.polcert_answer.specs.Headline.{Certificate}
use Rattle.polcert_answer.proofs.Denoted.{fits_is, graph_is, proper_graph}
use Rattle.polcert_bound_answer.proofs.Denoted.{for_sizes, mean_of, counted}

pub texts_enclose : (model graph low high : List ℕ) → IsAnswer model graph low (Ok verdicts.Yes) → IsBoundAnswer model high (Ok Yes)
    → (c : Certificate model graph low) (d : BoundCertificate model high)
    → c.meaning.preamble.discount < one → (n : ℕ) (worth most : ℤ) → IsBestStart c.meaning c.values n
    → IsStartWorth c.meaning c.values n worth → IsBoundStartMost d.meaning d.values most → EncloseOptimum c.meaning worth most
texts_enclose model graph low high below above c d less n worth most best is_worth is_most =
    let same : IsSame d.meaning c.meaning = models.one_model model d.meaning c.meaning d.is_model c.is_model in
    let upper : BoundCertificate model high = record {
      meaning = c.meaning;
      values = d.values;
      is_model = c.is_model;
      are_vectors =
          for_sizes same (λ a s. IsActionVectorsText a s high d.values) d.are_vectors;
    } in
    let nl : n < nodes c.policy = subst (λ (count : ℕ). n < count) c.are_vectors.2.nodes_are best.is_below in
    encloses c.meaning (within_limits c.is_model.lexemes c.meaning c.is_model.denotes) c.policy c.values
    (table_rows c.meaning c.is_model.denotes.rows) (proper_graph c.meaning c.policy (graph_is c)) (fits_is c)
    (below.1 c) less n nl worth is_worth (value_of d.values) (above.1 upper) most
    (mean_of upper most (same_bound_most d.meaning c.meaning same d.values most is_most))

pub texts_enclose_seen : (model graph low high : List ℕ) → IsAnswer model graph low (Ok verdicts.Yes) → IsBoundAnswer model high (Ok Yes)
    → (c : Certificate model graph low) (d : BoundCertificate model high)
    → is_mdp c.meaning.preamble ≡ true → c.meaning.preamble.discount < one → (n : ℕ) (worth most : ℤ) → IsBestStart c.meaning c.values n
    → IsStartWorth c.meaning c.values n worth → IsBoundStartMost d.meaning d.values most → EncloseSeenOptimum c.meaning worth most
texts_enclose_seen model graph low high below above c d mdp less n worth most best is_worth is_most =
    let same : IsSame d.meaning c.meaning = models.one_model model d.meaning c.meaning d.is_model c.is_model in
    let upper : BoundCertificate model high = record {
      meaning = c.meaning;
      values = d.values;
      is_model = c.is_model;
      are_vectors =
          for_sizes same (λ a s. IsActionVectorsText a s high d.values) d.are_vectors;
    } in
    let nl : n < nodes c.policy = subst (λ (count : ℕ). n < count) c.are_vectors.2.nodes_are best.is_below in
    encloses_seen c.meaning (within_limits c.is_model.lexemes c.meaning c.is_model.denotes) c.policy c.values
    (table_rows c.meaning c.is_model.denotes.rows) (proper_graph c.meaning c.policy (graph_is c)) (fits_is c)
    (below.1 c) less n nl worth is_worth (value_of d.values) (above.1 upper) most
    (number_is c.meaning d.values most (counted upper) (subst (λ (b : Bool). IsMostOf b c.meaning d.values most) mdp
    (same_bound_most d.meaning c.meaning same d.values most is_most)))

-- What a graph's own policy earns in the long run, over the texts.
use Rattle.std.proofs.Common.{◌≡◌, ℕ, ◌<◌, ℤ, ◌-ℤ◌, ◌≤ℤ◌, List, Ok, subst, arith}
use Rattle.polcert_bound_answer.proofs.Common.{IsSame, IsActionVectorsText, value_of, IsBoundStartMost, Yes, IsBoundAnswer}
use Rattle.polcert_bound_answer.proofs.Common.{BoundCertificate}
use Rattle.polcert_model.proofs.FilledLaws.{table_rows}
use Rattle.polcert_model.proofs.LimitLaws.{within_limits}
use Rattle.polcert_model.proofs.TextLaws as models
use Rattle.polcert_policy.specs.Graphs.{nodes}
use Rattle.polcert_check.specs.declared.survey.Verdict.TheVariants as verdicts
use Rattle.polcert_check.specs.declared.above.AboveVerdict.TheVariants as above_verdicts
use Rattle.polcert_check.specs.Horizon.{one}
use Rattle.polcert_check.specs.StartWorth.{IsStartWorth}
use Rattle.polcert_check.specs.StartMost.{IsStartMost}
use Rattle.polcert_optimum.specs.Policy.{as_policy}
use Rattle.polcert_optimum.specs.Optimum.{EarnsAtLeast, EarnsAtMost}
use Rattle.polcert_optimum.specs.Earnings.{policy_from, AreRewardsAtLeast, AreRewardsAtMost, IsOptimalTo}
use Rattle.polcert_optimum.proofs.Earnings.{own_at_least, own_at_most, own_rewards_at_least, own_rewards_at_most, optimal_to}
use Rattle.polcert_optimum.proofs.SeenModels.{same_bound_most}
use Rattle.polcert_answer.specs.Answer.{IsAnswer, IsAnswerAbove}
use Rattle.polcert_answer.specs.Headline.{Certificate}
use Rattle.polcert_answer.specs.HeadlineAbove.{CertificateAbove}
use Rattle.polcert_text.specs.declared.number.Rounding.TheVariants.{Up}
use Rattle.polcert_cells.specs.Meaning.{states_of}
use Rattle.polcert_policy.specs.VectorText.{IsRoundedVectorsText}
use Rattle.polcert_check.proofs.Mirrors.SameAbove.{same_start_most}
use Rattle.polcert_answer.proofs.Denoted.{fits_is, graph_is, proper_graph, same_graph}
use Rattle.polcert_bound_answer.proofs.Denoted.{for_sizes, mean_of}

pub texts_at_least : (model graph low : List ℕ) → IsAnswer model graph low (Ok verdicts.Yes) → (c : Certificate model graph low)
    → c.meaning.preamble.discount < one
    → (n : ℕ) (worth : ℤ) → n < nodes c.policy → IsStartWorth c.meaning c.values n worth
    → EarnsAtLeast c.meaning (as_policy (policy_from c.policy n)) worth
texts_at_least model graph low below c less n worth nl is =
    own_at_least c.meaning (within_limits c.is_model.lexemes c.meaning c.is_model.denotes) c.policy c.values
    (table_rows c.meaning c.is_model.denotes.rows) (proper_graph c.meaning c.policy (graph_is c)) (fits_is c)
    (below.1 c) less n nl worth is

pub texts_rewards_at_least : (model graph low : List ℕ) → IsAnswer model graph low (Ok verdicts.Yes)
    → (c : Certificate model graph low) (n : ℕ) (worth : ℤ) → n < nodes c.policy → IsStartWorth c.meaning c.values n worth
    → (k : ℕ) (top : ℤ)
    → ((i s : ℕ) → i < nodes c.policy → s < states_of c.meaning → value_of c.values i s ≤ℤ top)
    → AreRewardsAtLeast c.meaning (as_policy (policy_from c.policy n)) k top worth
texts_rewards_at_least model graph low below c n worth nl is =
    own_rewards_at_least c.meaning (within_limits c.is_model.lexemes c.meaning c.is_model.denotes) c.policy c.values
    (table_rows c.meaning c.is_model.denotes.rows) (proper_graph c.meaning c.policy (graph_is c)) (fits_is c)
    (below.1 c) n nl worth is

pub texts_rewards_at_most : (model graph high : List ℕ) → IsAnswerAbove model graph high (Ok above_verdicts.Yes)
    → (c : CertificateAbove model graph high) (n : ℕ) (most : ℤ) → n < nodes c.policy → IsStartMost c.meaning c.values most
    → (k : ℕ) (bottom : ℤ)
    → ((i s : ℕ) → i < nodes c.policy → s < states_of c.meaning → bottom ≤ℤ value_of c.values i s)
    → AreRewardsAtMost c.meaning (as_policy (policy_from c.policy n)) k bottom most
texts_rewards_at_most model graph high above c n most nl is =
    own_rewards_at_most c.meaning (within_limits c.is_model.lexemes c.meaning c.is_model.denotes) c.policy c.values
    (table_rows c.meaning c.is_model.denotes.rows) (proper_graph c.meaning c.policy (graph_is c)) (fits_is c)
    (above.1 c) n nl most is

pub texts_at_most : (model graph high : List ℕ) → IsAnswerAbove model graph high (Ok above_verdicts.Yes)
    → (c : CertificateAbove model graph high) → c.meaning.preamble.discount < one
    → (n : ℕ) (most : ℤ) → n < nodes c.policy → IsStartMost c.meaning c.values most
    → EarnsAtMost c.meaning (as_policy (policy_from c.policy n)) most
texts_at_most model graph high above c less n most nl is =
    own_at_most c.meaning (within_limits c.is_model.lexemes c.meaning c.is_model.denotes) c.policy c.values
    (table_rows c.meaning c.is_model.denotes.rows) (proper_graph c.meaning c.policy (graph_is c)) (fits_is c)
    (above.1 c) less n nl most is

pub texts_optimal_to : (model graph low high : List ℕ) → IsAnswer model graph low (Ok verdicts.Yes) → IsBoundAnswer model high (Ok Yes)
    → (c : Certificate model graph low) (d : BoundCertificate model high)
    → c.meaning.preamble.discount < one → (n : ℕ) (worth most : ℤ) → n < nodes c.policy → IsStartWorth c.meaning c.values n worth
    → IsBoundStartMost d.meaning d.values most → IsOptimalTo c.meaning (policy_from c.policy n) (most -ℤ worth)
texts_optimal_to model graph low high below above c d less n worth most nl is_worth is_most =
    let same : IsSame d.meaning c.meaning = models.one_model model d.meaning c.meaning d.is_model c.is_model in
    let upper : BoundCertificate model high = record {
      meaning = c.meaning;
      values = d.values;
      is_model = c.is_model;
      are_vectors =
          for_sizes same (λ a s. IsActionVectorsText a s high d.values) d.are_vectors;
    } in
    optimal_to c.meaning (within_limits c.is_model.lexemes c.meaning c.is_model.denotes) c.policy c.values
    (table_rows c.meaning c.is_model.denotes.rows) (proper_graph c.meaning c.policy (graph_is c)) (fits_is c)
    (below.1 c) less n nl worth is_worth (value_of d.values) (above.1 upper) most
    (mean_of upper most (same_bound_most d.meaning c.meaning same d.values most is_most))

-- two yeses to vectors of one graph: what its own policy earns is between the two numbers
pub texts_between : (model graph low high : List ℕ) → IsAnswer model graph low (Ok verdicts.Yes)
    → IsAnswerAbove model graph high (Ok above_verdicts.Yes) → (c : Certificate model graph low) (d : CertificateAbove model graph high)
    → c.meaning.preamble.discount < one → (n : ℕ) (worth most : ℤ) → n < nodes c.policy → IsStartWorth c.meaning c.values n worth
    → IsStartMost d.meaning d.values most
    → EarnsAtLeast c.meaning (as_policy (policy_from c.policy n)) worth × EarnsAtMost c.meaning (as_policy (policy_from c.policy n)) most
texts_between model graph low high below above c d less n worth most nl is_worth is_most =
    let both = same_graph d.meaning c.meaning d.policy c.policy (graph_is d) (graph_is c) in
    let moved : IsRoundedVectorsText Up c.policy (states_of c.meaning) high d.values = grind arith in
    let upper : CertificateAbove model graph high = record
    { meaning = c.meaning; policy = c.policy; values = d.values; is_model = c.is_model; is_graph = c.is_graph; are_vectors = moved } in (
      texts_at_least model graph low below c less n worth nl is_worth,
      texts_at_most model graph high above upper less n most nl
          (same_start_most d.meaning c.meaning both.0 d.values most is_most),
    )

-- What three texts denote passes, so the laws of the policy by belief hold of it.
use Rattle.std.proofs.Common.{◌≡◌, ℕ, ◌<◌, ℤ, true, List, Ok, subst}
use Rattle.polcert_cells.specs.Meaning.{HasLimitedNumbers, start_weight}
use Rattle.polcert_cells.specs.Preamble.{is_mdp}
use Rattle.polcert_cells.specs.Tables.{IsProper, table_of}
use Rattle.polcert_model.proofs.FilledLaws.{table_rows}
use Rattle.polcert_model.proofs.LimitLaws.{within_limits}
use Rattle.polcert_policy.specs.Graphs.{IsProperGraph, nodes}
use Rattle.polcert_check.specs.declared.survey.Verdict.TheVariants.{Yes}
use Rattle.polcert_check.specs.Horizon.{one}
use Rattle.polcert_check.specs.StartWorth.{IsBestStart, IsStartWorth}
use Rattle.polcert_optimum.specs.declared.verdict.InformedVerdict.TheVariants as bounds
use Rattle.polcert_optimum.specs.Optimum.{EncloseOptimum}
use Rattle.polcert_optimum.specs.Seen.{EncloseSeenOptimum, IsBoundStartMost}
use Rattle.polcert_answer.specs.Answer.{IsAnswer}
use Rattle.polcert_answer.specs.Headline.{Certificate, controller}
use Rattle.polcert_answer.proofs.Denoted.{controller_proper, fits_is, graph_is, proper_graph}
use Rattle.polcert_bound_answer.specs.Answer.{IsBoundAnswer}
use Rattle.polcert_bound_answer.specs.Headline.{BoundCertificate}
use Rattle.polcert_bound_answer.proofs.Enclosing.{texts_enclose, texts_enclose_seen}
use Rattle.polcert_optimum.specs.Policy.{ObservationPolicy}
use Rattle.polcert_belief.specs.Ahead.{LooksAheadWithin}
use Rattle.polcert_belief.specs.Following.{PicksBest, Selector, policy_of}
use Rattle.polcert_belief.specs.FromStart.{EarnsFromStart, EarnsFromStartWithin}
use Rattle.polcert_belief.specs.Tolerance.{PicksWithin}
use Rattle.polcert_belief.proofs.FromStart.{earns_from_start, encloses, encloses_seen, from_start_exactly, long_run, long_run_within}
use Rattle.polcert_belief.proofs.FromStart.{looks_from_start}
use Rattle.polcert_belief.proofs.Picking.{best_no_worse, best_within}
use Rattle.polcert_belief.proofs.Rewards.{earns_exactly}
use Rattle.polcert_belief_answer.specs.Headline.{IsCertifiedByBelief, IsCertifiedByBeliefWithin}

module _ {model graph vectors : List ℕ} (c : Certificate model graph vectors) where
  limits_are : HasLimitedNumbers c.meaning
  limits_are = within_limits c.is_model.lexemes c.meaning c.is_model.denotes

  rows_are : IsProper (table_of c.meaning)
  rows_are = table_rows c.meaning c.is_model.denotes.rows

  graph_proper : IsProperGraph c.policy
  graph_proper = proper_graph c.meaning c.policy (graph_is c)

  is_node : (n : ℕ) → IsBestStart c.meaning c.values n → n < nodes c.policy
  is_node n best = subst (λ (count : ℕ). n < count) c.are_vectors.2.nodes_are best.is_below

module _ {model graph vectors : List ℕ} (answer : IsAnswer model graph vectors (Ok Yes)) (c : Certificate model graph vectors) where
  -- within a tolerance, from the start
  started : (by d : ℕ) (selector : Selector) → PicksWithin by d (controller c) (start_weight c.meaning) selector → (n : ℕ) (worth : ℤ)
      → IsBestStart c.meaning c.values n → IsStartWorth c.meaning c.values n worth
      → (k : ℕ) → EarnsFromStartWithin by d c.meaning (controller c) (policy_of (controller c) selector) selector k worth
  started by d selector picks n worth best is k = earns_from_start c.meaning (limits_are c) c.policy c.values (rows_are c)
      (graph_proper c)
      (fits_is c) (answer.1 c) by d selector picks n worth (is_node c n best) is k

  looked : (by d : ℕ) (policy : ObservationPolicy) (selector : Selector)
      → LooksAheadWithin by d (controller c) policy (start_weight c.meaning) selector → (n : ℕ) (worth : ℤ)
      → IsBestStart c.meaning c.values n
      → IsStartWorth c.meaning c.values n worth → (k : ℕ) → EarnsFromStartWithin by d c.meaning (controller c) policy selector k worth
  looked by d policy selector looks n worth best is k =
      looks_from_start c.meaning (limits_are c) c.policy c.values (rows_are c) (graph_proper c) (fits_is c) (answer.1 c) by d policy
      selector
      looks n worth (is_node c n best) is k

  -- exactly
  exact : (selector : Selector) → PicksBest (controller c) (start_weight c.meaning) selector → (n : ℕ) (worth : ℤ)
      → IsBestStart c.meaning c.values n → IsStartWorth c.meaning c.values n worth
      → (k : ℕ) → EarnsFromStartWithin 0 1 c.meaning (controller c) (policy_of (controller c) selector) selector k worth
  exact selector picks = started 0 1 selector (best_within (controller c) (start_weight c.meaning) selector picks)

  stepped : (selector : Selector) → PicksBest (controller c) (start_weight c.meaning) selector → (n : ℕ) (worth : ℤ)
      → IsBestStart c.meaning c.values n → IsStartWorth c.meaning c.values n worth
      → (k : ℕ) → EarnsFromStart c.meaning (controller c) (policy_of (controller c) selector) selector k worth
  stepped selector picks n worth best is k = from_start_exactly c.meaning c.policy c.values (policy_of (controller c) selector) selector
      k
      worth (exact selector picks n worth best is k)

pub certified : (model graph vectors : List ℕ) → IsAnswer model graph vectors (Ok Yes) → IsCertifiedByBelief model graph vectors
certified model graph vectors answer = record {
  certificate = answer.0;
  beliefs = λ c belief selector picks. earns_exactly (controller c) (controller_proper c) (answer.1 c) belief selector
      (best_no_worse (controller c) (controller_proper c).closed belief selector picks);
  steps = λ c selector picks n worth best is k. stepped answer c selector picks n worth best is k;
  long_run = λ c selector picks less n worth best is. long_run c.meaning c.policy c.values less (policy_of (controller c) selector)
      selector
      worth (exact answer c selector picks n worth best is);
  line = λ line promise c selector picks k. stepped answer c selector picks promise.node promise.worth (promise.best c)
      (promise.is_worth c)
      k;
}

pub certified_within : (by d : ℕ) (model graph vectors : List ℕ) → IsAnswer model graph vectors (Ok Yes)
    → IsCertifiedByBeliefWithin by d model graph vectors
certified_within by d model graph vectors answer = record {
  steps = λ c selector picks n worth best is k. started answer c by d selector picks n worth best is k;
  ahead = λ c policy selector looks n worth best is k. looked answer c by d policy selector looks n worth best is k;
  long_run = λ some c less policy selector worth low earns leaves. long_run_within c.meaning c.policy c.values less by d some policy
      selector worth low earns leaves;
}

pub enclosed : (model graph low high : List ℕ) → IsAnswer model graph low (Ok Yes) → IsBoundAnswer model high (Ok bounds.Yes)
    → (c : Certificate model graph low) (d : BoundCertificate model high)
    → c.meaning.preamble.discount < one → (selector : Selector) → PicksBest (controller c) (start_weight c.meaning) selector
    → (n : ℕ) (worth most : ℤ) → IsBestStart c.meaning c.values n → IsStartWorth c.meaning c.values n worth
    → IsBoundStartMost d.meaning d.values most
    → (e : EncloseOptimum c.meaning worth most) × (e.policy ≡ policy_of (controller c) selector)
enclosed model graph low high below above c d less selector picks n worth most best is is_most =
    encloses c.meaning c.policy c.values less (policy_of (controller c) selector) selector worth most
    (exact below c selector picks n worth best is)
    (texts_enclose model graph low high below above c d less n worth most best is is_most)

pub enclosed_seen : (model graph low high : List ℕ) → IsAnswer model graph low (Ok Yes) → IsBoundAnswer model high (Ok bounds.Yes)
    → (c : Certificate model graph low) (d : BoundCertificate model high)
    → is_mdp c.meaning.preamble ≡ true → c.meaning.preamble.discount < one → (selector : Selector)
    → PicksBest (controller c) (start_weight c.meaning) selector
    → (n : ℕ) (worth most : ℤ) → IsBestStart c.meaning c.values n → IsStartWorth c.meaning c.values n worth
    → IsBoundStartMost d.meaning d.values most
    → (e : EncloseSeenOptimum c.meaning worth most) × ((s : ℕ) → e.policy s ≡ policy_of (controller c) selector)
enclosed_seen model graph low high below above c d mdp less selector picks n worth most best is is_most =
    encloses_seen c.meaning c.policy c.values less (policy_of (controller c) selector) selector worth most
    (exact below c selector picks n worth best is)
    (texts_enclose_seen model graph low high below above c d mdp less n worth most best is is_most)

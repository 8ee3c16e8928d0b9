-- The side from above: what a yes promises, that certified texts are answered yes, the interval, and the laws of the side.
use Rattle.std.proofs.Common.{◌≡◌, ℕ, ◌<◌, ℤ, ◌≤ℤ◌, List, Result, Ok, IfErr, arith, rules}
use Rattle.polcert_answer.proofs.Common.{Up, Meaning, IsSame, states_of, CellTable, table_of, PolicyGraph, IsProperGraph, nodes}
use Rattle.polcert_answer.proofs.Common.{PolicyVectors, IsRoundedVectorsText, Yes, controller_of, Write, Certificate, controller}
use Rattle.polcert_answer.proofs.Common.{IsAboveVerdictLine, HasGraph, IsAnswer, SideLaws}
use Rattle.polcert_model.proofs.LimitLaws.{within_limits}
use Rattle.polcert_policy.specs.Vectors.{value_of}
use Rattle.polcert_policy.specs.VectorText.{IsVectorsText}
use Rattle.polcert_check.specs.declared.above.AboveVerdict.{AboveVerdict}
use Rattle.polcert_check.specs.declared.above.AboveVerdict.TheVariants.{Long, NoSuccessor}
use Rattle.polcert_check.specs.declared.fault.RaiseFault.{RaiseFault}
use Rattle.polcert_check.specs.declared.fault.RaiseFault.TheVariants as faults
use Rattle.polcert_check.specs.declared.survey.Verdict.TheVariants as verdicts
use Rattle.polcert_check.specs.Horizon.{Fits, one, step_scale}
use Rattle.polcert_check.specs.Above.{PromiseAbove}
use Rattle.polcert_check.specs.Raise.{RefusesToRaise}
use Rattle.polcert_check.specs.StartMost.{IsStartMost, StartPromiseAbove}
use Rattle.polcert_check.proofs.Mirrors.FromAbove.{passes_if_promised_above}
use Rattle.polcert_check.proofs.Mirrors.HorizonsAbove.{meets_horizon_above}
use Rattle.polcert_check.proofs.Mirrors.Interval.{never_above}
use Rattle.polcert_check.proofs.Mirrors.OneAbove.{one_above_verdict}
use Rattle.polcert_check.proofs.Mirrors.SameAbove as answers
use Rattle.polcert_check.proofs.Mirrors.StartMosts.{start_above}
use Rattle.polcert_check.proofs.Agreements.SameModels as models_same
use Rattle.polcert_check.proofs.Sums.Scales.{scales}
use Rattle.polcert_check.proofs.Walking.Verdicts.{positive_product}
use Rattle.polcert_answer.specs.declared.fault.RunFault.TheVariants.{Raise}
use Rattle.polcert_answer.specs.HeadlineAbove.{CertificateAbove, IsCertifiedAbove, AreRewardsCertifiedAbove, BoundLowerVectors}
use Rattle.polcert_answer.specs.Answer.{IsAnswerAbove}
use Rattle.polcert_answer.specs.Run.{HasStartPromiseAbove}
use Rattle.polcert_answer.specs.Side.{IsWhyNotRaised, above}
use Rattle.polcert_answer.proofs.Denoted.{of_each, of_parts, same_graph, graph_is, fits_is, controller_proper}
use Rattle.polcert_answer.proofs.Passing.{read_in_raise}

some_scale : {model graph vectors : List ℕ} (c : CertificateAbove model graph vectors) → 0 < step_scale (controller c)
some_scale c = grind (arith, scales (table_of c.meaning), positive_product, within_limits c.is_model.lexemes c.meaning c.is_model.denotes)

-- ---- a yes from above certifies the texts, with the vectors at the end and for the rewards alone
module _ (model graph vectors : List ℕ) (answer : IsAnswerAbove model graph vectors (Ok Yes)) where
  pub yes_certified : IsCertifiedAbove model graph vectors
  yes_certified = record {
    certificate = answer.0;
    promise =
        λ c k n s nl sl. (meets_horizon_above (controller c) (controller_proper c) Yes (answer.1 c) k n s nl sl).0;
  }

  pub yes_rewarded : AreRewardsCertifiedAbove model graph vectors
  yes_rewarded = λ c k n s nl sl. (meets_horizon_above (controller c) (controller_proper c) Yes (answer.1 c) k n s nl sl).1

  -- no vectors that pass from below are above these
  pub yes_bounds_lower : BoundLowerVectors model graph vectors
  yes_bounds_lower = λ c less low fits below n s nl sl.
      never_above (controller c) (controller_proper c) (answer.1 c) (value_of low) below less (some_scale c) n s nl sl

  -- and from the start no more is expected than any node is worth there
  pub yes_started : (c : CertificateAbove model graph vectors) (k n : ℕ) (most : ℤ) → n < nodes c.policy
      → IsStartMost c.meaning c.values most
      → StartPromiseAbove c.meaning (controller c) k n most
  yes_started c k n most nl is = start_above c.meaning c.policy c.values (fits_is c) (controller_proper c) (answer.1 c) most is k n nl

-- ---- the converse: where the promise of one step from above holds, the answer from above is yes
pub yes_if_one_step : (model graph vectors : List ℕ) → CertificateAbove model graph vectors
    → ((c : CertificateAbove model graph vectors) (n s : ℕ) → n < nodes c.policy → s < states_of c.meaning
    → PromiseAbove (controller c) 1 n s)
    → IsAnswerAbove model graph vectors (Ok Yes)
yes_if_one_step model graph vectors some holds = (some, λ c n s nl sl. passes_if_promised_above (controller c) n s (holds c n s nl sl))

pub yes_if_certified : (model graph vectors : List ℕ) → IsCertifiedAbove model graph vectors → IsAnswerAbove model graph vectors (Ok Yes)
yes_if_certified model graph vectors certified = yes_if_one_step model graph vectors certified.certificate (λ c. certified.promise c 1)

-- ---- two yeses are an interval
pub interval : (model graph low high : List ℕ) → IsAnswer model graph low (Ok verdicts.Yes) → IsAnswerAbove model graph high (Ok Yes)
    → (c : Certificate model graph low) (d : CertificateAbove model graph high) → c.meaning.preamble.discount < one
    → (n s : ℕ) → n < nodes c.policy → s < states_of c.meaning → value_of c.values n s ≤ℤ value_of d.values n s
interval model graph low high below above c d less n s nl sl =
    let both = same_graph c.meaning d.meaning c.policy d.policy (graph_is c) (graph_is d) in
    let moved : IsVectorsText d.policy (states_of d.meaning) low c.values = grind arith in
    let lower : Certificate model graph low = record {
      meaning = d.meaning;
      policy = d.policy;
      values = c.values;
      is_model =
          d.is_model;
      is_graph = d.is_graph;
      are_vectors = moved;
    } in
    never_above (controller d) (controller_proper d) (above.1 d) (value_of c.values) (below.1 lower) (grind arith) (some_scale d) n s
    (grind arith) (grind arith)

-- ---- the laws of the side
module _ (m n : Meaning) (same : IsSame m n) (g : PolicyGraph) (v : PolicyVectors) where
  line_for : (verdict : AboveVerdict) (line : List ℕ) → IsAboveVerdictLine m (of_parts m g v) v verdict line
      → IsAboveVerdictLine n (of_parts n g v) v verdict line
  line_for Yes line (most, is_most, is) = (most, answers.same_start_most m n same v most is_most, is)
  line_for (Long node s amount) line (by, quotient, is) = grind (arith, models_same.same_cells, scales, of_parts)
  line_for (NoSuccessor node s z) line is = is

  reason_for : IsProperGraph g → Fits (table_of m) g v → (fault : RaiseFault) → IsWhyNotRaised (of_parts m g v) v fault
      → IsWhyNotRaised (of_parts n g v) v fault
  reason_for proper fits faults.Memory (by, least) =
      (by, answers.same_least_raise (table_of m) (table_of n) g v (models_same.same_cells m n same) proper fits by least)
  reason_for proper fits fault why = answers.same_not_raised (table_of m) (table_of n) g v (models_same.same_cells m n same) proper fits
      fault why

-- what the line of a yes says of the start
yes_line_promised : (model graph vectors : List ℕ) → IsAnswerAbove model graph vectors (Ok Yes)
    → (m : Meaning) (g : PolicyGraph) (v : PolicyVectors) → HasGraph model graph m g
    → IsRoundedVectorsText Up g (states_of m) vectors v → (line : List ℕ) → IsAboveVerdictLine m (of_parts m g v) v Yes line
    → HasStartPromiseAbove line model graph vectors
yes_line_promised model graph vectors answer m g v has are line (most, is_most, spelled) =
    let each : (c : CertificateAbove model graph vectors) → IsStartMost c.meaning c.values most =
    of_each m g v has are (λ o h w. IsStartMost o w most) (λ o same. answers.same_start_most m o same v most is_most) in
    record {
      most = most;
      is_line = spelled;
      is_most = each;
      promise =
          λ c k n nl. yes_started model graph vectors answer c k n most nl (each c);
    }

one_raise : (x y : RaiseFault) → Raise x ≡ Raise y → x ≡ y
one_raise x y same = cc

no_write : (x : RaiseFault) → Raise x ≡ Write → ⊥
no_write x same = cc

pub above_laws : SideLaws above
above_laws = search (
  rules,
  meets_horizon_above,
  one_above_verdict,
  answers.same_above_verdict,
  answers.same_least_raise,
  models_same.same_cells,
  read_in_raise,
  yes_certified,
  yes_rewarded,
  yes_bounds_lower,
  line_for,
  reason_for,
  yes_line_promised,
  one_raise,
  no_write,
)

pub whys : {T : Type 0} (t : CellTable) (g : PolicyGraph) (v : PolicyVectors) (r : Result T RaiseFault) → IfErr r (RefusesToRaise t g v)
    → IfErr r (IsWhyNotRaised (controller_of t g v) v)
whys t g v r h1 = grind arith

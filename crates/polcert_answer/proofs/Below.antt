-- The side from below: what a yes promises, that certified texts are answered yes, and the laws of the side.
use Rattle.std.proofs.Common.{◌≡◌, ℕ, ◌<◌, ℤ, List, Result, Ok, IfErr, refl, subst, rules, arith}
use Rattle.polcert_answer.proofs.Common.{Down, Meaning, IsSame, states_of, CellTable, table_of, PolicyGraph, IsProperGraph, nodes}
use Rattle.polcert_answer.proofs.Common.{PolicyVectors, IsRoundedVectorsText, controller_of, Write, Certificate, controller, IsVerdictLine}
use Rattle.polcert_answer.proofs.Common.{HasGraph, IsAnswer, SideLaws}
use Rattle.polcert_check.specs.declared.fault.LowerFault.{LowerFault}
use Rattle.polcert_check.specs.declared.fault.LowerFault.TheVariants as faults
use Rattle.polcert_check.specs.declared.survey.Verdict.{Verdict}
use Rattle.polcert_check.specs.declared.survey.Verdict.TheVariants.{Yes, Short, NoSuccessor}
use Rattle.polcert_check.specs.Horizon.{Fits, Promise}
use Rattle.polcert_check.specs.Lower.{RefusesToLower}
use Rattle.polcert_check.specs.StartWorth.{IsBestStart, IsStartWorth, StartPromise}
use Rattle.polcert_check.proofs.Agreements.OneAnswer.{one_verdict}
use Rattle.polcert_check.proofs.Agreements.SameAnswers as answers
use Rattle.polcert_check.proofs.Agreements.SameModels as models_same
use Rattle.polcert_check.proofs.Horizons.EveryHorizon.{passes_if_promised}
use Rattle.polcert_check.proofs.Horizons.StartSums.{start_promise}
use Rattle.polcert_check.proofs.Walking.Answering.{meets_horizon}
use Rattle.polcert_answer.specs.declared.fault.RunFault.TheVariants.{Lower}
use Rattle.polcert_answer.specs.Headline.{IsCertified, AreRewardsCertified}
use Rattle.polcert_answer.specs.Run.{HasStartPromise}
use Rattle.polcert_answer.specs.Side.{IsWhy, below}
use Rattle.polcert_answer.proofs.Denoted.{of_each, of_parts, controller_proper}
use Rattle.polcert_answer.proofs.Passing.{read_in_lowering}

-- ---- a yes certifies the texts, with the vectors at the end and for the rewards alone
module _ (model graph vectors : List ℕ) (answer : IsAnswer model graph vectors (Ok Yes)) where
  pub yes_certified : IsCertified model graph vectors
  yes_certified = record {
    certificate = answer.0;
    promise =
        λ c k n s nl sl. (meets_horizon (controller c) (controller_proper c) Yes (answer.1 c) k n s nl sl).0;
  }

  pub yes_rewarded : AreRewardsCertified model graph vectors
  yes_rewarded = λ c k n s nl sl. (meets_horizon (controller c) (controller_proper c) Yes (answer.1 c) k n s nl sl).1

  -- and from the start no less is expected than a node is worth there
  pub yes_started : (c : Certificate model graph vectors) (k n : ℕ) (worth : ℤ) → n < nodes c.policy
      → IsStartWorth c.meaning c.values n worth
      → StartPromise c.meaning (controller c) k n worth
  yes_started c k n worth nl is = start_promise c.meaning (controller c) refl (controller_proper c) (answer.1 c) n worth nl is k

-- ---- the converse: where the promise of one step holds, the answer is yes
pub yes_if_one_step : (model graph vectors : List ℕ) → Certificate model graph vectors
    → ((c : Certificate model graph vectors) (n s : ℕ) → n < nodes c.policy → s < states_of c.meaning → Promise (controller c) 1 n s)
    → IsAnswer model graph vectors (Ok Yes)
yes_if_one_step model graph vectors some holds = (some, λ c n s nl sl. passes_if_promised (controller c) n s (holds c n s nl sl))

pub yes_if_certified : (model graph vectors : List ℕ) → IsCertified model graph vectors → IsAnswer model graph vectors (Ok Yes)
yes_if_certified model graph vectors certified = yes_if_one_step model graph vectors certified.certificate (λ c. certified.promise c 1)

-- ---- the laws of the side
module _ (m n : Meaning) (same : IsSame m n) (g : PolicyGraph) (v : PolicyVectors) where
  line_for : (verdict : Verdict) (line : List ℕ) → IsVerdictLine m (of_parts m g v) v verdict line
      → IsVerdictLine n (of_parts n g v) v verdict line
  line_for Yes line (node, worth, best, is_worth, is) = search (rules, models_same.same_best_start, models_same.same_worth)
  line_for (Short node s amount) line (by, quotient, is) = grind (arith, models_same.same_cells, of_parts)
  line_for (NoSuccessor node s z) line is = is

  reason_for : IsProperGraph g → Fits (table_of m) g v → (fault : LowerFault) → IsWhy (of_parts m g v) v fault
      → IsWhy (of_parts n g v) v fault
  reason_for proper fits faults.Memory (by, least) =
      (by, answers.same_least_constant (table_of m) (table_of n) g v (models_same.same_cells m n same) proper fits by least)
  reason_for proper fits fault why = answers.same_refused (table_of m) (table_of n) g v (models_same.same_cells m n same) proper fits fault
      why

-- what the line of a yes says of the start
yes_line_promised : (model graph vectors : List ℕ) → IsAnswer model graph vectors (Ok Yes)
    → (m : Meaning) (g : PolicyGraph) (v : PolicyVectors) → HasGraph model graph m g
    → IsRoundedVectorsText Down g (states_of m) vectors v → (line : List ℕ) → IsVerdictLine m (of_parts m g v) v Yes line
    → HasStartPromise line model graph vectors
yes_line_promised model graph vectors answer m g v has are line (node, worth, best, is_worth, spelled) =
    let each : (c : Certificate model graph vectors) → IsBestStart c.meaning c.values node =
    of_each m g v has are (λ o h w. IsBestStart o w node) (λ o same. models_same.same_best_start m o same v node best) in
    let worths : (c : Certificate model graph vectors) → IsStartWorth c.meaning c.values node worth =
    of_each m g v has are (λ o h w. IsStartWorth o w node worth) (λ o same. models_same.same_worth m o same v node worth is_worth) in
    record {
      node = node;
      worth = worth;
      is_line = spelled;
      best = each;
      is_worth = worths;
      promise = λ c k. yes_started model graph vectors answer c k node worth
          (subst (λ count. node < count) c.are_vectors.2.nodes_are (each c).is_below) (worths c);
    }

one_lower : (x y : LowerFault) → Lower x ≡ Lower y → x ≡ y
one_lower x y same = cc

no_write : (x : LowerFault) → Lower x ≡ Write → ⊥
no_write x same = cc

pub below_laws : SideLaws below
below_laws = search (
  rules,
  one_verdict,
  answers.same_verdict,
  answers.same_least_constant,
  models_same.same_cells,
  meets_horizon,
  read_in_lowering,
  yes_certified,
  yes_rewarded,
  line_for,
  reason_for,
  yes_line_promised,
  one_lower,
  no_write,
)

pub whys : {T : Type 0} (t : CellTable) (g : PolicyGraph) (v : PolicyVectors) (r : Result T LowerFault) → IfErr r (RefusesToLower t g v)
    → IfErr r (IsWhy (controller_of t g v) v)
whys t g v r h1 = grind arith

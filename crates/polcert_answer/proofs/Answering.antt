-- What a run says of the texts of three sources, from what its calls say of what these denote, on either side.
use Rattle.std.proofs.Common.{◌∙◌, ℕ, ℤ, List, Ok, ap, rules}
use Rattle.polcert_answer.proofs.Common.{Meaning, PolicyGraph, PolicyVectors, vectors_text, IsRoundedAnswer, HoldsOfTexts, Side, AreDenoted}
use Rattle.polcert_answer.proofs.Common.{AreWrittenMoved, SideLaws}
use Rattle.polcert_answer.specs.Side.{HasVerdict, HasHorizon, HasMoved, IsNotMovable}
use Rattle.polcert_answer.specs.Steps.Reading.{IsAnswerLine}
use Rattle.polcert_answer.proofs.Denoted.{of_parts, answer_is, meets_each, line_of_each, least_of_each, reason_of_each, text_of_each}
use Rattle.polcert_answer.proofs.OfSources.{holds_of}
use Rattle.polcert_answer.proofs.OneAnswer.{but_for_memory}

module _ {V F : Type 0} {side : Side V F} (laws : SideLaws side) {of_model of_graph of_vectors : List ℕ → Type 0}
    (m : Meaning) (g : PolicyGraph) (v : PolicyVectors) (d : AreDenoted side.rounding of_model of_graph of_vectors m g v) where
  -- this holds of the texts of the sources
  abbrev Hold : (List ℕ → List ℕ → List ℕ → Type 0) → Type 0
  Hold Holds = HoldsOfTexts side.rounding of_model of_graph of_vectors Holds

  answered : (x : V) (line : List ℕ) → IsAnswerLine side m g v x line
      → IsRoundedAnswer side.rounding side.Is d.first d.second d.third (Ok x)
  answered x line is = answer_is laws m g v d.has_graph d.are_vectors x is.verdict_is

  pub has_verdict : (x : V) (line : List ℕ) → IsAnswerLine side m g v x line → Hold (HasVerdict side x line)
  has_verdict x line is = search (rules, line_of_each, answered)

  pub has_horizon : (x : V) (line : List ℕ) → IsAnswerLine side m g v x line → Hold (HasHorizon side x)
  has_horizon x line is = holds_of m g v d (HasHorizon side x) (meets_each laws m g v d.has_graph d.are_vectors x is.verdict_is)

  -- what a yes and its line promise
  pub has_promise : (line : List ℕ) → IsAnswerLine side m g v side.yes line → Hold side.Promised
  has_promise line is = holds_of m g v d side.Promised (laws.promised d.first d.second d.third (answered side.yes line is))

  pub has_start_promise : (line : List ℕ) → IsAnswerLine side m g v side.yes line → Hold (side.StartPromised line)
  has_start_promise line is =
      holds_of m g v d (side.StartPromised line) (laws.started d.first d.second d.third (answered side.yes line is) m g v d.has_graph
      d.are_vectors line is.line_is)

  -- the moved vectors, as they are written and read back
  pub has_moved : (by : ℤ) (text : List ℕ) → AreWrittenMoved side m g v by text → Hold (HasMoved side by text)
  has_moved by text are =
      let passed : IsRoundedAnswer side.rounding side.Is d.first d.second text (Ok side.yes) =
      answer_is laws m g are.other d.has_graph are.reads_back side.yes are.moved.passes in
      holds_of m g v d (HasMoved side by text) (record {
        least = least_of_each laws m g v d.has_graph d.are_vectors by are.moved.least;
        is_text = λ c. (are.text_is ∙ ap (λ w. vectors_text g w) are.moved.shifted)
            ∙ text_of_each m g v d.has_graph d.are_vectors (side.added by) c;
        answer = passed;
        only_yes = but_for_memory side.rounding side.Is laws.one_verdict d.first d.second text side.yes passed;
        promise = laws.promised d.first d.second text passed;
      })

  pub not_movable : (f : F) → side.IsReason (of_parts m g v) v f → Hold (IsNotMovable side f)
  not_movable f why = holds_of m g v d (IsNotMovable side f) (reason_of_each laws m g v d.has_graph d.are_vectors f why)

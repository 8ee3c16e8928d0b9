-- The two sides from which vectors bound what a controller earns: from below, where they say that it earns at least so much, and from
-- above, where they say at most; and what the runs over three sources promise on each side.
use Rattle.std.specs.Prelude.{◌≡◌, ℕ, ℤ, neg_ℤ, List, Option, Result, Ok, IfOk, IfErr, IsErrOf}
use Rattle.polcert_text.specs.declared.number.Rounding.{Rounding}
use Rattle.polcert_text.specs.declared.number.Rounding.TheVariants.{Down, Up}
use Rattle.polcert_text.specs.Sink.{Takes}
use Rattle.polcert_cells.specs.Meaning.{Meaning}
use Rattle.polcert_policy.specs.Vectors.{PolicyVectors, shifted_by}
use Rattle.polcert_policy.specs.FullForm.{vectors_text}
use Rattle.polcert_check.specs.declared.fault.LowerFault.{LowerFault}
use Rattle.polcert_check.specs.declared.fault.LowerFault.TheVariants as lowering
use Rattle.polcert_check.specs.declared.fault.RaiseFault.{RaiseFault}
use Rattle.polcert_check.specs.declared.fault.RaiseFault.TheVariants as raising
use Rattle.polcert_check.specs.declared.survey.Verdict.{Verdict}
use Rattle.polcert_check.specs.declared.survey.Verdict.TheVariants.{Yes}
use Rattle.polcert_check.specs.declared.above.AboveVerdict.{AboveVerdict}
use Rattle.polcert_check.specs.declared.above.AboveVerdict.TheVariants as verdicts_above
use Rattle.polcert_check.specs.Horizon.{Controller, MeetsHorizon}
use Rattle.polcert_check.specs.Above.{IsAboveVerdict, MeetsHorizonAbove}
use Rattle.polcert_check.specs.Lower.{HasLeastConstant, IsLeastConstant, IsNotLowered}
use Rattle.polcert_check.specs.Raise.{HasLeastRaise, IsLeastRaise, IsNotRaised}
use Rattle.polcert_check.specs.Verdict.{IsVerdict}
use Rattle.polcert_answer.specs.declared.fault.Fault.{Fault}
use Rattle.polcert_answer.specs.declared.fault.RunFault.{RunFault}
use Rattle.polcert_answer.specs.declared.fault.RunFault.TheVariants.{Lower, Raise}
use Rattle.polcert_answer.specs.Answer.{IsRoundedAnswer, IsButForMemory}
use Rattle.polcert_answer.specs.Headline.{RoundedCertificate, controller}
use Rattle.polcert_answer.specs.Lines.{IsVerdictLine, IsAboveVerdictLine}
use Rattle.polcert_answer.specs.Run.{WritesAnswer, StopsRightly, IsCheckRunFault, IsLowerRunFault, IsRaiseRunFault, text_of, HoldsOfTexts, HavePromise, HasStartPromise, HavePromiseAbove, HasStartPromiseAbove}

-- why the vectors aren't lowered: a reason of the definition, or out of memory where there is a constant
abbrev pub IsWhy : Controller → PolicyVectors → LowerFault → Type 0
IsWhy c v lowering.Memory = HasLeastConstant c v
IsWhy c v fault = IsNotLowered c v fault

-- why the vectors aren't raised: a reason of the definition, or out of memory where there is a constant
abbrev pub IsWhyNotRaised : Controller → PolicyVectors → RaiseFault → Type 0
IsWhyNotRaised c v raising.Memory = HasLeastRaise c v
IsWhyNotRaised c v fault = IsNotRaised c v fault

-- All that differs between the sides, where `V` are the verdicts and `F` says why vectors aren't moved.
pub record Side (V F : Type 0) : Type 1 where
  -- how each value of the vectors is rounded
  pub rounding : Rounding
  -- the verdict on a controller, which verdict is yes, what a verdict says of the promise, and the line of a verdict
  pub Is : Controller → V → Type 0
  pub yes : V
  pub Meets : Controller → V → Type 0
  pub IsLine : Meaning → Controller → PolicyVectors → V → List ℕ → Type 0
  -- what a yes to three texts promises, and what its line says of the start
  pub Promised : List ℕ → List ℕ → List ℕ → Type 0
  pub StartPromised : List ℕ → List ℕ → List ℕ → List ℕ → Type 0
  -- the least constant by which vectors are moved to pass, what is added to each value for it, and why vectors aren't moved
  pub IsLeast : Controller → PolicyVectors → ℤ → Type 0
  pub added : ℤ → ℤ
  pub IsReason : Controller → PolicyVectors → F → Type 0
  -- that reason as the fault of a run, and the faults that a run which moves them may answer
  pub run_fault : F → RunFault
  pub IsRunFault : RunFault → Type 0

-- from below: vectors are lowered
abbrev pub below : Side Verdict LowerFault
below = record {
  rounding = Down;
  Is = IsVerdict;
  yes = Yes;
  Meets = MeetsHorizon;
  IsLine = IsVerdictLine;
  Promised = HavePromise;
  StartPromised = HasStartPromise;
  IsLeast = IsLeastConstant;
  added = neg_ℤ;
  IsReason = IsWhy;
  run_fault = Lower;
  IsRunFault = IsLowerRunFault;
}

-- from above: vectors are raised
abbrev pub above : Side AboveVerdict RaiseFault
above = record {
  rounding = Up;
  Is = IsAboveVerdict;
  yes = verdicts_above.Yes;
  Meets = MeetsHorizonAbove;
  IsLine = IsAboveVerdictLine;
  Promised = HavePromiseAbove;
  StartPromised = HasStartPromiseAbove;
  IsLeast = IsLeastRaise;
  added = λ by. by;
  IsReason = IsWhyNotRaised;
  run_fault = Raise;
  IsRunFault = IsRaiseRunFault;
}

-- ---- what is said of three texts
module _ {V F : Type 0} (side : Side V F) where
  -- The answer to them is this verdict, and this is its line.
  pub record HasVerdict (verdict : V) (line model graph vectors : List ℕ) : Type 0 where
    pub answer : IsRoundedAnswer side.rounding side.Is model graph vectors (Ok verdict)
    pub is_line : (c : RoundedCertificate side.rounding model graph vectors) → side.IsLine c.meaning (controller c) c.values verdict line

  -- Whatever controller they denote, this is what the verdict says of the promise: a yes, that it holds for every number of
  -- steps; a no, that the promise of one step fails at the pair that it names.
  abbrev pub HasHorizon : V → List ℕ → List ℕ → List ℕ → Type 0
  HasHorizon verdict model graph vectors = (c : RoundedCertificate side.rounding model graph vectors) → side.Meets (controller c) verdict

  -- This is the least constant by which the vectors can be moved to pass, and the text is the full form of the vectors moved by
  -- it. The answer to the first two texts and this one is yes, every answer to them is, except out of memory, and the headline
  -- holds of them.
  pub record HasMoved (by : ℤ) (text model graph vectors : List ℕ) : Type 0 where
    pub least : (c : RoundedCertificate side.rounding model graph vectors) → side.IsLeast (controller c) c.values by
    pub is_text : (c : RoundedCertificate side.rounding model graph vectors) → text ≡ vectors_text c.policy (shifted_by c.values (side.added by))
    pub answer : IsRoundedAnswer side.rounding side.Is model graph text (Ok side.yes)
    pub only_yes : (result : Result V Fault) → IsRoundedAnswer side.rounding side.Is model graph text result → IsButForMemory side.yes result
    pub promise : side.Promised model graph text

  -- No constant moves the vectors so that they pass, for this reason; or there is such a constant, and memory ran out.
  abbrev pub IsNotMovable : F → List ℕ → List ℕ → List ℕ → Type 0
  IsNotMovable fault model graph vectors = (c : RoundedCertificate side.rounding model graph vectors) → side.IsReason (controller c) c.values fault

-- ---- a run that tells how far it is
--
-- The three sources and the sink, each with its state before and after the call.
module _ {V F : Type 0} (side : Side V F) {M G P W : Type 0}
    (model_reads : M → ℕ → Option (List ℕ) → M → Type 0) (model_failures : M → ℕ) (model model' : M)
    (graph_reads : G → ℕ → Option (List ℕ) → G → Type 0) (graph_failures : G → ℕ) (graph graph' : G)
    (vectors_reads : P → ℕ → Option (List ℕ) → P → Type 0) (vectors_failures : P → ℕ) (vectors vectors' : P)
    (sink_writes : W → Option (List ℕ) → W → Type 0) (sink_failures : W → ℕ) (sink sink' : W) where
  -- what a check promises: each field is the clause of `run_check` and of `run_check_above` of that name
  pub record IsCheckRun (result : Result V RunFault) : Type 0 where
    pub answered : WritesAnswer sink_writes (λ verdict line. HoldsOfTexts side.rounding (text_of model_reads model model')
        (text_of graph_reads graph graph') (text_of vectors_reads vectors vectors') (HasVerdict side verdict line)) result sink sink'
    pub promise : result ≡ Ok side.yes → HoldsOfTexts side.rounding (text_of model_reads model model')
        (text_of graph_reads graph graph') (text_of vectors_reads vectors vectors') side.Promised
    pub start_promise : result ≡ Ok side.yes → (line : List ℕ) × HoldsOfTexts side.rounding (text_of model_reads model model')
        (text_of graph_reads graph graph') (text_of vectors_reads vectors vectors') (side.StartPromised line)
        × Takes sink_writes sink line sink'
    pub horizon : IfOk result (λ verdict. HoldsOfTexts side.rounding (text_of model_reads model model')
        (text_of graph_reads graph graph') (text_of vectors_reads vectors vectors') (HasHorizon side verdict))
    pub stops : StopsRightly side.rounding result model_reads model_failures model model' graph_reads graph_failures graph graph'
        vectors_reads vectors_failures vectors vectors' sink_failures sink sink'
    pub of_a_check : IfErr result IsCheckRunFault

  -- what a run that moves vectors promises: the fields are the clauses of `run_lower` and of `run_raise`, in their order
  pub record IsMoveRun (result : Result ℤ RunFault) : Type 0 where
    pub moved : WritesAnswer sink_writes (λ by text. HoldsOfTexts side.rounding (text_of model_reads model model')
        (text_of graph_reads graph graph') (text_of vectors_reads vectors vectors') (HasMoved side by text)) result sink sink'
    pub not_moved : (fault : F) → IsErrOf result (side.run_fault fault)
        → HoldsOfTexts side.rounding (text_of model_reads model model')
        (text_of graph_reads graph graph') (text_of vectors_reads vectors vectors') (IsNotMovable side fault)
    pub stops : StopsRightly side.rounding result model_reads model_failures model model' graph_reads graph_failures graph graph'
        vectors_reads vectors_failures vectors vectors' sink_failures sink sink'
    pub of_a_move : IfErr result side.IsRunFault

-- What the runs that check promise, from either side. The three sources and the sink stand each with its state before and after the call.
use Rattle.std.specs.Prelude.{◌≡◌, ℕ, List, Option, Result, Ok, IfOk, IfErr}
use Rattle.polcert_text.specs.Sink.{Takes}
use Rattle.polcert_answer.specs.declared.fault.RunFault.{RunFault}
use Rattle.polcert_answer.specs.Run.{HoldsOfTexts, IsCheckRunFault, StopsRightly, WritesAnswer, text_of}
use Rattle.polcert_robust_answer.specs.Near.{HasNearHorizon, HasNearVerdict, NearSide}
use Rattle.polcert_robust_answer.specs.declared.within.Within.{Within}

module _ {V : Type 0} (side : NearSide V) (w : Within) {M G P W : Type 0}
    (model_reads : M → ℕ → Option (List ℕ) → M → Type 0) (model_failures : M → ℕ) (model model' : M)
    (graph_reads : G → ℕ → Option (List ℕ) → G → Type 0) (graph_failures : G → ℕ) (graph graph' : G)
    (vectors_reads : P → ℕ → Option (List ℕ) → P → Type 0) (vectors_failures : P → ℕ) (vectors vectors' : P)
    (sink_writes : W → Option (List ℕ) → W → Type 0) (sink_failures : W → ℕ) (sink sink' : W) where
  -- what is said of the texts of the sources
  abbrev OfTexts : (List ℕ → List ℕ → List ℕ → Type 0) → Type 0
  OfTexts Holds = HoldsOfTexts side.rounding (text_of model_reads model model') (text_of graph_reads graph graph') (text_of vectors_reads vectors vectors') Holds

  pub record IsNearCheckRun (result : Result V RunFault) : Type 0 where
    -- the sink took exactly the line of the verdict on the texts of the sources; or if a write failed, a beginning of it
    pub answered : WritesAnswer sink_writes (λ verdict line. OfTexts (HasNearVerdict side w verdict line)) result sink sink'
    -- a yes promises every number of steps in every model within the distances
    pub promise : result ≡ Ok side.yes → OfTexts (side.Promised w)
    -- and the sink took a line of which what it says of the start is promised
    pub start_promise : result ≡ Ok side.yes → (line : List ℕ) × OfTexts (side.StartPromised w line) × Takes sink_writes sink line sink'
    -- a no refutes the promise of one step in one of them
    pub horizon : IfOk result (λ verdict. OfTexts (HasNearHorizon side w verdict))
    -- the first text that is none of its kind is refused, for a right reason; a device is named exactly if it failed; each source is read to
    -- its end before the next; with any other fault than that of a write nothing was written
    pub stops : StopsRightly side.rounding result model_reads model_failures model model' graph_reads graph_failures graph graph'
        vectors_reads vectors_failures vectors vectors' sink_failures sink sink'
    pub of_a_check : IfErr result IsCheckRunFault

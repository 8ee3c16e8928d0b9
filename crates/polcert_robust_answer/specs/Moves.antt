-- What the runs that move vectors promise: they are lowered, or raised, by the least constant by which they pass in every model near the
-- text's. The three sources and the sink stand each with its state before and after the call.
use Rattle.std.specs.Prelude.{◌≡◌, ℕ, ℤ, neg_ℤ, List, Option, Result, IfErr, IsErrOf}
use Rattle.polcert_text.specs.declared.number.Rounding.{Rounding}
use Rattle.polcert_text.specs.declared.number.Rounding.TheVariants.{Down, Up}
use Rattle.polcert_cells.specs.Tables.{table_of}
use Rattle.polcert_policy.specs.Vectors.{PolicyVectors, shifted_by}
use Rattle.polcert_policy.specs.FullForm.{vectors_text}
use Rattle.polcert_check.specs.Horizon.{Controller}
use Rattle.polcert_check.specs.declared.fault.LowerFault.{LowerFault}
use Rattle.polcert_check.specs.declared.fault.RaiseFault.{RaiseFault}
use Rattle.polcert_answer.specs.Headline.{RoundedCertificate, controller}
use Rattle.polcert_answer.specs.Run.{HoldsOfTexts, IsLowerRunFault, IsRaiseRunFault, StopsRightly, WritesAnswer, text_of}
use Rattle.polcert_answer.specs.declared.fault.RunFault.{RunFault}
use Rattle.polcert_answer.specs.declared.fault.RunFault.TheVariants.{Lower, Raise}
use Rattle.polcert_robust.specs.Intervals.{IntervalTable}
use Rattle.polcert_robust.specs.RobustAbove.{PassesAboveInEveryModel}
use Rattle.polcert_robust.specs.RobustLower.{IsLeastLowering, RefusesToLowerRobustly}
use Rattle.polcert_robust.specs.RobustRaise.{IsLeastRaising, RefusesToRaiseRobustly}
use Rattle.polcert_robust.specs.RobustVerdict.{PassesInEveryModel}
use Rattle.polcert_robust_answer.specs.Near.{IsCertifiedAboveNear, IsCertifiedNear, models_near}
use Rattle.polcert_robust_answer.specs.declared.within.Within.{Within}

-- All that differs between lowering and raising, where `F` says why vectors aren't moved.
pub record NearMove (F : Type 0) : Type 1 where
  -- how each value of the vectors is rounded
  pub rounding : Rounding
  -- the vectors pass in every model within the intervals, and what that promises of three texts
  pub Pass : IntervalTable → Controller → Type 0
  pub Promised : Within → List ℕ → List ℕ → List ℕ → Type 0
  -- the least constant by which vectors are moved to pass in every model within, what is added to each value for it, and why vectors
  -- aren't moved: a reason of the definition, or out of memory where there is a constant
  pub IsLeast : IntervalTable → Controller → PolicyVectors → ℤ → Type 0
  pub added : ℤ → ℤ
  pub IsReason : IntervalTable → Controller → PolicyVectors → F → Type 0
  -- that reason as the fault of a run, and the faults that a run which moves them may answer
  pub run_fault : F → RunFault
  pub IsRunFault : RunFault → Type 0

-- from below: vectors are lowered
abbrev pub near_lowering : NearMove LowerFault
near_lowering = record {
  rounding = Down;
  Pass = PassesInEveryModel;
  Promised = IsCertifiedNear;
  IsLeast = IsLeastLowering;
  added = neg_ℤ;
  IsReason = RefusesToLowerRobustly;
  run_fault = Lower;
  IsRunFault = IsLowerRunFault;
}

-- from above: vectors are raised
abbrev pub near_raising : NearMove RaiseFault
near_raising = record {
  rounding = Up;
  Pass = PassesAboveInEveryModel;
  Promised = IsCertifiedAboveNear;
  IsLeast = IsLeastRaising;
  added = λ by. by;
  IsReason = RefusesToRaiseRobustly;
  run_fault = Raise;
  IsRunFault = IsRaiseRunFault;
}

-- ---- what is said of three texts
module _ {F : Type 0} (move : NearMove F) (w : Within) where
  -- This is the least constant by which the vectors can be moved to pass in every model within, and the text is the full form of the
  -- vectors moved by it. The first two texts and this one denote a controller; whatever controller they denote, its vectors pass in every
  -- model within; and the headline for these models holds of them.
  pub record HasMovedNear (by : ℤ) (text model graph vectors : List ℕ) : Type 0 where
    pub least : (c : RoundedCertificate move.rounding model graph vectors) → move.IsLeast (models_near w (table_of c.meaning)) (controller c) c.values by
    pub is_text : (c : RoundedCertificate move.rounding model graph vectors) → text ≡ vectors_text c.policy (shifted_by c.values (move.added by))
    pub moved : RoundedCertificate move.rounding model graph text
    pub passes : (c : RoundedCertificate move.rounding model graph text) → move.Pass (models_near w (table_of c.meaning)) (controller c)
    pub promise : move.Promised w model graph text

  -- They denote a controller of which this is the reason why no constant moves the vectors so that they pass in every model within; or there
  -- is such a constant, and memory ran out.
  pub record IsNotMovableNear (fault : F) (model graph vectors : List ℕ) : Type 0 where
    pub certificate : RoundedCertificate move.rounding model graph vectors
    pub reason : move.IsReason (models_near w (table_of certificate.meaning)) (controller certificate) certificate.values fault

-- ---- the runs
module _ {F : Type 0} (move : NearMove F) (w : Within) {M G P W : Type 0}
    (model_reads : M → ℕ → Option (List ℕ) → M → Type 0) (model_failures : M → ℕ) (model model' : M)
    (graph_reads : G → ℕ → Option (List ℕ) → G → Type 0) (graph_failures : G → ℕ) (graph graph' : G)
    (vectors_reads : P → ℕ → Option (List ℕ) → P → Type 0) (vectors_failures : P → ℕ) (vectors vectors' : P)
    (sink_writes : W → Option (List ℕ) → W → Type 0) (sink_failures : W → ℕ) (sink sink' : W) where
  -- what is said of the texts of the sources
  abbrev OfTexts : (List ℕ → List ℕ → List ℕ → Type 0) → Type 0
  OfTexts Holds = HoldsOfTexts move.rounding (text_of model_reads model model') (text_of graph_reads graph graph') (text_of vectors_reads vectors vectors') Holds

  pub record IsNearMoveRun (result : Result ℤ RunFault) : Type 0 where
    -- the sink took exactly the moved vectors in full form; or if a write failed, a beginning of them
    pub moved : WritesAnswer sink_writes (λ by text. OfTexts (HasMovedNear move w by text)) result sink sink'
    -- vectors aren't moved only if all three texts are accepted, for a right reason
    pub not_moved : (fault : F) → IsErrOf result (move.run_fault fault) → OfTexts (IsNotMovableNear move w fault)
    -- the first text that is none of its kind is refused, for a right reason; a device is named exactly if it failed; each source is read to
    -- its end before the next; with any other fault than that of a write nothing was written
    pub stops : StopsRightly move.rounding result model_reads model_failures model model' graph_reads graph_failures graph graph'
        vectors_reads vectors_failures vectors vectors' sink_failures sink sink'
    pub of_a_move : IfErr result move.IsRunFault

-- What the run that raises vectors, one for each action of a model, promises.
use Rattle.std.specs.Prelude.{◌≡◌, ℕ, ℤ, List, Result, Ok}
use Rattle.polcert_cells.specs.Meaning.{actions_of}
use Rattle.polcert_cells.specs.Tables.{CellTable, table_of}
use Rattle.polcert_policy.specs.Vectors.{PolicyVectors, shifted_by}
use Rattle.polcert_policy.specs.ActionVectors.{action_graph}
use Rattle.polcert_policy.specs.FullForm.{vectors_text}
use Rattle.polcert_check.specs.declared.fault.RaiseFault.{RaiseFault}
use Rattle.polcert_check.specs.declared.fault.RaiseFault.TheVariants as raises
use Rattle.polcert_optimum.specs.declared.verdict.InformedVerdict.{InformedVerdict}
use Rattle.polcert_optimum.specs.declared.verdict.InformedVerdict.TheVariants.{Yes}
use Rattle.polcert_optimum.specs.declared.fault.InformedRaiseFault.{InformedRaiseFault}
use Rattle.polcert_optimum.specs.declared.fault.InformedRaiseFault.TheVariants.{NoConstant, OutOfRange}
use Rattle.polcert_optimum.specs.InformedRaise.{IsRaiseConstant, HasNoInformedRaise}
use Rattle.polcert_answer.specs.declared.fault.Fault.{Fault}
use Rattle.polcert_answer.specs.declared.fault.RunFault.{RunFault}
use Rattle.polcert_answer.specs.declared.fault.RunFault.TheVariants.{Raise}
use Rattle.polcert_answer.specs.Answer.{IsButForMemory}
use Rattle.polcert_bound_answer.specs.Headline.{BoundCertificate, IsCertifiedBound}
use Rattle.polcert_bound_answer.specs.Answer.{IsBoundAnswer}
use Rattle.polcert_bound_answer.specs.Run.{AreBoundTexts, IsBoundCheckFault}

-- what a raise may answer: what a check may, and that the vectors can't be raised
abbrev pub IsBoundRaiseFault : RunFault → Type 0
IsBoundRaiseFault (Raise fault) = Unit {0}
IsBoundRaiseFault fault = IsBoundCheckFault fault

-- ---- why vectors aren't raised

-- The fault of a run: the action stands as the node that takes it, in the graph whose node a takes action a.
abbrev pub raise_fault : InformedRaiseFault → RaiseFault
raise_fault (NoConstant a s amount) = raises.NoConstant a s amount
raise_fault OutOfRange = raises.OutOfRange

-- a reason of the definition, or out of memory if there is a constant
abbrev pub IsWhyNotBoundRaised : CellTable → PolicyVectors → RaiseFault → Type 0
IsWhyNotBoundRaised t v raises.Memory = (by : ℤ) × IsRaiseConstant t v by
IsWhyNotBoundRaised t v fault = (informed : InformedRaiseFault) × (fault ≡ raise_fault informed) × HasNoInformedRaise t v informed

module _ (of_model of_vectors : List ℕ → Type 0) where
  -- This is the least constant by which the vectors of the second source can be raised to pass, and the text is the full form of the
  -- vectors raised by it. The answer to the first text and this one is yes, every answer to them is, unless memory ran out, and the
  -- headline holds of them.
  pub record HasRaisedBound (by : ℤ) (text : List ℕ) : Type 0 where
    pub texts : AreBoundTexts of_model of_vectors
    pub least : (c : BoundCertificate texts.model texts.vectors) → IsRaiseConstant (table_of c.meaning) c.values by
    pub is_text : (c : BoundCertificate texts.model texts.vectors) → text ≡ vectors_text (action_graph (actions_of c.meaning)) (shifted_by c.values by)
    pub answer : IsBoundAnswer texts.model text (Ok Yes)
    pub only_yes : (result : Result InformedVerdict Fault) → IsBoundAnswer texts.model text result → IsButForMemory Yes result
    pub promise : IsCertifiedBound texts.model text

  -- The texts of the two sources denote a model and vectors, and no constant raises these so that they pass, for this reason; or there is
  -- such a constant, and memory ran out.
  pub record IsBoundNotRaisable (fault : RaiseFault) : Type 0 where
    pub texts : AreBoundTexts of_model of_vectors
    pub reason : (c : BoundCertificate texts.model texts.vectors) → IsWhyNotBoundRaised (table_of c.meaning) c.values fault

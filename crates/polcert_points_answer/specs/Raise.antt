-- What the run that raises points promises.
use Rattle.std.specs.Prelude.{◌≡◌, ◌⊎◌, ℕ, ◌≤◌, ℤ, pos, List, Result, Ok, length}
use Rattle.polcert_text.specs.Cut.{text_limit}
use Rattle.polcert_cells.specs.Meaning.{Meaning, actions_of}
use Rattle.polcert_cells.specs.Tables.{CellTable, table_of}
use Rattle.polcert_policy.specs.ActionVectors.{action_graph}
use Rattle.polcert_policy.specs.FullForm.{vectors_text}
use Rattle.polcert_policy.specs.Points.{PointValues}
use Rattle.polcert_policy.specs.Vectors.{PolicyVectors, shifted_by, value_of}
use Rattle.polcert_points_form.specs.FullForm.{points_text}
use Rattle.polcert_points_form.specs.RaisedSet.{raised_set}
use Rattle.polcert_check.specs.declared.fault.RaiseFault.{RaiseFault}
use Rattle.polcert_check.specs.declared.fault.RaiseFault.TheVariants as raises
use Rattle.polcert_optimum.specs.InformedRaise.{IsRaiseConstant}
use Rattle.polcert_points.specs.RaisedPoints.{IsLeastPointRaise, IsNoPointRaise}
use Rattle.polcert_answer.specs.declared.fault.Fault.{Fault}
use Rattle.polcert_answer.specs.declared.fault.RunFault.{RunFault}
use Rattle.polcert_answer.specs.declared.fault.RunFault.TheVariants.{Raise}
use Rattle.polcert_answer.specs.Answer.{IsButForMemory}
use Rattle.polcert_bound_answer.specs.Raise.{IsWhyNotBoundRaised}
use Rattle.polcert_points_answer.specs.declared.verdict.PointBoundVerdict.{PointBoundVerdict}
use Rattle.polcert_points_answer.specs.declared.verdict.PointBoundVerdict.TheVariants.{Yes}
use Rattle.polcert_points_answer.specs.Headline.{PointCertificate, IsCertifiedByPoints}
use Rattle.polcert_points_answer.specs.Answer.{IsPointBoundAnswer}
use Rattle.polcert_points_answer.specs.Run.{ArePointTexts, IsPointCheckFault}

-- what a raise may answer: the same as a check, and that vectors or points can't be raised
abbrev pub IsPointRaiseFault : RunFault → Type 0
IsPointRaiseFault (Raise fault) = Unit {0}
IsPointRaiseFault fault = IsPointCheckFault fault

-- the vectors raised by their least constant, as `polcert_bound raise` prints them
abbrev pub raised_vectors_text : Meaning → PolicyVectors → ℤ → List ℕ
raised_vectors_text m v up = vectors_text (action_graph (actions_of m)) (shifted_by v up)

-- by this constant the points pass with the vectors raised by their least one
abbrev pub IsPointRaiseOver : CellTable → PolicyVectors → PointValues → ℤ → ℕ → Type 0
IsPointRaiseOver t v p up by = IsRaiseConstant t v up × IsLeastPointRaise t (value_of (shifted_by v up)) p by

-- Why points aren't raised: the vectors can't be; or with the raised vectors no constant that leaves every value in range makes the points
-- pass; or memory ran out for raised vectors or charges.
abbrev pub IsWhyPointsNotRaised : CellTable → PolicyVectors → PointValues → RaiseFault → Type 0
IsWhyPointsNotRaised t v p raises.OutOfRange = IsWhyNotBoundRaised t v raises.OutOfRange ⊎ ((up : ℤ) × IsRaiseConstant t v up × IsNoPointRaise t (value_of (shifted_by v up)) p)
IsWhyPointsNotRaised t v p fault = IsWhyNotBoundRaised t v fault

module _ (of_model of_vectors of_points : List ℕ → Type 0) where
  -- The text is the full form of the points of the third source, raised by the least constant by which they pass with the vectors of the
  -- second, raised by theirs. With the text that a raise of these alone prints, the answer is yes, every answer is, unless memory ran out,
  -- and the headline holds: if the text is no longer than a text may be. So it is with the second source's own text, if its vectors pass.
  pub record HasRaisedPoints (by : ℕ) (text : List ℕ) : Type 0 where
    pub texts : ArePointTexts of_model of_vectors of_points
    pub up : ℤ
    pub least : (c : PointCertificate texts.model texts.vectors texts.points) → IsPointRaiseOver (table_of c.meaning) c.values c.set up by
    pub is_text : (c : PointCertificate texts.model texts.vectors texts.points) → text ≡ points_text (raised_set c.set by)
    pub answer : (c : PointCertificate texts.model texts.vectors texts.points) → length text ≤ text_limit → IsPointBoundAnswer texts.model (raised_vectors_text c.meaning c.values up) text (Ok Yes)
    pub only_yes : (c : PointCertificate texts.model texts.vectors texts.points) → length text ≤ text_limit → (result : Result PointBoundVerdict Fault)
        → IsPointBoundAnswer texts.model (raised_vectors_text c.meaning c.values up) text result → IsButForMemory Yes result
    pub promise : (c : PointCertificate texts.model texts.vectors texts.points) → length text ≤ text_limit → IsCertifiedByPoints texts.model (raised_vectors_text c.meaning c.values up) text
    pub as_given : up ≡ pos 0 → length text ≤ text_limit → IsPointBoundAnswer texts.model texts.vectors text (Ok Yes)

  -- the texts of the three sources denote a model, vectors and points, and these aren't raised for this reason
  pub record ArePointsNotRaisable (fault : RaiseFault) : Type 0 where
    pub texts : ArePointTexts of_model of_vectors of_points
    pub reason : (c : PointCertificate texts.model texts.vectors texts.points) → IsWhyPointsNotRaised (table_of c.meaning) c.values c.set fault

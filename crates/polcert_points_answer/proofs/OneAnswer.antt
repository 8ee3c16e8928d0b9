-- Three texts have one answer, unless memory ran out.
use Rattle.std.proofs.Common.{◌≡◌, ℕ, ℤ, pos, ◌<ℤ◌, List, Result, Ok, Err, refl, sym, subst, arith}
use Rattle.polcert_points_answer.proofs.Common.{Fault, Graph, Model, Points, Vectors, actions_of, observations_of, states_of, CellTable}
use Rattle.polcert_points_answer.proofs.Common.{table_of, AreInformed, IsInformedVerdict, FitPoints, PointTable, table_of_set}
use Rattle.polcert_points_answer.proofs.Common.{IsPointVerdict, PointValues, IsNoPointsText, IsPointsText, PolicyVectors, value_of}
use Rattle.polcert_points_answer.proofs.Common.{PointFault, IsPointBoundAnswer, IsPointBoundVerdict, PointCertificate, PointBoundVerdict}
use Rattle.polcert_points_answer.proofs.Common.{PointExceeded, VectorExceeded, Yes}
use Rattle.polcert_policy.specs.declared.fault.PointFault.TheVariants as faults
use Rattle.polcert_policy.proofs.OnePointsRefusal as point_refusals
use Rattle.polcert_optimum.specs.declared.verdict.InformedVerdict.TheVariants as informed
use Rattle.polcert_points.specs.declared.point_verdict.PointVerdict.{PointVerdict}
use Rattle.polcert_points.specs.declared.point_verdict.PointVerdict.TheVariants as points
use Rattle.polcert_points.proofs.OnePoints.{one_point_verdict}
use Rattle.polcert_answer.specs.Answer.{IsOutOfMemory, IsButForMemory}
use Rattle.polcert_bound_answer.specs.Answer.{IsBoundAnswer}
use Rattle.polcert_bound_answer.proofs.Denoted as bound
use Rattle.polcert_bound_answer.proofs.OneAnswer as two_texts
use Rattle.polcert_bound_answer.proofs.OneInformed.{one_informed_verdict}
use Rattle.polcert_points_answer.proofs.Denoted.{bound_of, fit_points}

-- ---- one verdict
informed_part : (t : CellTable) (xs : ℕ → ℕ → ℤ) (p : PointTable) (a s : ℕ) (amount : ℤ) → IsInformedVerdict t xs informed.Yes
    → IsInformedVerdict t xs (informed.Exceeded a s amount) → ⊥
informed_part t xs p a s amount h g = let same : informed.Yes ≡ informed.Exceeded a s amount =
    one_informed_verdict t xs informed.Yes (informed.Exceeded a s amount) h g in cc

module _ (t : CellTable) (xs : ℕ → ℕ → ℤ) (p : PointTable) (fit : FitPoints t p) where
  of_points : (x y : PointVerdict) → IsPointVerdict t xs p x → IsPointVerdict t xs p y → x ≡ y
  of_points = one_point_verdict t xs p fit

  pub one_bound_verdict : (x y : PointBoundVerdict) → IsPointBoundVerdict t xs p x → IsPointBoundVerdict t xs p y → x ≡ y
  one_bound_verdict Yes Yes h g = refl
  one_bound_verdict Yes (VectorExceeded a s amount) h g = absurd (informed_part t xs p a s amount h.0 g)
  one_bound_verdict Yes (PointExceeded i a amount) h g = let same : points.Yes ≡ points.Exceeded i a amount =
      of_points points.Yes (points.Exceeded i a amount) h.1 g.1 in cc
  one_bound_verdict (VectorExceeded a s amount) Yes h g = absurd (informed_part t xs p a s amount g.0 h)
  one_bound_verdict (VectorExceeded a s amount) (VectorExceeded b u other) h g =
      let same : informed.Exceeded a s amount ≡ informed.Exceeded b u other =
      one_informed_verdict t xs (informed.Exceeded a s amount) (informed.Exceeded b u other) h g in cc
  one_bound_verdict (VectorExceeded a s amount) (PointExceeded i b other) h g = absurd (informed_part t xs p a s amount g.0 h)
  one_bound_verdict (PointExceeded i a amount) Yes h g = let same : points.Exceeded i a amount ≡ points.Yes =
      of_points (points.Exceeded i a amount) points.Yes h.1 g.1 in cc
  one_bound_verdict (PointExceeded i a amount) (VectorExceeded b s other) h g = absurd (informed_part t xs p b s other h.0 g)
  one_bound_verdict (PointExceeded i a amount) (PointExceeded j b other) h g =
      let same : points.Exceeded i a amount ≡ points.Exceeded j b other =
      of_points (points.Exceeded i a amount) (points.Exceeded j b other) h.1 g.1 in cc

-- ---- no refusal beside a verdict
points_memory : (states actions observations : ℕ) (text : List ℕ) (f : PointFault) (p : PointValues)
    → IsNoPointsText states actions observations text f → IsPointsText states actions observations text p → f ≡ faults.Memory
points_memory states actions observations text faults.Memory p refused are = refl
points_memory states actions observations text _ p refused are = absurd (refused p are)

module _ (model vectors points : List ℕ) where
  pub one_verdict : (x y : PointBoundVerdict) → IsPointBoundAnswer model vectors points (Ok x)
      → IsPointBoundAnswer model vectors points (Ok y) → x ≡ y
  one_verdict x y h g = one_bound_verdict (table_of h.0.meaning) (value_of h.0.values) (table_of_set h.0.set) (fit_points h.0) x y
      (h.1 h.0)
      (g.1 h.0)

  -- a verdict on three texts: the first two have one alone
  has_bound : (c : PointCertificate model vectors points) → (verdict : _)
      → IsInformedVerdict (table_of c.meaning) (value_of c.values) verdict → IsBoundAnswer model vectors (Ok verdict)
  has_bound c verdict is = (bound_of c, bound.verdict_of_each c.meaning c.values c.is_model c.are_vectors verdict is)

  bound_refusal : (x : PointBoundVerdict) (fault : Fault) → IsPointBoundAnswer model vectors points (Ok x)
      → IsBoundAnswer model vectors (Err fault) → IsOutOfMemory fault
  bound_refusal Yes fault h refused = two_texts.no_refusal model vectors informed.Yes fault (has_bound h.0 informed.Yes (h.1 h.0).0)
      refused
  bound_refusal (VectorExceeded a s amount) fault h refused =
      two_texts.no_refusal model vectors (informed.Exceeded a s amount) fault (has_bound h.0 (informed.Exceeded a s amount) (h.1 h.0))
      refused
  bound_refusal (PointExceeded i a amount) fault h refused =
      two_texts.no_refusal model vectors informed.Yes fault (has_bound h.0 informed.Yes (h.1 h.0).0) refused

  pub no_refusal : (x : PointBoundVerdict) (fault : Fault) → IsPointBoundAnswer model vectors points (Ok x)
      → IsPointBoundAnswer model vectors points (Err fault) → IsOutOfMemory fault
  no_refusal x (Model f) h refused = bound_refusal x (Model f) h refused
  no_refusal x (Graph f) h refused = bound_refusal x (Graph f) h refused
  no_refusal x (Vectors f) h refused = bound_refusal x (Vectors f) h refused
  no_refusal x (Points f) h refused =
      let memory = points_memory (states_of h.0.meaning) (actions_of h.0.meaning) (observations_of h.0.meaning) points f h.0.set
      (refused.no_points h.0.meaning h.0.is_model) h.0.are_points in
      subst (λ (g : PointFault). IsOutOfMemory (Points g)) (sym memory) tt

  pub one_refusal : (f g : PointFault) → (f ≡ faults.Memory → ⊥) → (g ≡ faults.Memory → ⊥)
      → IsPointBoundAnswer model vectors points (Err (Points f)) → IsPointBoundAnswer model vectors points (Err (Points g)) → f ≡ g
  one_refusal f g f_says g_says h other =
      point_refusals.one_refusal (states_of h.meaning) (actions_of h.meaning) (observations_of h.meaning) points f g f_says g_says
      (h.refusal h.meaning h.has_vectors.is_model) (other.refusal h.meaning h.has_vectors.is_model)

  -- beside a verdict there is no other answer
  pub but_for_memory : (x : PointBoundVerdict) → IsPointBoundAnswer model vectors points (Ok x) → (r : Result PointBoundVerdict Fault)
      → IsPointBoundAnswer model vectors points r → IsButForMemory x r
  but_for_memory x h (Ok y) other = one_verdict y x other h
  but_for_memory x h (Err fault) other = no_refusal x fault h other

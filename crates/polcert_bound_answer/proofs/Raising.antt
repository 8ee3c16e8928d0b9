-- What the run that raises says, from what its calls say of what the texts of two sources denote.
use Rattle.std.proofs.Common.{◌≡◌, ◌∙◌, ℕ, ◌<◌, ℤ, ◌+ℤ◌, List, Result, Ok, Err, IfErr, sym, ap, subst, arith}
use Rattle.polcert_bound_answer.proofs.Common.{Up, Meaning, IsSame, states_of, actions_of, HasSameCells, CellTable, table_of, IsModelText}
use Rattle.polcert_bound_answer.proofs.Common.{PolicyVectors, value_of, shifted_by, action_graph, IsActionVectorsText, InformedVerdict, Yes}
use Rattle.polcert_bound_answer.proofs.Common.{Exceeded, FitActions, AreInformed, RunFault, BoundCertificate, IsBoundAnswer}
use Rattle.polcert_bound_answer.proofs.Common.{AreBoundDenoted, IsBoundReadFault, IsBoundWriteFault}
use Rattle.polcert_policy.specs.Graphs.{PolicyGraph}
use Rattle.polcert_policy.specs.Vectors.{CanShift}
use Rattle.polcert_policy.specs.VectorText.{IsRoundedVectorsText}
use Rattle.polcert_policy.specs.FullForm.{vectors_text}
use Rattle.polcert_check.specs.declared.fault.RaiseFault.{RaiseFault}
use Rattle.polcert_check.specs.declared.fault.RaiseFault.TheVariants as faults
use Rattle.polcert_check.proofs.Agreements.SameModels.{same_cells}
use Rattle.polcert_optimum.specs.declared.fault.InformedRaiseFault.{InformedRaiseFault}
use Rattle.polcert_optimum.specs.declared.fault.InformedRaiseFault.TheVariants.{NoConstant, OutOfRange}
use Rattle.polcert_optimum.specs.InformedCheck.{NamesSmallExcess}
use Rattle.polcert_optimum.specs.InformedRaise.{vectors_raised_by, IsLeastInformedRaise, IsRaiseConstant, HasNoInformedRaise}
use Rattle.polcert_answer.specs.declared.fault.RunFault.TheVariants.{Raise}
use Rattle.polcert_answer.proofs.Denoted.{same_actions}
use Rattle.polcert_bound_answer.specs.Raise.{HasRaisedBound, IsBoundNotRaisable, IsBoundRaiseFault, IsWhyNotBoundRaised, raise_fault}
use Rattle.polcert_bound_answer.specs.Steps.Raising.{AreBoundRaised}
use Rattle.polcert_bound_answer.proofs.OneAnswer.{but_for_memory}
use Rattle.polcert_bound_answer.proofs.SameInformed.{all_there, all_back, verdict_there, informed_of}
use Rattle.polcert_bound_answer.proofs.Denoted.{certificate_of, of_each, verdict_of_each, yes_certified}
use Rattle.polcert_bound_answer.proofs.Passing.{each_fault}
use Rattle.polcert_bound_answer.proofs.Answering.{texts_of}

-- ---- tables with the same cells have the same constants and reasons
module _ (t u : CellTable) (same : HasSameCells t u) where
  least_there : (vectors : ℕ → ℕ → ℤ) (by : ℕ) → IsLeastInformedRaise t vectors by → IsLeastInformedRaise u vectors by
  least_there vectors by h = (
    all_there t u same (vectors_raised_by vectors by) h.0,
    λ d less informed. h.1 d less
        (all_back t u same (vectors_raised_by vectors d) informed),
  )

  constant_there : (v : PolicyVectors) (x : ℤ) → IsRaiseConstant t v x → IsRaiseConstant u v x
  constant_there v x (by, is, least, room) = (by, is, least_there (value_of v) by least, room)

  small_there : (verdict : InformedVerdict) → NamesSmallExcess t verdict → NamesSmallExcess u verdict
  small_there verdict h1 = grind arith

  reason_there : (v : PolicyVectors) (fault : InformedRaiseFault) → HasNoInformedRaise t v fault → HasNoInformedRaise u v fault
  reason_there v (NoConstant a s amount) (none, is, small) = (
    (λ by informed. none by (all_back t u same (vectors_raised_by (value_of v) by) informed)),
    verdict_there t u same (value_of v)
        (Exceeded a s amount) is,
    small_there (Exceeded a s amount) small,
  )
  reason_there v OutOfRange (by, least, no_room) = (by, least_there (value_of v) by least, no_room)

why_there : (m n : Meaning) (v : PolicyVectors) → IsSame m n → (fault : RaiseFault) → IsWhyNotBoundRaised (table_of m) v fault
    → IsWhyNotBoundRaised (table_of n) v fault
why_there m n v same faults.Memory (by, h) = (by, constant_there (table_of m) (table_of n) (same_cells m n same) v by h)
why_there m n v same (faults.NoConstant a s amount) (informed, is, why) =
    (informed, is, reason_there (table_of m) (table_of n) (same_cells m n same) v informed why)
why_there m n v same faults.OutOfRange (informed, is, why) =
    (informed, is, reason_there (table_of m) (table_of n) (same_cells m n same) v informed why)
why_there m n v same (faults.NoSuccessor a s z) (informed, is, why) =
    (informed, is, reason_there (table_of m) (table_of n) (same_cells m n same) v informed why)

-- ---- what is said of what two texts denote is said of whatever they denote
module _ {model vectors : List ℕ} (m : Meaning) (v : PolicyVectors) (is : IsModelText model m)
    (are : IsActionVectorsText (actions_of m) (states_of m) vectors v) where
  pub constant_of_each : (by : ℤ) → IsRaiseConstant (table_of m) v by → (c : BoundCertificate model vectors)
      → IsRaiseConstant (table_of c.meaning) c.values by
  constant_of_each by h = of_each m v is are (λ n w. IsRaiseConstant (table_of n) w by)
      (λ n same. constant_there (table_of m) (table_of n) (same_cells m n same) v by h)

  pub why_of_each : (fault : RaiseFault) → IsWhyNotBoundRaised (table_of m) v fault → (c : BoundCertificate model vectors)
      → IsWhyNotBoundRaised (table_of c.meaning) c.values fault
  why_of_each fault h = of_each m v is are (λ n w. IsWhyNotBoundRaised (table_of n) w fault) (λ n same. why_there m n v same fault h)

  pub text_of_each : (by : ℤ) (c : BoundCertificate model vectors)
      → vectors_text (action_graph (actions_of m)) (shifted_by v by)
      ≡ vectors_text (action_graph (actions_of c.meaning)) (shifted_by c.values by)
  text_of_each by = of_each m v is are (λ n w. vectors_text (action_graph (actions_of m)) (shifted_by v by)
      ≡ vectors_text (action_graph (actions_of n)) (shifted_by w by))
      (λ n same. ap (λ (a : ℕ). vectors_text (action_graph a) (shifted_by v by)) (same_actions same))

-- ---- the texts of two sources
module _ (of_model of_vectors : List ℕ → Type 0) (m : Meaning) (v : PolicyVectors) (d : AreBoundDenoted of_model of_vectors m v) where
  -- the raised vectors, as they are written and read back
  pub has_raised : (by : ℤ) (text : List ℕ) → AreBoundRaised m v by text → HasRaisedBound of_model of_vectors by text
  has_raised by text are =
      let w : PolicyVectors = shifted_by v by in
      let passed : IsBoundAnswer d.first text (Ok Yes) = (
        certificate_of m w d.is_model are.reads_back,
        verdict_of_each m w d.is_model
            are.reads_back Yes are.informed,
      ) in
      record {
        texts = texts_of of_model of_vectors m v d;
        least = constant_of_each m v d.is_model d.are_vectors by are.constant;
        is_text = λ c. are.text_is ∙ text_of_each m v d.is_model d.are_vectors by c;
        answer = passed;
        only_yes = but_for_memory d.first text Yes passed;
        promise = yes_certified d.first text passed;
      }

  pub not_raisable : (fault : RaiseFault) → IsWhyNotBoundRaised (table_of m) v fault → IsBoundNotRaisable of_model of_vectors fault
  not_raisable fault why = record {
    texts = texts_of of_model of_vectors m v d;
    reason =
        why_of_each m v d.is_model d.are_vectors fault why;
  }

-- why vectors are not raised
pub why_of : (t : CellTable) (v : PolicyVectors) (informed : InformedRaiseFault) → HasNoInformedRaise t v informed
    → IsWhyNotBoundRaised t v (raise_fault informed)
why_of t v informed h1 = grind arith

-- the least constant leaves every value in range
pub can_shift : (t : CellTable) (v : PolicyVectors) (by : ℤ) → IsRaiseConstant t v by → CanShift v by
can_shift t v by (k, is, least, room) = subst (λ (x : ℤ). CanShift v x) (sym is) room

-- raised vectors are informed
pub raised_informed : (t : CellTable) (v : PolicyVectors) (by : ℤ) → FitActions t v → IsRaiseConstant t v by
    → ((n s : ℕ) → n < v.nodes → s < v.states → value_of (shifted_by v by) n s ≡ value_of v n s +ℤ by)
    → AreInformed t (value_of (shifted_by v by))
raised_informed t v by fit (k, is, least, room) shifted =
    informed_of t (vectors_raised_by (value_of v) k) (value_of (shifted_by v by))
    (λ a s al sl. ap (λ (x : ℤ). value_of v a s +ℤ x) (sym is)
    ∙ sym (shifted a s (subst (λ (n : ℕ). a < n) (sym fit.actions) al) (subst (λ (n : ℕ). s < n) (sym fit.states) sl)))
    least.0

-- what is known of raised vectors and of their full form, written for the graph of actions
pub raised_text : (m : Meaning) (v : PolicyVectors) (by : ℤ) (w : PolicyVectors) (g : PolicyGraph) → g ≡ action_graph (actions_of m)
    → w ≡ shifted_by v by → v.states ≡ states_of m → IsRaiseConstant (table_of m) v by
    → AreInformed (table_of m) (value_of w) → IsRoundedVectorsText Up g w.states (vectors_text g w) w
    → AreBoundRaised m v by (vectors_text g w)
raised_text m v by w g graph_is shifted states constant informed reads_back = grind arith

-- ---- kinds of faults
pub read_in_raise : (f : RunFault) → IsBoundReadFault f → IsBoundRaiseFault f
read_in_raise f h1 = grind arith

written_in_raise : (f : RunFault) → IsBoundWriteFault f → IsBoundRaiseFault f
written_in_raise f h1 = grind arith

pub raised_in_raise : {T : Type 0} (r : Result T RunFault) → IfErr r IsBoundWriteFault → IfErr r IsBoundRaiseFault
raised_in_raise r of = each_fault IsBoundWriteFault IsBoundRaiseFault written_in_raise r of

pub same_raise : {V : Type 0} (a b : RaiseFault) (r : Result V RunFault) → r ≡ Err (Raise a) → r ≡ Err (Raise b) → a ≡ b
same_raise a b r e f = cc

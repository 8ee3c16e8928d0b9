-- What a run hands on: the fault of a read, and what the call that writes said.
use Rattle.std.proofs.Common.{◌≡◌, ℕ, List, Option, Result, Ok, Err, IfErr, refl, sym, subst, arith}
use Rattle.polcert_points_answer.proofs.Common.{Model, Points, Vectors, RunFault, Text, Write, PointFault, ArePointsRefused}
use Rattle.polcert_points_answer.proofs.Common.{RefusesPointsRightly, IsPointCheckFault, IsPointReadFault, IsPointWriteFault}
use Rattle.polcert_format.specs.declared.fault.ModelFault.{ModelFault}
use Rattle.polcert_policy.specs.declared.fault.PointFault.TheVariants as faults
use Rattle.polcert_policy.specs.declared.fault.VectorFault.{VectorFault}
use Rattle.polcert_answer.specs.declared.fault.RunFault.TheVariants.{ReadModel, ReadPoints, ReadVectors}
use Rattle.polcert_answer.proofs.ReadInTurn.{not_named, unnamed}
use Rattle.polcert_text.specs.Source.{IsText, EachTextThatFits}
use Rattle.polcert_answer.specs.Run.{IsNamedRightly, WritesAnswer}
use Rattle.polcert_bound_answer.specs.Run.{NamesBoundSourcesRightly, RefusesBoundRightly, ReadsModelFirst}
use Rattle.polcert_bound_answer.specs.Inputs.{IsBoundReadFault}
use Rattle.polcert_points_answer.specs.Run.{NamesPointSourcesRightly, ReadsPointsLast, StopsPointsRightly}

-- ---- kinds of faults
pub read_in_check : (f : RunFault) → IsPointReadFault f → IsPointCheckFault f
read_in_check f h1 = grind arith

pub write_in_check : (f : RunFault) → IsPointWriteFault f → IsPointCheckFault f
write_in_check f h1 = grind arith

-- a fault of the first two texts is one of the three
pub read_of_bound : (f : RunFault) → IsBoundReadFault f → IsPointReadFault f
read_of_bound f h1 = grind arith

-- a source of points is as it was if one before it is at fault
pub bound_in_order : {V P : Type 0} (given : RunFault) (vectors vectors' : V) (points : P) → IsBoundReadFault given
    → ReadsModelFirst given vectors vectors' → ReadsPointsLast given vectors vectors' points points
bound_in_order given vectors vectors' points of read = grind arith

-- ---- the fault of a read
module _ {T : Type 0} (r : Result T RunFault) (given : RunFault) (e : r ≡ Err given) where
  pub nothing_written : IsPointReadFault given → {X : Type 0} {writes : X → Option (List ℕ) → X → Type 0} (Belongs : T → List ℕ → Type 0)
      (old new : X) → WritesAnswer writes Belongs r old new
  nothing_written of Belongs old new = grind arith

  module _ {U M V P W : Type 0}
      {model_reads : M → ℕ → Option (List ℕ) → M → Type 0} {model_failures : M → ℕ} {model model' : M}
      {vectors_reads : V → ℕ → Option (List ℕ) → V → Type 0} {vectors_failures : V → ℕ} {vectors vectors' : V}
      {points_reads : P → ℕ → Option (List ℕ) → P → Type 0} {points_failures : P → ℕ} {points points' : P}
      {sink_failures : W → ℕ} {sink : W} where
    pub stops_again : IsPointReadFault given
        → RefusesPointsRightly {T = U} (Err given) model_reads model model' vectors_reads vectors vectors' points_reads points points'
        → NamesPointSourcesRightly {T = U} (Err given) model_failures model model' vectors_failures vectors vectors' points_failures points
        points'
        → ReadsPointsLast given vectors vectors' points points'
        → StopsPointsRightly r model_reads model_failures model model' vectors_reads vectors_failures vectors vectors' points_reads
        points_failures points points' sink_failures sink sink
    stops_again of refused read in_order = grind arith

-- every source was read to its end
points_last : {T V P : Type 0} (vectors vectors' : V) (points points' : P) (r : Result T RunFault) → IfErr r IsPointWriteFault
    → IfErr r (λ fault. ReadsPointsLast fault vectors vectors' points points')
points_last vectors vectors' points points' r of = grind arith

-- ---- the answer of the call that writes
module _ {T : Type 0} (r : Result T RunFault) (of_writing : IfErr r IsPointWriteFault) where
  pub write_fault : (x : RunFault) → r ≡ Err x → IsPointWriteFault x
  write_fault x same = subst (λ (y : Result T RunFault). IfErr y IsPointWriteFault) same of_writing

  -- no text of the three but that of points is refused, and that for want of memory alone
  no_model : (fault : ModelFault) → r ≡ Err (Text (Model fault)) → ⊥
  no_model fault same = write_fault (Text (Model fault)) same

  no_vectors : (fault : VectorFault) → r ≡ Err (Text (Vectors fault)) → ⊥
  no_vectors fault same = write_fault (Text (Vectors fault)) same

  unnamed_again : {U : Type 0} (x : RunFault) (before after : ℕ) (u : U) → (IsPointWriteFault x → ⊥)
      → IsNamedRightly (◌≡◌ {A = Result U RunFault} (Ok u) (Err x)) before after → IsNamedRightly (r ≡ Err x) before after
  unnamed_again x before after u none h = not_named before after (λ same. none (write_fault x same)) (unnamed u x before after h)

  only_memory : (fault : PointFault) → IsPointWriteFault (Text (Points fault)) → fault ≡ faults.Memory
  only_memory faults.Memory of = refl
  only_memory (faults.Token f) of = absurd of
  only_memory (faults.Number f place) of = absurd of
  only_memory (faults.BadShape place) of = absurd of
  only_memory (faults.PointOutOfOrder place) of = absurd of
  only_memory (faults.WrongMass place) of = absurd of
  only_memory (faults.NextOutOfRange i a z) of = absurd of
  only_memory (faults.Truncated place) of = absurd of
  only_memory (faults.TooManyPoints place) of = absurd of

  module _ {U M V P W : Type 0}
      {model_reads : M → ℕ → Option (List ℕ) → M → Type 0} {model_failures : M → ℕ} {model model' : M}
      {vectors_reads : V → ℕ → Option (List ℕ) → V → Type 0} {vectors_failures : V → ℕ} {vectors vectors' : V}
      {points_reads : P → ℕ → Option (List ℕ) → P → Type 0} {points_failures : P → ℕ} {points points' : P}
      {sink_failures : W → ℕ} {sink sink' : W} where
    pub stops_after : (u : U) → NamesPointSourcesRightly (Ok u) model_failures model model' vectors_failures vectors vectors'
        points_failures points points'
        → ((first second : List ℕ) × IsText model_reads model first model' × IsText vectors_reads vectors second vectors'
        × EachTextThatFits points_reads points points' (ArePointsRefused first second faults.Memory))
        → IsNamedRightly (r ≡ Err Write) (sink_failures sink) (sink_failures sink')
        → ((fault : RunFault) → r ≡ Err fault → (fault ≡ Write → ⊥) → sink' ≡ sink)
        → StopsPointsRightly r model_reads model_failures model model' vectors_reads vectors_failures vectors vectors' points_reads
        points_failures points points' sink_failures sink sink'
    stops_after u read memory write untouched = record {
      refused = record {
        of_model = λ fault same. absurd (no_model fault same);
        of_vectors = λ fault same. absurd (no_vectors fault same);
        of_points = λ fault same.
            subst (λ (f : PointFault). (first second : List ℕ) × IsText model_reads model first model'
            × IsText vectors_reads vectors second vectors' × EachTextThatFits points_reads points points'
            (ArePointsRefused first second f))
            (sym (only_memory fault (write_fault (Text (Points fault)) same))) memory;
      };
      read = record {
        of_model = unnamed_again ReadModel _ _ u (λ of. of) read.of_model;
        of_vectors = unnamed_again ReadVectors _ _ u (λ of. of) read.of_vectors;
        of_points = unnamed_again ReadPoints _ _ u (λ of. of) read.of_points;
      };
      write = write;
      in_order = points_last _ _ _ _ r of_writing;
      untouched = untouched;
    }

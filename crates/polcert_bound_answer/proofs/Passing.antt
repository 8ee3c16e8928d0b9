-- What a run hands on: the fault of a read, and what the call that writes said.
use Rattle.std.proofs.Common.{◌≡◌, ℕ, List, Option, Result, Ok, Err, IfErr, arith}
use Rattle.polcert_bound_answer.proofs.Common.{RunFault, RefusesBoundRightly, IsBoundCheckFault, IsBoundReadFault, IsBoundWriteFault}
use Rattle.polcert_answer.specs.declared.fault.RunFault.TheVariants.{Write}
use Rattle.polcert_answer.specs.Run.{IsNamedRightly}
use Rattle.polcert_answer.specs.Steps.Reading.{IsReadFault}
use Rattle.polcert_bound_answer.specs.Run.{NamesBoundSourcesRightly, ReadsModelFirst, StopsBoundRightly}

-- ---- kinds of faults
pub is_read : (f : RunFault) → IsBoundReadFault f → IsReadFault f
is_read f h1 = grind arith

pub read_in_check : (f : RunFault) → IsBoundReadFault f → IsBoundCheckFault f
read_in_check f h1 = grind arith

-- what holds of each fault of one kind
pub each_fault : {T : Type 0} (P Q : RunFault → Type 0) → ((f : RunFault) → P f → Q f) → (r : Result T RunFault) → IfErr r P → IfErr r Q
each_fault P Q h1 r h2 = grind arith

-- ---- the fault of a read
module _ {T : Type 0} (r : Result T RunFault) (given : RunFault) (e : r ≡ Err given) where
  module _ {U M V W : Type 0}
      {model_reads : M → ℕ → Option (List ℕ) → M → Type 0} {model_failures : M → ℕ} {model model' : M}
      {vectors_reads : V → ℕ → Option (List ℕ) → V → Type 0} {vectors_failures : V → ℕ} {vectors vectors' : V}
      {sink_failures : W → ℕ} {sink : W} where
    pub stops_again : IsBoundReadFault given
        → RefusesBoundRightly {T = U} (Err given) model_reads model model' vectors_reads vectors vectors'
        → NamesBoundSourcesRightly {T = U} (Err given) model_failures model model' vectors_failures vectors vectors'
        → ReadsModelFirst given vectors vectors'
        → StopsBoundRightly r model_reads model_failures model model' vectors_reads vectors_failures vectors vectors' sink_failures sink
        sink
    stops_again of refused read in_order = grind arith

-- ---- the answer of the call that writes
module _ {T : Type 0} (r : Result T RunFault) (of_writing : IfErr r IsBoundWriteFault) {U M V W : Type 0}
    {model_reads : M → ℕ → Option (List ℕ) → M → Type 0} {model_failures : M → ℕ} {model model' : M}
    {vectors_reads : V → ℕ → Option (List ℕ) → V → Type 0} {vectors_failures : V → ℕ} {vectors vectors' : V}
    {sink_failures : W → ℕ} {sink sink' : W} where
  pub stops_after : (u : U) → NamesBoundSourcesRightly (Ok u) model_failures model model' vectors_failures vectors vectors'
      → IsNamedRightly (r ≡ Err Write) (sink_failures sink) (sink_failures sink')
      → ((fault : RunFault) → r ≡ Err fault → (fault ≡ Write → ⊥) → sink' ≡ sink)
      → StopsBoundRightly r model_reads model_failures model model' vectors_reads vectors_failures vectors vectors' sink_failures sink sink'
  stops_after u read write untouched = grind arith

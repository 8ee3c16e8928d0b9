-- What a run says of its result: a fault of a read that it hands on, or the answer of the call that writes.
use Rattle.std.proofs.Common.{◌≡◌, ℕ, List, Option, Result, Ok, Err, IfOk, IfErr, subst, sym, arith}
use Rattle.std.specs.Result.{IsErrAnd}
use Rattle.polcert_answer.proofs.Common.{Rounding, RunFault, Write, WritesAnswer, IsNamedRightly, RefusesRightly, ReadsInOrder}
use Rattle.polcert_answer.proofs.Common.{IsCheckRunFault, IsNoReadFault}
use Rattle.polcert_answer.specs.Run.{NamesSourcesRightly, StopsRightly, IsLowerRunFault, IsRaiseRunFault}
use Rattle.polcert_answer.specs.Steps.Reading.{IsReadFault}

pub is_err : {T : Type 0} (r : Result T RunFault) (given : RunFault) → IsErrAnd r (λ f. f ≡ given) → r ≡ Err given
is_err r given h1 = grind arith

pub same_err : {T : Type 0} (f x : RunFault) → ◌≡◌ {A = Result T RunFault} (Err f) (Err x) → f ≡ x
same_err f x same = cc

-- ---- the fault of a read
module _ {T : Type 0} (r : Result T RunFault) (given : RunFault) (e : r ≡ Err given) where
  pub not_ok : (v : T) → r ≡ Ok v → ⊥
  not_ok v same = cc

  pub no_ok : (P : T → Type 0) → IfOk r P
  no_ok P = subst (λ (x : Result T RunFault). IfOk x P) (sym e) tt

  pub of_fault : (P : RunFault → Type 0) → P given → IfErr r P
  of_fault P h = subst (λ (x : Result T RunFault). IfErr x P) (sym e) h

  -- the run answers what the read did
  pub of_read : {U : Type 0} (x : RunFault) → r ≡ Err x → ◌≡◌ {A = Result U RunFault} (Err given) (Err x)
  of_read x same = grind arith

  pub named_again : {U : Type 0} (x : RunFault) (before after : ℕ)
      → IsNamedRightly (◌≡◌ {A = Result U RunFault} (Err given) (Err x)) before after → IsNamedRightly (r ≡ Err x) before after
  named_again x before after h = grind arith

  -- and nothing else
  pub said : (P : RunFault → Type 0) → P given → (x : RunFault) → r ≡ Err x → P x
  said P of x same = grind arith

  -- nothing was answered, and no write failed
  pub nothing_written : IsReadFault given → {W : Type 0} {writes : W → Option (List ℕ) → W → Type 0} (Belongs : T → List ℕ → Type 0)
      (sink sink' : W)
      → WritesAnswer writes Belongs r sink sink'
  nothing_written of Belongs sink sink' = grind arith

  -- how the run stops, then
  module _ {U M G V W : Type 0} {rounding : Rounding}
      {model_reads : M → ℕ → Option (List ℕ) → M → Type 0} {model_failures : M → ℕ} {model model' : M}
      {graph_reads : G → ℕ → Option (List ℕ) → G → Type 0} {graph_failures : G → ℕ} {graph graph' : G}
      {vectors_reads : V → ℕ → Option (List ℕ) → V → Type 0} {vectors_failures : V → ℕ} {vectors vectors' : V}
      {sink_failures : W → ℕ} {sink : W} where
    pub stops_again : IsReadFault given
        → RefusesRightly {T = U} rounding (Err given) model_reads model model' graph_reads graph graph'
        vectors_reads vectors vectors'
        → NamesSourcesRightly {T = U} (Err given) model_failures model model' graph_failures graph graph'
        vectors_failures vectors vectors'
        → ReadsInOrder given graph graph' vectors vectors'
        → StopsRightly rounding r model_reads model_failures model model' graph_reads graph_failures graph
        graph' vectors_reads vectors_failures vectors vectors'
        sink_failures sink sink
    stops_again of refused read in_order = grind arith

-- ---- the answer of the call that writes
pub no_read_fault : (f : RunFault) → IsReadFault f → IsNoReadFault f → ⊥
no_read_fault f h1 h2 = grind arith

-- the faults of a read are among those of each run
pub read_in_check : (f : RunFault) → IsReadFault f → IsCheckRunFault f
read_in_check f h1 = grind arith

pub read_in_lowering : (f : RunFault) → IsReadFault f → IsLowerRunFault f
read_in_lowering f h1 = grind arith

pub read_in_raise : (f : RunFault) → IsReadFault f → IsRaiseRunFault f
read_in_raise f h1 = grind arith

-- how the run stops there
module _ {T : Type 0} (r : Result T RunFault) (none : IfErr r IsNoReadFault) {U M G V W : Type 0}
    {rounding : Rounding}
    {model_reads : M → ℕ → Option (List ℕ) → M → Type 0} {model_failures : M → ℕ} {model model' : M}
    {graph_reads : G → ℕ → Option (List ℕ) → G → Type 0} {graph_failures : G → ℕ} {graph graph' : G}
    {vectors_reads : V → ℕ → Option (List ℕ) → V → Type 0} {vectors_failures : V → ℕ} {vectors vectors' : V}
    {sink_failures : W → ℕ} {sink sink' : W} where
  pub stops_after : (u : U)
      → NamesSourcesRightly (Ok u) model_failures model model' graph_failures graph graph' vectors_failures
      vectors vectors'
      → IsNamedRightly (r ≡ Err Write) (sink_failures sink) (sink_failures sink')
      → ((fault : RunFault) → r ≡ Err fault → (fault ≡ Write → ⊥) → sink' ≡ sink)
      → StopsRightly rounding r model_reads model_failures model model' graph_reads graph_failures graph
      graph' vectors_reads vectors_failures vectors vectors'
      sink_failures sink sink'
  stops_after u read write untouched = grind arith

-- a check answers no other fault than that of a write
module _ {T : Type 0} (r : Result T RunFault) (of_write : IfErr r (λ fault. fault ≡ Write)) where
  pub is_write : (x : RunFault) → r ≡ Err x → x ≡ Write
  is_write x same = subst (λ (y : Result T RunFault). IfErr y (λ fault. fault ≡ Write)) same of_write

  pub of_writing : (P : RunFault → Type 0) → P Write → IfErr r P
  of_writing P h = grind arith

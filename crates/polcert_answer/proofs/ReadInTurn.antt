-- What is said of a source that is read before or after the one that is at fault.
use Rattle.std.proofs.Common.{◌≡◌, ℕ, Result, Ok, Err, arith}
use Rattle.polcert_answer.proofs.Common.{RunFault, IsNamedRightly}

-- the call answered, and named no source
pub answered_well : {U : Type 0} (u : U) (x : RunFault) → ◌≡◌ {A = Result U RunFault} (Ok u) (Err x) → ⊥
answered_well u x same = cc

-- so that no read failed in it
pub unnamed : {U : Type 0} (u : U) (x : RunFault) (before after : ℕ)
    → IsNamedRightly (◌≡◌ {A = Result U RunFault} (Ok u) (Err x)) before after
    → after ≡ before
unnamed u x before after h = grind arith

-- a source in whose reads none failed, where it is not the one that is named
pub not_named : {Named : Type 0} (before after : ℕ) → (Named → ⊥) → after ≡ before
    → IsNamedRightly Named before after
not_named before after none same = grind arith

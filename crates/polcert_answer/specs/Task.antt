-- What a task over three texts came to.
use Rattle.std.specs.Prelude.{◌≡◌, ℕ, Result, Ok, Err}
use Rattle.polcert_answer.specs.declared.fault.RunFault.{RunFault}
use Rattle.polcert_answer.specs.declared.task.Outcome.{Outcome}
use Rattle.polcert_answer.specs.declared.task.Outcome.TheVariants.{Checked, CheckedAbove, Lowered, Raised}
use Rattle.polcert_answer.specs.Status.{verdict_status, above_verdict_status}

-- the outcome is the value that a run answered, or its fault
abbrev pub IsOutcome : {T : Type 0} → (T → Outcome) → Result T RunFault → Result Outcome RunFault → Type 0
IsOutcome outcome (Ok value) result = result ≡ Ok (outcome value)
IsOutcome outcome (Err fault) result = result ≡ Err fault

-- some answer of which a run promises this, and its outcome
pub record HasRun {T : Type 0} (outcome : T → Outcome) (IsRun : Result T RunFault → Type 0) (result : Result Outcome RunFault) : Type 0 where
  pub answer : Result T RunFault
  pub is_run : IsRun answer
  pub is_outcome : IsOutcome outcome answer result

-- the exit status: that of the verdict, or 0 if vectors were lowered or raised
abbrev pub outcome_status : Outcome → ℕ
outcome_status (Checked verdict) = verdict_status verdict
outcome_status (CheckedAbove verdict) = above_verdict_status verdict
outcome_status (Lowered by) = 0
outcome_status (Raised by) = 0

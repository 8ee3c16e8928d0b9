-- What a call answers that reads the text of a source.
use Rattle.std.specs.Prelude.{◌≡◌, ◌≢◌, ℕ, List, Option, Result, Err, IfOk, IsErrOf}
use Rattle.polcert_text.specs.Device.{HasFailed}
use Rattle.polcert_text.specs.Source.{IsText, EachTextThatFits}
use Rattle.polcert_text.specs.ReadFailures.{EndsInFailure}
use Rattle.polcert_text.specs.declared.source.SourceFault.{SourceFault}
use Rattle.polcert_text.specs.declared.source.SourceFault.TheVariants.{Device, Refused}

-- What a call made of the text of a source: a value that the text denotes, read to its true end; or a refusal of each
-- text that fits what was read; or that a read failed, which was the last.
pub record ReadsText {S V F : Type 0} (reads : S → ℕ → Option (List ℕ) → S → Type 0) (failures : S → ℕ) (old new : S)
    (Denotes : List ℕ → V → Type 0) (Refuses : F → List ℕ → Type 0) (result : Result V (SourceFault F)) : Type 0 where
  -- the text of the source denotes the value
  pub accepted : IfOk result (λ v. (text : List ℕ) × IsText reads old text new × Denotes text v)
  -- the fault is a refusal of each text that fits what was read
  pub refused : (fault : F) → IsErrOf result (Refused fault) → EachTextThatFits reads old new (Refuses fault)
  -- that the source failed is answered only where it did
  pub device : IsErrOf result Device → HasFailed (failures old) (failures new)
  -- the source isn't read again after the read that failed
  pub device_last : IsErrOf result Device → EndsInFailure reads old new
  -- no failure is passed over
  pub same_count : (result ≢ Err Device) → failures new ≡ failures old

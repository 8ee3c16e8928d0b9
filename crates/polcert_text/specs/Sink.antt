-- What a sink took in the writes of a call.
-- Source: a write to a file as POSIX has it: a front of the piece, or an error.
use Rattle.std.specs.Prelude.{◌≡◌, ◌++◌, ℕ, List, [], Option, Some, None, Result, OnOk, OnErr}
use Rattle.polcert_text.specs.Device.{HasFailed}

-- the writes between two states of a sink took these bytes, and none of them failed
pub data Takes {S : Type 0} (writes : S → Option (List ℕ) → S → Type 0) (from : S) : List ℕ → S → Type 0 where
  nothing : Takes writes from [] from
  more : {bytes front : List ℕ} {s t : S} → Takes writes from bytes s → writes s (Some front) t
      → Takes writes from (bytes ++ front) t

-- they took a beginning of these bytes, and then a write failed
pub record TakesFront {S : Type 0} (writes : S → Option (List ℕ) → S → Type 0) (from : S) (bytes : List ℕ) (to : S) : Type 0 where
  pub front : List ℕ
  pub rest : List ℕ
  pub whole : bytes ≡ front ++ rest
  pub before : S
  pub took : Takes writes from front before
  pub failed : writes before None to

-- A call that writes a text: at `Ok` the sink took all of it, and no failure was counted; at an `Err` it took a
-- beginning, and its count of failures rose or is at its last value.
pub record WritesText {S T E : Type 0} (writes : S → Option (List ℕ) → S → Type 0) (failures : S → ℕ) (old : S) (text : List ℕ)
    (result : Result T E) (new : S) : Type 0 where
  pub ok : OnOk result (Takes writes old text new)
  pub same_count : OnOk result (failures new ≡ failures old)
  pub err : OnErr result (TakesFront writes old text new)
  pub count : OnErr result (HasFailed (failures old) (failures new))

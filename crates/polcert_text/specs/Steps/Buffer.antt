-- A write through a buffer over a sink: what the sink below took, and what is still held.
use Rattle.std.specs.Prelude.{◌≡◌, ◌++◌, ℕ, List, [], Option, Some, None}
use Rattle.polcert_text.specs.Device.{HasFailed}
use Rattle.polcert_text.specs.Sink.{Takes, TakesFront}

module _ {S : Type 0} (writes : S → Option (List ℕ) → S → Type 0) (failures : S → ℕ) (from : S) (held : List ℕ) where
  -- The sink below took a front of what was held and of the new bytes, and none of its writes failed; the rest is held.
  pub record PassesOn (bytes : List ℕ) (to : S) (held' : List ℕ) : Type 0 where
    pub passed : List ℕ
    pub took : Takes writes from passed to
    pub same_count : failures to ≡ failures from
    pub whole : held ++ bytes ≡ passed ++ held'

  -- A write of the sink below failed, which took a beginning of what was held. Nothing is held after it.
  pub record FailsBelow (to : S) (held' : List ℕ) : Type 0 where
    pub took : TakesFront writes from held to
    pub count : HasFailed (failures from) (failures to)
    pub nothing_held : held' ≡ []

  -- one write through the buffer, which took these bytes, or `None` where it failed
  abbrev pub WritesBuffered : Option (List ℕ) → S → List ℕ → Type 0
  WritesBuffered (Some bytes) to held' = PassesOn bytes to held'
  WritesBuffered None to held' = FailsBelow to held'

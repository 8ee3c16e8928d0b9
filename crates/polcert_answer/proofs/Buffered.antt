-- What is written of a text through a buffer that held nothing before.
use Rattle.std.proofs.Common.{◌≡◌, ℕ, List, [], Option, Result, subst}
use Rattle.std.specs.Result.{IsErr}
use Rattle.polcert_answer.proofs.Common.{Takes}
use Rattle.polcert_text.specs.Sink.{TakesFront, WritesText}
use Rattle.polcert_text.proofs.Printing.Taking.{wrote_front}
use Rattle.polcert_text.proofs.Printing.Buffering.{through, flushed, same_name, stopped, stopped_count, stopped_name}

module _ {S B N T E : Type 0} (writes : B → Option (List ℕ) → B → Type 0) (failures : B → ℕ) (below : S → B) (held : S → List ℕ)
    (name : S → N)
    {s t : S} {start : B} (text : List ℕ) (empty : held s ≡ []) (same_sink : below s ≡ start) (r : Result T E) where
  -- a write failed on the way into the buffer
  pub stopped_through : IsErr r → TakesFront (through writes failures below held name) s text t → (name t ≡ name s)
      × WritesText writes failures start text r (below t)
  stopped_through is_err f = (
    stopped_name writes failures below held name text empty f,
    subst (λ b. WritesText writes failures b text r (below t)) same_sink
        (wrote_front text r is_err (stopped writes failures below held name text empty f)
        (stopped_count writes failures below held name text empty f)),
  )

  -- all of it went into the buffer, which was then flushed
  pub flushed_through : {u : B} → Takes (through writes failures below held name) s text t
      → WritesText writes failures (below t) (held t) r u
      → (name t ≡ name s) × WritesText writes failures start text r u
  flushed_through {u} took flush = (
    same_name writes failures below held name text empty took,
    subst (λ b. WritesText writes failures b text r u) same_sink (flushed writes failures below held name text empty r took flush),
  )

-- What a call made of the text of a source, from what is known where it ends.
use Rattle.std.proofs.Common.{◌≡◌, ℕ, List, Option, Ok, Err, arith}
use Rattle.polcert_text.proofs.Common.{Lexeme, IsText, EachTextThatFits, Stream, Fails, ReadsText, TakenFrom, Device, Refused}
use Rattle.polcert_text.specs.declared.source.SourceFault.{SourceFault}

module _ {S V F : Type 0} {reads : S → ℕ → Option (List ℕ) → S → Type 0} {failures : S → ℕ} {first u : S}
    {Denotes : List ℕ → V → Type 0} {Refuses : F → List ℕ → Type 0} where
  -- the text denotes a value
  pub value_read : (v : V) → (text : List ℕ) × IsText reads first text u × Denotes text v → failures u ≡ failures first
      → ReadsText reads failures first u Denotes Refuses (Ok v)
  value_read = grind arith

  -- each text that fits is refused
  pub text_refused : (fault : F) → EachTextThatFits reads first u (Refuses fault) → failures u ≡ failures first
      → ReadsText reads failures first u Denotes Refuses (Err (Refused fault))
  text_refused = grind arith

  -- a read failed after the tokens taken
  pub read_failed : (limit : ℕ) (tokens : List Lexeme) (old : Stream) (s : S) → TakenFrom reads failures limit first tokens old s
      → Fails reads failures s u
      → ReadsText reads failures first u Denotes Refuses (Err Device)
  read_failed = grind arith

-- what is made of a text, from what another call made of it
module _ {S V W F : Type 0} {reads : S → ℕ → Option (List ℕ) → S → Type 0} {failures : S → ℕ} {first u : S}
    {Denotes : List ℕ → V → Type 0} {DenotesOther : List ℕ → W → Type 0} {Refuses : F → List ℕ → Type 0} where
  -- another value
  pub value_turned : {v : V} (w : W) → ReadsText reads failures first u Denotes Refuses (Ok v)
      → ((text : List ℕ) → Denotes text v → DenotesOther text w)
      → ReadsText reads failures first u DenotesOther Refuses (Ok w)
  value_turned = grind arith

  -- a refusal of what the text denotes
  pub value_refused : {v : V} (fault : F) → ReadsText reads failures first u Denotes Refuses (Ok v)
      → ((text : List ℕ) → Denotes text v → Refuses fault text)
      → ReadsText reads failures first u DenotesOther Refuses (Err (Refused fault))
  value_refused = grind arith

  -- the same fault
  pub fault_passed_on : {fault : SourceFault F} → ReadsText reads failures first u Denotes Refuses (Err fault)
      → ReadsText reads failures first u DenotesOther Refuses (Err fault)
  fault_passed_on = grind arith

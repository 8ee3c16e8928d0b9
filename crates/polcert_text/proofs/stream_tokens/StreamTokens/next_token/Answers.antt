use Rattle.std.proofs.Common.{refl}
use Rattle.polcert_text.proofs.Common.{lexeme_of}
use Rattle.polcert_text.specs.Steps.Streaming.{borrowed_lexeme}
use Rattle.polcert_text.proofs.Streams.StreamStops.{end_as, fault_as}
use Rattle.polcert_text.proofs.stream_tokens.StreamTokens.next_token.Goals as goal

pub returns-in-Ok-None : goal.returns-in-Ok-None
returns-in-Ok-None g c =
    let advanced = rw c.in-Ok-None.field-0-is at c.in-Ok-None.ensures in
    ((refl, λ _. tt, end_as _ _ (borrowed_lexeme c.advance.new.self) lexeme_of _ _ _ _ advanced), record { next = tt; stop = tt })

pub returns-in-Err : goal.returns-in-Err
returns-in-Err g c = (
  (refl, λ _. tt, fault_as _ _ (borrowed_lexeme c.advance.new.self) lexeme_of _ _ _ _ c.in-Err.fault c.in-Err.ensures),
  record
      { next = tt; stop = tt },
)

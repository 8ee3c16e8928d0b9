-- The tokens that were taken from the front of a source's text.
use Rattle.std.specs.Prelude.{◌≡◌, ◌++◌, ℕ, List, length, Option, None}
use Rattle.polcert_text.specs.Cut.{Lexeme, text_rest}
use Rattle.polcert_text.specs.Source.{Reads}
use Rattle.polcert_text.specs.Stream.{Stream, end_of_kept, rest_with, CanFollow}
use Rattle.polcert_text.specs.TakenTokens.{Taken}

-- Since the first state of the source, a stream has read some bytes and given these tokens. Each text that begins with
-- these bytes (is just them, where the true end was seen) begins with these tokens, and what is ahead comes after.
pub record TakenFrom {S : Type 0} (reads : S → ℕ → Option (List ℕ) → S → Type 0) (failures : S → ℕ) (limit : ℕ) (first : S)
    (tokens : List Lexeme) (stream : Stream) (source : S) : Type 0 where
  pub given : List ℕ
  pub was_read : Reads reads first given stream.ahead.is_whole source
  pub same_count : failures source ≡ failures first
  pub size : end_of_kept stream.ahead ≡ length given
  pub continues : stream.stop ≡ None
  pub taken : (more : List ℕ) → CanFollow stream.ahead more
      → Taken (text_rest (given ++ more) limit) tokens (rest_with stream.ahead more)

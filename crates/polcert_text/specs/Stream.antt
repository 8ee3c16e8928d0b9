-- What a stream of tokens has read and not yet given, and what a call of it reads and answers.
-- Source: a read of a file as POSIX has it: bytes, the end, or an error. Our own: the rest that is cut is the same
-- however the source cuts its bytes.
use Rattle.std.specs.Prelude.{◌≡◌, ◌-◌, ◌+◌, ◌++◌, ℕ, Bool, true, false, List, [], length, take, drop, Option, Some, None, Result, Ok, Err, nat_lt, if◌then◌else◌}
use Rattle.polcert_text.specs.Cut.{Lexeme, Rest, TakesToken, Ends}
use Rattle.polcert_text.specs.Device.{HasFailed}
use Rattle.polcert_text.specs.Source.{GivesThenFails, Reads}
use Rattle.polcert_text.specs.declared.tokens.TokenFault.{TokenFault}
use Rattle.polcert_text.specs.declared.tokens.TokenFault.TheVariants.{TextTooLong}
use Rattle.polcert_text.specs.declared.stream_tokens.StreamFault.{StreamFault}
use Rattle.polcert_text.specs.declared.stream_tokens.StreamFault.TheVariants as faults
use Rattle.polcert_text.specs.declared.stream_tokens.LastAnswer.{LastAnswer}
use Rattle.polcert_text.specs.declared.stream_tokens.LastAnswer.TheVariants.{End, Fault}

-- The bytes that were read and are not yet given, the offset of the first, the limit of the text, an offset too, and
-- whether the true end was seen after them.
pub record Ahead : Type 0 where
  pub place : ℕ
  pub kept : List ℕ
  pub limit : ℕ
  pub is_whole : Bool

-- the bytes that are kept and stand below the limit
abbrev pub visible : Ahead → List ℕ
visible a = take (a.limit - a.place) a.kept

-- the first n bytes are given
abbrev pub skip : ℕ → Ahead → Ahead
skip n a = record { place = a.place + n; kept = drop n a.kept; limit = a.limit; is_whole = a.is_whole }

-- A stream: what is ahead, the bytes of the token that was given last, and what every further call answers, once it
-- has stopped.
pub record Stream : Type 0 where
  pub ahead : Ahead
  pub borrowed : List ℕ
  pub stop : Option LastAnswer

-- what is still to be cut of a text, from an offset on: the bytes below the limit; a byte at the limit is a fault there
abbrev pub rest_from : ℕ → ℕ → List ℕ → Rest
rest_from place limit bytes = record {
  place = place;
  bytes = take (limit - place) bytes;
  ending = if nat_lt limit (place + length bytes) then Some (TextTooLong limit) else None;
}

-- what is still to be cut where these bytes follow those that are kept
abbrev pub rest_with : Ahead → List ℕ → Rest
rest_with ahead more = rest_from ahead.place ahead.limit (ahead.kept ++ more)

-- how many bytes of the text were read
abbrev pub end_of_kept : Ahead → ℕ
end_of_kept ahead = ahead.place + length ahead.kept

-- nothing follows where the true end was seen, and else anything
abbrev pub CanFollow : Ahead → List ℕ → Type 0
CanFollow ahead more = ahead.is_whole ≡ true → more ≡ []

-- a stream that has read nothing
abbrev pub fresh : ℕ → Stream
fresh limit = record { ahead = record { place = 0; kept = []; limit = limit; is_whole = false }; borrowed = []; stop = None }

-- what a stream that has stopped answers
abbrev pub answer_of : {T : Type 0} → LastAnswer → Result (Option T) StreamFault
answer_of End = Ok None
answer_of (Fault fault) = Err fault

-- what a call read, and whether the true end has been seen then; nothing where it was seen before
abbrev pub ReadsFrom : {S : Type 0} → (S → ℕ → Option (List ℕ) → S → Type 0) → Bool → S → List ℕ → Bool → S → Type 0
ReadsFrom reads true source given is_whole source' = (given ≡ []) × (is_whole ≡ true) × (source' ≡ source)
ReadsFrom reads false source given is_whole source' = Reads reads source given is_whole source'

-- Whatever follows, what is ahead ends so, with no token before; cleanly only where the true end was seen, and then
-- nothing is kept.
pub record IsAtEnd (ahead : Ahead) (answer : Option TokenFault) : Type 0 where
  pub ends : (more : List ℕ) → CanFollow ahead more → Ends (rest_with ahead more) answer
  pub whole : answer ≡ None → (ahead.is_whole ≡ true) × (ahead.kept ≡ [])

module _ {S : Type 0} (reads : S → ℕ → Option (List ℕ) → S → Type 0) (failures : S → ℕ) where
  -- Whatever follows what was read, this token comes next after the bytes that were kept, and after it comes what is
  -- ahead then.
  pub record GivesToken (old : Ahead) (source : S) (token : Lexeme) (new : Ahead) (source' : S) : Type 0 where
    pub given : List ℕ
    pub was_read : ReadsFrom reads old.is_whole source given new.is_whole source'
    pub same_count : failures source' ≡ failures source
    pub size : end_of_kept new ≡ end_of_kept old + length given
    pub next : (more : List ℕ) → CanFollow new more → TakesToken (rest_with old (given ++ more)) token (rest_with new more)

  -- Whatever follows what was read, the bytes that were kept end so, with no token before; so does what is ahead then.
  pub record GivesEnd (old : Ahead) (source : S) (answer : Option TokenFault) (new : Ahead) (source' : S) : Type 0 where
    pub given : List ℕ
    pub was_read : ReadsFrom reads old.is_whole source given new.is_whole source'
    pub same_count : failures source' ≡ failures source
    pub size : end_of_kept new ≡ end_of_kept old + length given
    pub ends : (more : List ℕ) → CanFollow new more → Ends (rest_with old (given ++ more)) answer
    pub at_end : IsAtEnd new answer

  -- a read failed
  pub record Fails (source : S) (source' : S) : Type 0 where
    pub given : List ℕ
    pub failed : GivesThenFails reads source given source'
    pub count : HasFailed (failures source) (failures source')

  -- what is answered, where a token shows a lexeme; `Device` first if a read failed in the call
  abbrev pub Answers : {T : Type 0} → (T → Lexeme) → Stream → S → Result (Option T) StreamFault → Stream → S → Type 0
  Answers lexeme old source (Ok (Some token)) new source' =
      GivesToken old.ahead source (lexeme token) new.ahead source' × (old.stop ≡ None) × (new.stop ≡ None)
  Answers lexeme old source (Ok None) new source' =
      GivesEnd old.ahead source None new.ahead source' × (new.stop ≡ Some End)
  Answers lexeme old source (Err (faults.Token fault)) new source' =
      GivesEnd old.ahead source (Some fault) new.ahead source' × (new.stop ≡ Some (Fault (faults.Token fault)))
  Answers lexeme old source (Err faults.Device) new source' =
      (old.stop ≡ None → Fails source source') × (new.stop ≡ Some (Fault faults.Device))

  -- One call: what it answers, and once the stream has stopped the same answer again, with no read.
  pub record AnswersNext {T : Type 0} (lexeme : T → Lexeme) (old : Stream) (source : S) (result : Result (Option T) StreamFault)
      (new : Stream) (source' : S) : Type 0 where
    pub answers : Answers lexeme old source result new source'
    pub again : (stop : LastAnswer) → old.stop ≡ Some stop → (result ≡ answer_of stop) × (new ≡ old) × (source' ≡ source)

-- What the parts of a call of a stream of tokens say of one another.
-- Nobody has to believe this: only contracts of private functions cite it.
use Rattle.std.specs.Prelude.{◌≡◌, ◌-◌, ◌+◌, ◌<◌, ◌≤◌, ◌++◌, ◌⊎◌, ℕ, Bool, true, false, List, [], length, take, Option, Some, None, Result, Ok, Err, if◌then◌else◌}
use Rattle.polcert_text.specs.Cut.{Lexeme}
use Rattle.polcert_text.specs.Device.{HasFailed}
use Rattle.polcert_text.specs.Fronts.{IsLongestGap, IsLongestLexeme, NoLexeme}
use Rattle.polcert_text.specs.Lexemes.{kind_of, is_empty}
use Rattle.polcert_text.specs.Steps.Scan.{is_numeral_kind}
use Rattle.polcert_text.specs.Steps.ScanOf.{front_len, front_kind}
use Rattle.polcert_text.specs.Stream.{Ahead, Stream, rest_with, CanFollow, ReadsFrom, IsAtEnd, Fails, GivesToken, GivesEnd, visible}
use Rattle.polcert_text.specs.declared.tokens.LexemePrefix.{LexemePrefix}
use Rattle.polcert_text.specs.declared.tokens.TokenKind.{TokenKind}
use Rattle.polcert_text.specs.declared.stream_tokens.StreamFault.{StreamFault}
use Rattle.polcert_text.specs.declared.stream_tokens.StreamFault.TheVariants as faults
use Rattle.polcert_text.specs.declared.stream_tokens.LastAnswer.{LastAnswer}
use Rattle.polcert_text.specs.declared.stream_tokens.LastAnswer.TheVariants.{End, Fault}
use Rattle.polcert_text.specs.declared.tokens.TokenFault.{TokenFault}
use Rattle.polcert_text.specs.declared.tokens.TokenFault.TheVariants.{TextTooLong}

-- further bytes come after those that are kept, or the true end
abbrev pub with_read : Ahead → List ℕ → Ahead
with_read a given = record { place = a.place; kept = a.kept ++ given; limit = a.limit; is_whole = is_empty given }

-- what stands in place of a clean end, where no byte below the limit is left
abbrev pub end_of : Ahead → Option TokenFault
end_of a = if is_empty a.kept then None else Some (TextTooLong a.limit)

-- the token of this kind that was given last
abbrev pub borrowed_lexeme : Stream → TokenKind → Lexeme
borrowed_lexeme s kind = record { kind = kind; place = s.ahead.place - length s.borrowed; bytes = s.borrowed }

-- once the tokens have stopped, what is ahead ends as is answered
abbrev pub EndsAsAnswered : Ahead → Option LastAnswer → Type 0
EndsAsAnswered a None = Unit {0}
EndsAsAnswered a (Some End) = IsAtEnd a None
EndsAsAnswered a (Some (Fault (faults.Token fault))) = IsAtEnd a (Some fault)
EndsAsAnswered a (Some (Fault faults.Device)) = Unit {0}

-- no byte below the limit is still to come
abbrev pub IsReadToLimit : Ahead → Type 0
IsReadToLimit a = (a.is_whole ≡ true) ⊎ (a.limit ≤ a.place + length a.kept)

-- the longest lexeme at the front of the bytes, or one that is too long
abbrev pub IsFrontOrLong : List ℕ → Option LexemePrefix → Type 0
IsFrontOrLong bytes None = NoLexeme bytes
IsFrontOrLong bytes (Some f) = IsLongestLexeme bytes f.kind f.len
    ⊎ ((400 < f.len) × (f.len ≤ length bytes) × (kind_of (take f.len bytes) ≡ Some f.kind))

-- The lexeme at the front of these bytes, where the tail follows them. If it is a numeral and not too long, the byte after it
-- is one of them, or there is no tail.
pub record IsFrontSeen (bytes tail : List ℕ) (front : Option LexemePrefix) : Type 0 where
  pub front_is : IsFrontOrLong (bytes ++ tail) front
  pub apart : is_numeral_kind (front_kind front) ≡ true → front_len front ≤ 400 → (tail ≡ []) ⊎ (front_len front < length bytes)

module _ {S : Type 0} (reads : S → ℕ → Option (List ℕ) → S → Type 0) (failures : S → ℕ) where
  -- one read
  pub record Fills (old : Ahead) (source : S) (is_more : Bool) (new : Ahead) (source' : S) : Type 0 where
    pub given : List ℕ
    pub room : ℕ
    pub has_room : 0 < room
    pub call : reads source room (Some given) source'
    pub same_count : failures source' ≡ failures source
    pub new_is : new ≡ with_read old given
    pub is_more_is : is_more ≡ true → 0 < length given
    pub is_end : is_more ≡ false → given ≡ []

  -- one read, which failed
  pub record FailsAt (source : S) (source' : S) : Type 0 where
    pub room : ℕ
    pub failed : reads source room None source'
    pub count : HasFailed (failures source) (failures source')

  -- some bytes were skipped, and others read
  pub record ReadsOn (old : Ahead) (source : S) (skipped given : List ℕ) (new : Ahead) (source' : S) : Type 0 where
    pub was_read : ReadsFrom reads old.is_whole source given new.is_whole source'
    pub same_count : failures source' ≡ failures source
    pub bytes : old.kept ++ given ≡ skipped ++ new.kept
    pub place : new.place ≡ old.place + length skipped
    pub limit : new.limit ≡ old.limit
    pub below : new.place ≤ new.limit

  -- the gap at the front was skipped: a byte that no gap continues with comes next, or the end
  pub record SkipsGap (old : Ahead) (source : S) (is_found : Bool) (new : Ahead) (source' : S) : Type 0 where
    pub skipped : List ℕ
    pub given : List ℕ
    pub reads_on : ReadsOn old source skipped given new source'
    pub longest : (more : List ℕ) → CanFollow new more → IsLongestGap (skipped ++ (rest_with new more).bytes) (length skipped)
    pub again : (more : List ℕ) → CanFollow new more → IsLongestGap (rest_with new more).bytes 0
    pub found : is_found ≡ true → 0 < length (visible new)
    pub end : is_found ≡ false → (length (visible new) ≡ 0) × ((new.is_whole ≡ true) ⊎ (0 < length new.kept))

  abbrev pub SkipsGapOrFails : {E : Type 0} → Ahead → S → Result Bool E → Ahead → S → Type 0
  SkipsGapOrFails old source (Ok is_found) new source' = SkipsGap old source is_found new source'
  SkipsGapOrFails old source (Err e) new source' = Fails reads failures source source'

  -- the lexeme at the front was read, as far as it takes to know it
  pub record ScansLexeme (old : Ahead) (source : S) (front : Option LexemePrefix) (new : Ahead) (source' : S) : Type 0 where
    pub given : List ℕ
    pub reads_on : ReadsOn old source [] given new source'
    pub within : front_len front ≤ length (visible new)
    pub seen : (tail : List ℕ) → (IsReadToLimit new → tail ≡ []) → IsFrontSeen (visible new) tail front

  abbrev pub ScansLexemeOrFails : {E : Type 0} → Ahead → S → Result (Option LexemePrefix) E → Ahead → S → Type 0
  ScansLexemeOrFails old source (Ok front) new source' = ScansLexeme old source front new source'
  ScansLexemeOrFails old source (Err e) new source' = Fails reads failures source source' × (old.is_whole ≡ false)

  -- what is made of the bytes ahead, where the tokens have not stopped
  abbrev pub TakesNext : Stream → S → Result (Option TokenKind) StreamFault → Stream → S → Type 0
  TakesNext old source (Ok (Some kind)) new source' = GivesToken reads failures old.ahead source (borrowed_lexeme new kind) new.ahead source'
  TakesNext old source (Ok None) new source' = GivesEnd reads failures old.ahead source None new.ahead source'
  TakesNext old source (Err (faults.Token fault)) new source' = GivesEnd reads failures old.ahead source (Some fault) new.ahead source'
  TakesNext old source (Err faults.Device) new source' = Fails reads failures source source'

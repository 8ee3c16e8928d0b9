-- What a scan says of the bytes that it was fed.
-- Nobody has to believe this: only contracts of private functions cite it.
use Rattle.std.specs.Prelude.{◌≡◌, ℕ, ◌+◌, ◌<◌, ◌≤◌, ◌++◌, Bool, true, false, Option, Some, None, List, length, take, drop, slice_index, pos, MatchOption}
use Rattle.std.specs.Str.Parse.{digits_value}
use Rattle.polcert_text.specs.Steps.Classes.{class_of}
use Rattle.polcert_text.specs.Lexemes.{are_digits}
use Rattle.polcert_text.specs.Cut.{is_glued}
use Rattle.polcert_text.specs.Numbers.{largest, signed, IsReadable, IsExact}
use Rattle.polcert_text.specs.declared.front_tokens.FrontDigits.{FrontDigits}
use Rattle.polcert_text.specs.declared.front_tokens.FrontNumber.{FrontNumber}
use Rattle.polcert_text.specs.declared.bytes.ByteClass.TheVariants.{Digit}
use Rattle.polcert_text.specs.Fronts.{IsLongestLexeme, NoLexeme}
use Rattle.polcert_text.specs.Steps.Scan.{gap_after, state_through}
use Rattle.polcert_text.specs.declared.tokens.Gap.TheVariants.{Between, Ended}
use Rattle.polcert_text.specs.declared.tokens.State.{State}
use Rattle.polcert_text.specs.declared.tokens.TokenKind.{TokenKind}
use Rattle.polcert_text.specs.declared.tokens.TokenKind.TheVariants.{Numeral}
use Rattle.polcert_text.specs.declared.tokens.State.TheVariants.{Start, Point, Mark, Sign, Single, Stuck}
use Rattle.polcert_text.specs.declared.tokens.LexemePrefix.{LexemePrefix}
use Rattle.polcert_text.specs.declared.tokens.LexemeScan.{LexemeScan}

abbrev pub is_stuck : State → Bool
is_stuck Stuck = true
is_stuck _ = false

-- no byte prolongs what the state has read
abbrev pub is_over : State → Bool
is_over (Single kind) = true
is_over state = is_stuck state

-- the longest lexeme at the front of the bytes, or none
abbrev pub IsFrontOf : List ℕ → Option LexemePrefix → Type 0
IsFrontOf bytes front = MatchOption front (NoLexeme bytes) (λ f. IsLongestLexeme bytes f.kind f.len)

-- how many bytes were read since the last lexeme, where one may continue
abbrev pub pending : State → ℕ
pending Point = 1
pending Mark = 1
pending Sign = 2
pending _ = 0

abbrev pub front_len : Option LexemePrefix → ℕ
front_len None = 0
front_len (Some front) = front.len

abbrev pub front_kind : Option LexemePrefix → Option TokenKind
front_kind None = None
front_kind (Some front) = Some front.kind

-- the scan was fed these bytes
pub record IsScanOf (read : List ℕ) (scan : LexemeScan) : Type 0 where
  pub len : scan.len ≡ length read
  pub state : state_through Start read ≡ scan.state
  pub longest : IsFrontOf read scan.longest
  pub following : is_stuck scan.state ≡ false → scan.len ≡ front_len scan.longest + pending scan.state

-- all that the scan was fed is a lexeme
abbrev pub scan_at : State → TokenKind → ℕ → LexemeScan
scan_at state kind len = record { state = state; len = len; longest = Some (record { kind = kind; len = len }) }

-- this lexeme is the longest at the front of the bytes, whatever follows them, and a byte stands after it
pub record EndsWithin (bytes : List ℕ) (front : LexemePrefix) : Type 0 where
  pub within : front.len < length bytes
  pub longest : (tail : List ℕ) → IsLongestLexeme (bytes ++ tail) front.kind front.len

-- the lexeme at the front of the bytes is a name or a mark, before which no gap continues
pub record IsNameOrMark (bytes : List ℕ) (front : LexemePrefix) : Type 0 where
  pub begins : gap_after Between (class_of (slice_index bytes 0)) ≡ Ended
  pub apart : (rest : List ℕ) → is_glued front.kind rest ≡ false

-- a numeral of just this many millionths ends within the bytes
pub record EndsAsNumber (bytes : List ℕ) (number : FrontDigits) : Type 0 where
  pub begins : gap_after Between (class_of (slice_index bytes 0)) ≡ Ended
  pub ends : EndsWithin bytes (record { kind = Numeral; len = number.len })
  pub short : number.len ≤ 400
  pub apart : is_glued Numeral (drop number.len bytes) ≡ false
  pub readable : IsReadable (take number.len bytes)
  pub exact : IsExact false (take number.len bytes) (pos number.value)
  pub small : number.value ≤ largest

-- the number whose numeral begins at this byte, after such a sign
pub record IsNumberFrom (bytes : List ℕ) (from : ℕ) (is_negative : Bool) (found : FrontNumber) : Type 0 where
  pub number : FrontDigits
  pub ends : EndsAsNumber (drop from bytes) number
  pub len_is : found.len ≡ from + number.len
  pub value_is : found.value ≡ signed is_negative number.value

-- digits that spell a number end within the bytes
pub record EndsAsDigits (bytes : List ℕ) (number : FrontDigits) : Type 0 where
  pub digit : class_of (slice_index bytes 0) ≡ Digit
  pub ends : EndsWithin bytes (record { kind = Numeral; len = number.len })
  pub short : number.len ≤ 400
  pub apart : is_glued Numeral (drop number.len bytes) ≡ false
  pub digits : are_digits (take number.len bytes) ≡ true
  pub value : digits_value 10 (take number.len bytes) ≡ number.value

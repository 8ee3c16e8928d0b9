-- What each reason of a refusal may stand at, in the item that is refused.
use Rattle.std.specs.Prelude.{◌≡◌, ℕ, ◌+◌, ◌≤◌, Bool, true, false, List, [], ◌∷◌, ◌++◌, length, Some, None, ◌⊎◌, ℤ, pos, codes, bytes_eq}
use Rattle.std.specs.List.{list_any}
use Rattle.polcert_text.specs.Cut.{Lexeme}
use Rattle.polcert_text.specs.Lexemes.{are_digits}
use Rattle.polcert_text.specs.Numbers.{IsRefusedExactly}
use Rattle.polcert_text.specs.Reading.{fault_place}
use Rattle.polcert_text.specs.declared.tokens.TokenKind.{TokenKind}
use Rattle.polcert_text.specs.declared.tokens.TokenKind.TheVariants.{Numeral, Plus, Minus}
use Rattle.polcert_text.specs.declared.number.NumberFault.{NumberFault}
use Rattle.polcert_text.specs.declared.tokens.TokenFault.{TokenFault}
use Rattle.polcert_text.specs.declared.tokens.TokenFault.TheVariants as token_faults
use Rattle.polcert_cells.specs.declared.entries.Table.TheVariants.{Transition, Observation}
use Rattle.polcert_format.specs.declared.fault.ItemFault.{ItemFault}
use Rattle.polcert_format.specs.declared.fault.ItemFault.TheVariants.{Token, Number, BeforeFirstItem, BadShape, DuplicateLine, LateLine, MissingLine, BadCount, DuplicateName, UnknownName, IndexOutOfRange, WrongNumberCount, ProbabilityRange, DiscountRange, Reset, TooManyCells, StartSum, StartEmpty, TextTooLong}
use Rattle.polcert_cells.specs.declared.words.Topic.{Topic}
use Rattle.polcert_cells.specs.declared.words.Topic.TheVariants.{Discount, States, Actions, Observations, Start, Cells}
use Rattle.polcert_cells.specs.Words.{topic, IsWord, IsName}
use Rattle.polcert_cells.specs.Numbers.{IsMillionths, one}
use Rattle.polcert_format.specs.Items.{Item, IsDivided}
use Rattle.polcert_format.specs.Text.{ModelSoFar, nothing_known, AreRight}
use Rattle.polcert_format.specs.Forms.{PassesCellLimit}
use Rattle.polcert_format.specs.FirstWrong.{TextTokens, IsDecided, word_place}

-- a lexeme of the body is at the place, and this is so of it
pub record StandsIn (body : List Lexeme) (place : ℕ) (Is : Lexeme → Type 0) : Type 0 where
  pub before : List Lexeme
  pub lexeme : Lexeme
  pub after : List Lexeme
  pub whole : body ≡ before ++ lexeme ∷ after
  pub place_is : place ≡ lexeme.place
  pub holds : Is lexeme

abbrev pub is_sign_kind : TokenKind → Bool
is_sign_kind Plus = true
is_sign_kind Minus = true
is_sign_kind _ = false

abbrev pub ends_in_sign : List Lexeme → Bool
ends_in_sign [] = false
ends_in_sign (l ∷ []) = is_sign_kind l.kind
ends_in_sign (l ∷ m ∷ ls) = ends_in_sign (m ∷ ls)

-- A number of the body is at the place, with its sign if it has one, and this is so of it: of its sign (`true` is
-- minus) and its numeral.
pub data NumberStandsIn (body : List Lexeme) (place : ℕ) (Is : Bool → Lexeme → Type 0) : Type 0 where
  unsigned : (before : List Lexeme) (l : Lexeme) (after : List Lexeme) → body ≡ before ++ l ∷ after → ends_in_sign before ≡ false
      → place ≡ l.place → Is false l → NumberStandsIn body place Is
  plus : (before : List Lexeme) (sign l : Lexeme) (after : List Lexeme) → body ≡ before ++ sign ∷ l ∷ after → sign.kind ≡ Plus
      → place ≡ sign.place → Is false l → NumberStandsIn body place Is
  minus : (before : List Lexeme) (sign l : Lexeme) (after : List Lexeme) → body ≡ before ++ sign ∷ l ∷ after → sign.kind ≡ Minus
      → place ≡ sign.place → Is true l → NumberStandsIn body place Is

-- a numeral without a value, for this reason
abbrev pub IsRefusedNumber : NumberFault → Bool → Lexeme → Type 0
IsRefusedNumber reason negative l = (l.kind ≡ Numeral) × IsRefusedExactly negative l.bytes reason

-- a number below 0 or above one
abbrev pub IsNoFraction : Bool → Lexeme → Type 0
IsNoFraction negative l = (h : ℤ) × IsMillionths negative l h × ((p : ℕ) → h ≡ pos p → p ≤ one → ⊥)

abbrev pub IsDigits : Lexeme → Type 0
IsDigits l = (l.kind ≡ Numeral) × (are_digits l.bytes ≡ true)

-- a name that also stands earlier in the body
pub record IsRepeated (body : List Lexeme) (place : ℕ) : Type 0 where
  pub before : List Lexeme
  pub lexeme : Lexeme
  pub after : List Lexeme
  pub whole : body ≡ before ++ lexeme ∷ after
  pub place_is : place ≡ lexeme.place
  pub name : IsName lexeme
  pub earlier : list_any (λ (l : Lexeme). bytes_eq l.bytes lexeme.bytes) before ≡ true

-- the items of counts or names, and those of probabilities
abbrev pub IsOfElements : Topic → Type 0
IsOfElements States = Unit {0}
IsOfElements Actions = Unit {0}
IsOfElements Observations = Unit {0}
IsOfElements _ = ⊥

abbrev pub IsOfProbabilities : Topic → Type 0
IsOfProbabilities (Cells Transition) = Unit {0}
IsOfProbabilities (Cells Observation) = Unit {0}
IsOfProbabilities Start = Unit {0}
IsOfProbabilities _ = ⊥

-- this is so of the topic and body of the item of this number
pub record InItem (ts : TextTokens) (number : ℕ) (Is : Topic → List Lexeme → Type 0) : Type 0 where
  pub before : List Item
  pub item : Item
  pub after : List Item
  pub divided : IsDivided ts.lexemes [] (before ++ item ∷ after)
  pub number_is : number ≡ length before + 1
  pub t : Topic
  pub topic_is : topic item.word ≡ Some t
  pub holds : Is t item.body

-- The item of this number is an entry, right but for the limits of cells, and ends at this place.
pub record PassesLimit (ts : TextTokens) (number place : ℕ) : Type 0 where
  pub before : List Item
  pub item : Item
  pub after : List Item
  pub divided : IsDivided ts.lexemes [] (before ++ item ∷ after)
  pub number_is : number ≡ length before + 1
  pub k : ModelSoFar
  pub t : Topic
  pub known : AreRight nothing_known before k
  pub topic_is : topic item.word ≡ Some t
  pub too_much : PassesCellLimit k t item.body
  pub place_is : place ≡ word_place after ts.end 0
  pub clean : after ≡ [] → ts.ending ≡ None

-- a fault of a lexeme, and not that the text is too long
abbrev pub IsLexemeFault : TokenFault → Type 0
IsLexemeFault (token_faults.TextTooLong at) = ⊥
IsLexemeFault _ = Unit {0}

-- What has to be so where an item is refused for this reason, at this place. `BadShape` (M4) and `WrongNumberCount` (M12) say nothing of the place.
abbrev pub IsReason : TextTokens → ℕ → ℕ → ItemFault → Type 0
IsReason ts number place (Token f) = (ts.ending ≡ Some f) × (place ≡ fault_place f) × IsLexemeFault f
IsReason ts number place TextTooLong = ts.ending ≡ Some (token_faults.TextTooLong place)
IsReason ts number place BeforeFirstItem = IsDecided ts number BeforeFirstItem place
IsReason ts number place DuplicateLine = IsDecided ts number DuplicateLine place
IsReason ts number place LateLine = IsDecided ts number LateLine place
IsReason ts number place MissingLine = IsDecided ts number MissingLine place
IsReason ts number place TooManyCells = IsDecided ts number TooManyCells place ⊎ PassesLimit ts number place
IsReason ts number place (Number reason) = InItem ts number (λ t body. NumberStandsIn body place (IsRefusedNumber reason))
IsReason ts number place ProbabilityRange = InItem ts number (λ t body. IsOfProbabilities t × NumberStandsIn body place IsNoFraction)
IsReason ts number place DiscountRange = InItem ts number (λ t body. (t ≡ Discount) × NumberStandsIn body place IsNoFraction)
IsReason ts number place Reset = InItem ts number (λ t body. StandsIn body place (IsWord (codes "reset")))
IsReason ts number place BadCount = InItem ts number (λ t body. IsOfElements t)
IsReason ts number place DuplicateName = InItem ts number (λ t body. IsOfElements t × IsRepeated body place)
IsReason ts number place UnknownName = InItem ts number (λ t body. StandsIn body place IsName)
IsReason ts number place IndexOutOfRange = InItem ts number (λ t body. StandsIn body place IsDigits)
IsReason ts number place StartSum = InItem ts number (λ t body. t ≡ Start)
IsReason ts number place StartEmpty = InItem ts number (λ t body. t ≡ Start)
IsReason ts number place WrongNumberCount = Unit {0}
IsReason ts number place BadShape = Unit {0}

-- The first number of a start item, which is tested late. Digits alone after `start:` are a state's number where nothing
-- follows them, and else the first of several numbers; and a first number has to be a probability only where another number
-- follows it. So what is wrong with it may be due only after it, and then comes before anything else of the item.
-- Source: the POMDP file format page at pomdp.org, whose start items these are, read from left to right.
use Rattle.std.specs.Prelude.{◌≡◌, ℕ, ◌+◌, ◌<◌, Bool, true, false, List, [], ◌∷◌, ◌++◌, length, Option, Some, None}
use Rattle.polcert_text.specs.Cut.{Lexeme}
use Rattle.polcert_text.specs.declared.tokens.TokenKind.TheVariants.{Colon, Plus, Minus}
use Rattle.polcert_text.specs.declared.number.NumberFault.{NumberFault}
use Rattle.polcert_text.specs.declared.tokens.TokenFault.{TokenFault}
use Rattle.polcert_cells.specs.declared.words.Topic.TheVariants.{Start}
use Rattle.polcert_cells.specs.Elements.{count_of}
use Rattle.polcert_cells.specs.Numbers.{IsWhole}
use Rattle.polcert_cells.specs.Words.{topic}
use Rattle.polcert_format.specs.declared.fault.ItemFault.{ItemFault}
use Rattle.polcert_format.specs.declared.fault.ItemFault.TheVariants.{Number, IndexOutOfRange, ProbabilityRange}
use Rattle.polcert_format.specs.FirstWrong.{TextTokens}
use Rattle.polcert_format.specs.Items.{Item, IsDivided}
use Rattle.polcert_format.specs.KnownPreamble.{preamble_in}
use Rattle.polcert_format.specs.Misfits.{begins_number}
use Rattle.polcert_format.specs.Order.{word_fault}
use Rattle.polcert_format.specs.Reasons.{IsRefusedNumber, IsNoFraction}
use Rattle.polcert_format.specs.Text.{ModelSoFar, nothing_known, AreRight}
use Rattle.polcert_format.specs.Wants.{may_be_state}

-- The body is a colon, a number and then these lexemes. The number is at this place, with its sign if it has one, and
-- this is so of it: of its sign (`true` is minus) and its numeral.
pub data BeginsWithNumber (body : List Lexeme) (place : ℕ) (Is : Bool → Lexeme → Type 0) (following : List Lexeme) : Type 0 where
  unsigned : (colon l : Lexeme) → body ≡ colon ∷ l ∷ following → colon.kind ≡ Colon → place ≡ l.place → Is false l → BeginsWithNumber body place Is following
  plus : (colon sign l : Lexeme) → body ≡ colon ∷ sign ∷ l ∷ following → colon.kind ≡ Colon → sign.kind ≡ Plus → place ≡ sign.place → Is false l → BeginsWithNumber body place Is following
  minus : (colon sign l : Lexeme) → body ≡ colon ∷ sign ∷ l ∷ following → colon.kind ≡ Colon → sign.kind ≡ Minus → place ≡ sign.place → Is true l → BeginsWithNumber body place Is following

-- The body is a colon, digits alone that may be the number of one of this many states, and then these lexemes. The digits
-- stand at this place, and this is so of them.
pub record BeginsWithDigits (count : ℕ) (body : List Lexeme) (place : ℕ) (Is : Lexeme → Type 0) (following : List Lexeme) : Type 0 where
  pub colon : Lexeme
  pub digits : Lexeme
  pub whole : body ≡ colon ∷ digits ∷ following
  pub is_colon : colon.kind ≡ Colon
  pub are_digits : may_be_state count digits.kind digits.bytes ≡ true
  pub place_is : place ≡ digits.place
  pub holds : Is digits

-- the number of none of this many states
abbrev pub IsNoState : ℕ → Lexeme → Type 0
IsNoState count l = (s : ℕ) → IsWhole l s → s < count → ⊥

-- The refusal of the first number that is due after it, among this many states; after the body the item ends, or else the
-- tokens do, in a fault.
pub data IsLate (count : ℕ) (body : List Lexeme) (ends : Bool) (kind : ItemFault) (place : ℕ) : Type 0 where
  -- digits without a value, and something follows them
  no_value : (reason : NumberFault) (following : List Lexeme) → BeginsWithDigits count body place (IsRefusedNumber reason false) following → (following ≡ [] → ends ≡ false)
      → kind ≡ Number reason → IsLate count body ends kind place
  -- the number of no state, and nothing follows it
  no_state : BeginsWithDigits count body place (IsNoState count) [] → ends ≡ true → kind ≡ IndexOutOfRange → IsLate count body ends kind place
  -- a number below 0 or above one, and another number follows it
  out_of_range : (next : Lexeme) (following : List Lexeme) → BeginsWithNumber body place IsNoFraction (next ∷ following) → begins_number next.kind ≡ true
      → kind ≡ ProbabilityRange → IsLate count body ends kind place

-- the last item ends in the fault that ends the tokens, if there is one
abbrev pub ends_cleanly : List Item → Option TokenFault → Bool
ends_cleanly [] (Some fault) = false
ends_cleanly _ _ = true

-- the states that the items so far name or count
abbrev pub states_known : ModelSoFar → ℕ
states_known k = count_of (preamble_in k).states

-- The item of this number is a start item that may stand after the right items before it, and this refusal of its first
-- number is due.
pub record IsLateIn (ts : TextTokens) (number : ℕ) (kind : ItemFault) (place : ℕ) : Type 0 where
  pub before : List Item
  pub item : Item
  pub after : List Item
  pub divided : IsDivided ts.lexemes [] (before ++ item ∷ after)
  pub number_is : number ≡ length before + 1
  pub k : ModelSoFar
  pub known : AreRight nothing_known before k
  pub topic_is : topic item.word ≡ Some Start
  pub may_stand : word_fault k Start ≡ None
  pub late : IsLate (states_known k) item.body (ends_cleanly after ts.ending) kind place

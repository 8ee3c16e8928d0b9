-- Refusals: what is promised of each, and where those inside an item's body stand.
use Rattle.std.specs.Prelude.{◌≡◌, ℕ, ◌+◌, true, List, [], ◌∷◌, ◌++◌, length, Some, None}
use Rattle.polcert_text.specs.Cut.{Lexeme}
use Rattle.polcert_text.specs.declared.tokens.TokenKind.TheVariants.{Numeral}
use Rattle.polcert_format.specs.declared.fault.ItemFault.{ItemFault}
use Rattle.polcert_format.specs.declared.fault.ItemFault.TheVariants.{Token, TextTooLong, TooManyCells}
use Rattle.polcert_format.specs.declared.fault.ModelFault.{ModelFault}
use Rattle.polcert_format.specs.declared.fault.ModelFault.TheVariants.{RowSum, Memory}
use Rattle.polcert_format.specs.declared.fault.ModelFault.TheVariants as model_faults
use Rattle.polcert_cells.specs.declared.words.Topic.{Topic}
use Rattle.polcert_cells.specs.Words.{topic}
use Rattle.polcert_format.specs.Items.{Item, IsDivided}
use Rattle.polcert_cells.specs.Preamble.{Preamble}
use Rattle.polcert_cells.specs.Meaning.{Meaning, meaning_of}
use Rattle.polcert_cells.specs.Rows.{IsFirstWrongRow}
use Rattle.polcert_format.specs.Text.{ModelSoFar, nothing_known, AreRight, IsRightText, IsModelText}
use Rattle.polcert_format.specs.Forms.{HasNoForm, IsPossible, PassesCellLimit}
use Rattle.polcert_format.specs.Reading.{IsWrong}
use Rattle.polcert_format.specs.FirstNumber.{IsLateIn}
use Rattle.polcert_format.specs.FirstWrong.{TextTokens, IsFirstWrong, LiesInItem, IsDecided, word_place}
use Rattle.polcert_format.specs.Reasons.{IsReason, PassesLimit, is_sign_kind}
use Rattle.polcert_format.specs.Misfits.{unexpected_token, IsOfValue, IsMisfit}
use Rattle.polcert_format.specs.Wants.{expected}

pub record IsItemRefusal (ts : TextTokens) (kind : ItemFault) (number place : ℕ) : Type 0 where
  pub first_wrong : IsFirstWrong ts number
  pub lies : LiesInItem ts number place
  pub reason : IsReason ts number place kind
  -- what is decided before the body comes before anything in it
  pub decided : (fault : ItemFault) (at : ℕ) → IsDecided ts number fault at → (kind ≡ fault) × (place ≡ at)

-- A row is refused only where all items are right, and is then the first that doesn't sum to its scale. Out of memory
-- says nothing about the text.
abbrev pub IsRefusal : TextTokens → ModelFault → Type 0
IsRefusal ts (model_faults.Item kind item place) = IsItemRefusal ts kind item place
IsRefusal ts (RowSum table action row) =
    (ts.ending ≡ None) × ((p : Preamble) × (k : ModelSoFar) × IsRightText ts.lexemes p k × IsFirstWrongRow (meaning_of p k.start k.entries) table action row)
IsRefusal ts Memory = Unit {0}

-- out of memory says nothing about the text, and every other refusal that it is wrong
abbrev pub SaysOfText : ModelFault → Type 0
SaysOfText Memory = ⊥
SaysOfText _ = Unit {0}

-- the text is no model's, or memory ran out
abbrev pub IsNoModel : List ℕ → ModelFault → Type 0
IsNoModel text Memory = Unit {0}
IsNoModel text _ = (m : Meaning) → IsModelText text m → ⊥

-- where the first of the lexemes stands, or what is after them
abbrev pub place_or : List Lexeme → ℕ → ℕ
place_or [] following = following
place_or (l ∷ ls) following = l.place

-- After the lexemes taken the item hasn't even the form of one any more: with the next lexeme, or with the next two as a sign
-- and a numeral. Or nothing is left of it, and it isn't right as it is, and not only for the limits of cells. The kind is so of
-- what this place is for and of what stands there.
pub data Stops (k : ModelSoFar) (t : Topic) (kind : ItemFault) (taken : List Lexeme) : List Lexeme → Type 0 where
  at_lexeme : {l : Lexeme} {following : List Lexeme} → HasNoForm k t (taken ++ l ∷ []) → IsMisfit (expected k t taken) l kind → Stops k t kind taken (l ∷ following)
  at_number : {sign l : Lexeme} {following : List Lexeme} → is_sign_kind sign.kind ≡ true → l.kind ≡ Numeral → IsPossible k t (taken ++ sign ∷ [])
      → HasNoForm k t (taken ++ sign ∷ l ∷ []) → IsOfValue kind → IsMisfit (expected k t (taken ++ sign ∷ [])) l kind → Stops k t kind taken (sign ∷ l ∷ following)
  at_end : IsWrong k t taken → (PassesCellLimit k t taken → ⊥) → kind ≡ unexpected_token (expected k t taken) None → Stops k t kind taken []

-- The place stands in the item where its lexemes so far are still possible, and with what stands there they aren't.
-- Where nothing is left of the item and of the text, the tokens end cleanly.
pub record StopsInBody (ts : TextTokens) (kind : ItemFault) (number place : ℕ) : Type 0 where
  pub before : List Item
  pub item : Item
  pub after : List Item
  pub divided : IsDivided ts.lexemes [] (before ++ item ∷ after)
  pub number_is : number ≡ length before + 1
  pub k : ModelSoFar
  pub t : Topic
  pub known : AreRight nothing_known before k
  pub topic_is : topic item.word ≡ Some t
  pub taken : List Lexeme
  pub rest : List Lexeme
  pub whole : item.body ≡ taken ++ rest
  pub possible : IsPossible k t taken
  pub stops : Stops k t kind taken rest
  pub place_is : place ≡ place_or rest (word_place after ts.end 0)
  pub clean : rest ≡ [] → after ≡ [] → ts.ending ≡ None

-- the reasons that the tokens give, and not the item
abbrev pub IsOfTokens : ItemFault → Type 0
IsOfTokens (Token fault) = Unit {0}
IsOfTokens TextTooLong = Unit {0}
IsOfTokens _ = ⊥

-- what was taken of the last item is still possible
pub record IsLastTaken (ts : TextTokens) (number : ℕ) : Type 0 where
  pub before : List Item
  pub item : Item
  pub divided : IsDivided ts.lexemes [] (before ++ item ∷ [])
  pub number_is : number ≡ length before + 1
  pub k : ModelSoFar
  pub t : Topic
  pub known : AreRight nothing_known before k
  pub topic_is : topic item.word ≡ Some t
  pub possible : IsPossible k t item.body

-- The tokens end before the first lexeme, or after what is still possible.
pub data EndsPossible (ts : TextTokens) (number : ℕ) : Type 0 where
  at_once : ts.lexemes ≡ [] → EndsPossible ts number
  in_item : IsLastTaken ts number → EndsPossible ts number

-- Where the refusal of an item stands: it is decided before the item's body, or stands in the body as far as that is
-- possible, or at the end of an entry that gives too many cells, or is that of a start item's first number, or a fault of the
-- tokens after what is possible.
pub data StandsRight (ts : TextTokens) (kind : ItemFault) (number place : ℕ) : Type 0 where
  before_body : IsDecided ts number kind place → StandsRight ts kind number place
  in_body : StopsInBody ts kind number place → StandsRight ts kind number place
  after_body : kind ≡ TooManyCells → PassesLimit ts number place → StandsRight ts kind number place
  of_first_number : IsLateIn ts number kind place → StandsRight ts kind number place
  of_tokens : IsOfTokens kind → EndsPossible ts number → StandsRight ts kind number place

pub record IsItemPlaced (ts : TextTokens) (kind : ItemFault) (number place : ℕ) : Type 0 where
  pub stands : StandsRight ts kind number place
  -- what is due of a start item's first number comes before anything after it
  pub late : (fault : ItemFault) (at : ℕ) → IsLateIn ts number fault at → (kind ≡ fault) × (place ≡ at)

abbrev pub IsPlacedRight : TextTokens → ModelFault → Type 0
IsPlacedRight ts (model_faults.Item kind number place) = IsItemPlaced ts kind number place
IsPlacedRight ts _ = Unit {0}

-- An entry, token by token: what is still to come of an entry that was read so far.
-- Nobody has to believe this: only contracts of the readers of items cite it.
use Rattle.std.specs.Prelude.{◌≡◌, ◌≢◌, ℕ, ◌+◌, ◌<◌, ◌≤◌, ◌==◌, Bool, true, Option, Some, None, List, [], ◌∷◌, ◌++◌, length, drop, map, All, ℤ, codes}
use Rattle.std.specs.List.{list_any}
use Rattle.polcert_text.specs.Cut.{Lexeme}
use Rattle.polcert_format.specs.declared.fault.ItemFault.{ItemFault}
use Rattle.polcert_format.specs.declared.fault.ItemFault.TheVariants.{UnknownName, IndexOutOfRange}
use Rattle.polcert_cells.specs.declared.entries.Table.{Table}
use Rattle.polcert_cells.specs.declared.entries.Table.TheVariants.{Transition, Observation, Reward}
use Rattle.polcert_cells.specs.declared.entries.Place.{Place}
use Rattle.polcert_cells.specs.declared.entries.Body.{Body}
use Rattle.polcert_cells.specs.declared.entries.Body.TheVariants as bodies
use Rattle.polcert_cells.specs.declared.entries.Entry.{Entry}
use Rattle.polcert_items.specs.declared.item.FeedError.{FeedError}
use Rattle.polcert_items.specs.declared.item.FeedError.TheVariants.{Refused, Memory}
use Rattle.polcert_items.specs.declared.entry_reader.Word.{Word}
use Rattle.polcert_items.specs.declared.entry_reader.Word.TheVariants as words
use Rattle.polcert_items.specs.declared.entry_reader.EntryState.{EntryState}
use Rattle.polcert_items.specs.declared.entry_reader.EntryState.TheVariants as states
use Rattle.polcert_items.specs.declared.entry_reader.EntryReader.{EntryReader}
use Rattle.polcert_items.specs.declared.entry_reader.Numbers.{Numbers}
use Rattle.polcert_items.specs.declared.signed_number.Refusal.{Refusal}
use Rattle.polcert_items.specs.declared.signed_number.Range.{Range}
use Rattle.polcert_items.specs.declared.signed_number.Range.TheVariants as ranges
use Rattle.polcert_items.specs.declared.signed_number.Sign.{Sign}
use Rattle.polcert_cells.specs.Words.{IsName, IsWord}
use Rattle.polcert_cells.specs.declared.elements.Elements.{Elements}
use Rattle.polcert_cells.specs.Elements.{count_of}
use Rattle.polcert_cells.specs.Preamble.{Preamble, is_mdp, dimensions, named}
use Rattle.polcert_cells.specs.Entry.{forms, cells_in, IsPlace, ArePlaces, IsBody}
use Rattle.polcert_format.specs.Reasons.{IsDigits}
use Rattle.polcert_items.specs.Steps.Numbers.{AreNumbersAfter, FitsRange, ListKind, of_probabilities, of_rewards, IsNumberReason, IsMisplaced, IsAfterNumbers}
use Rattle.polcert_items.specs.Steps.Lines.{AfterColon, TakesLexeme, CannotTake}

-- after these places the lexemes continue as this entry
pub record IsEntryAfter (p : Preamble) (table : Table) (before : List Place) (ls : List Lexeme) (entry : Entry) : Type 0 where
  pub further : List Place
  pub pattern : List Lexeme
  pub rest : List Lexeme
  pub whole : ls ≡ pattern ++ rest
  pub places_are : entry.places ≡ before ++ further
  pub table_is : entry.table ≡ table
  pub form : list_any (λ n. n == length entry.places) (forms (is_mdp p) table entry.body) ≡ true
  pub places : ArePlaces (drop (length before) (named p table)) pattern further
  pub body : IsBody (cells_in (drop (length entry.places) (dimensions p table))) rest entry.body

-- a place of the first of these indices
abbrev pub IsFirstPlace : List Elements → Lexeme → Place → Type 0
IsFirstPlace [] l p = ⊥
IsFirstPlace (d ∷ ds) l p = IsPlace d l p

-- a place, and then the rest of the entry
abbrev pub PlaceRest : Preamble → Table → List Place → List Lexeme → Entry → Type 0
PlaceRest p table before [] entry = ⊥
PlaceRest p table before (l ∷ ls) entry =
    (q : Place) × (IsFirstPlace (drop (length before) (named p table)) l q × IsEntryAfter p table (before ++ q ∷ []) ls entry)

abbrev pub entry_with : Table → List Place → Body → Entry
entry_with table places body = record { table = table; places = places; body = body }

-- further numbers of a list, until there are enough
pub record NumberListGoes {T : Type 0} (kind : ListKind T) (n : Numbers T) (ls : List Lexeme) (body : Body) : Type 0 where
  pub further : List T
  pub numbers : AreNumbersAfter n.sign ls (map kind.worth further)
  pub in_range : All (λ x. FitsRange kind.range (kind.worth x)) further
  pub enough : length (n.read ++ further) ≡ n.needed
  pub body_is : body ≡ kind.body (n.read ++ further)

abbrev pub ProbabilitiesGo : Numbers ℕ → List Lexeme → Body → Type 0
ProbabilitiesGo = NumberListGoes of_probabilities

abbrev pub RewardsGo : Numbers ℤ → List Lexeme → Body → Type 0
RewardsGo = NumberListGoes of_rewards

abbrev pub body_of_word : Word → Body
body_of_word words.Uniform = bodies.Uniform
body_of_word words.Identity = bodies.Identity

abbrev pub BodyIs : Table → List Place → (List Lexeme → Body → Type 0) → List Lexeme → Entry → Type 0
BodyIs table places Goes ls entry = (body : Body) × (Goes ls body × (entry ≡ entry_with table places body))

abbrev pub StateGoes : Preamble → Table → List Place → EntryState → List Lexeme → Entry → Type 0
StateGoes p table places states.Colon ls entry = AfterColon (PlaceRest p table places) ls entry
StateGoes p table places states.Place ls entry = PlaceRest p table places ls entry
StateGoes p table places states.Body ls entry = IsEntryAfter p table places ls entry
StateGoes p table places (states.Probabilities n) ls entry = BodyIs table places (ProbabilitiesGo n) ls entry
StateGoes p table places (states.Rewards n) ls entry = BodyIs table places (RewardsGo n) ls entry
StateGoes p table places (states.Word w) ls entry = (ls ≡ []) × (entry ≡ entry_with table places (body_of_word w))

abbrev pub EntryGoes : Preamble → EntryReader → List Lexeme → Entry → Type 0
EntryGoes p r ls entry = StateGoes p r.table r.places r.state ls entry

-- one more number is awaited after a sign
abbrev pub awaited : Option Sign → ℕ
awaited None = 0
awaited (Some sign) = 1

-- no more numbers than are needed
abbrev pub HasRoom : {T : Type 0} → Numbers T → Type 0
HasRoom n = length n.read + awaited n.sign ≤ n.needed

-- the places so far are within the table's indices, and rewards are read as rewards alone
abbrev pub IsStateWithin : List Elements → Table → List Place → EntryState → Type 0
IsStateWithin ds table places states.Colon = places ≡ []
IsStateWithin ds table places states.Place = length places < length ds
IsStateWithin ds table places states.Body = (1 ≤ length places) × (length places ≤ length ds)
IsStateWithin ds table places (states.Probabilities n) = (table ≢ Reward) × HasRoom n
IsStateWithin ds table places (states.Rewards n) = (table ≡ Reward) × HasRoom n
IsStateWithin ds table places (states.Word w) = Unit {0}

abbrev pub IsWithinIndices : List Elements → EntryReader → Type 0
IsWithinIndices ds r = IsStateWithin ds r.table r.places r.state

abbrev pub entry_sign : EntryState → Option Sign
entry_sign (states.Probabilities n) = n.sign
entry_sign (states.Rewards n) = n.sign
entry_sign _ = None

-- why a token is refused in a place's stead
abbrev pub IsPlaceReason : Lexeme → ItemFault → ℕ → Type 0
IsPlaceReason l UnknownName place = (place ≡ l.place) × IsName l
IsPlaceReason l IndexOutOfRange place = (place ≡ l.place) × IsDigits l
IsPlaceReason l kind place = IsMisplaced l kind place

-- all numbers are there
pub record IsFull {T : Type 0} (n : Numbers T) : Type 0 where
  pub sign : n.sign ≡ None
  pub count : length n.read ≡ n.needed

-- why a token is refused in a list of numbers
pub data IsListReason (range : Range) (sign : Option Sign) (l : Lexeme) (kind : ItemFault) (place : ℕ) : Type 0 where
  no_number : IsNumberReason range sign l kind place → IsListReason range sign l kind place
  no_further : IsAfterNumbers l kind place → IsListReason range sign l kind place

-- why a token is refused in an entry: as no place, or as no number after the sign before it
pub data IsEntryReason (r : EntryReader) (l : Lexeme) (kind : ItemFault) (place : ℕ) : Type 0 where
  no_place : IsPlaceReason l kind place → IsEntryReason r l kind place
  no_probability : (r.table ≢ Reward) → IsListReason ranges.Probability (entry_sign r.state) l kind place → IsEntryReason r l kind place
  no_reward : IsListReason ranges.Reward (entry_sign r.state) l kind place → IsEntryReason r l kind place

-- a refusal for which this holds, or out of memory
abbrev pub IfRefused : FeedError → (Refusal → Type 0) → Type 0
IfRefused (Refused r) P = P r
IfRefused Memory P = Unit {0}

-- the bytes of a word in place of numbers
abbrev pub word_text : Word → List ℕ
word_text words.Uniform = codes "uniform"
word_text words.Identity = codes "identity"

-- this many places may be written before this body
abbrev pub MayStand : Bool → Table → Body → ℕ → Type 0
MayStand mdp table body written = list_any (λ n. n == written) (forms mdp table body) ≡ true

-- the lexeme is this word, and it may stand after this many places
abbrev pub IsWordAfter : Bool → Table → ℕ → Lexeme → Word → Type 0
IsWordAfter mdp table written l w = IsWord (word_text w) l × MayStand mdp table (body_of_word w) written

-- before the first number
abbrev pub no_numbers : {T : Type 0} → ℕ → Numbers T
no_numbers needed = record { read = []; needed = needed; sign = None }

-- after the first number
abbrev pub one_number : {T : Type 0} → ℕ → T → Numbers T
one_number needed first = record { read = first ∷ []; needed = needed; sign = None }

-- the body's numbers were begun with this lexeme
abbrev pub AreBegun : Table → ℕ → Lexeme → EntryState → Type 0
AreBegun Reward needed l (states.Rewards n) = TakesLexeme RewardsGo (no_numbers needed) l n
AreBegun Transition needed l (states.Probabilities n) = TakesLexeme ProbabilitiesGo (no_numbers needed) l n
AreBegun Observation needed l (states.Probabilities n) = TakesLexeme ProbabilitiesGo (no_numbers needed) l n
AreBegun _ needed l _ = ⊥

-- no numbers of the table begin with this lexeme
abbrev pub CannotBegin : Table → ℕ → Lexeme → Type 0
CannotBegin Reward needed l = CannotTake RewardsGo (no_numbers needed) l
CannotBegin _ needed l = CannotTake ProbabilitiesGo (no_numbers needed) l

-- the range of the numbers of a table
abbrev pub range_of : Table → Range
range_of Reward = ranges.Reward
range_of _ = ranges.Probability

-- each index has some element
abbrev pub AreSome : List Elements → Type 0
AreSome ds = All (λ d. 1 ≤ count_of d) ds

-- the numbers of a body have room
abbrev pub HasRoomIn : EntryState → Type 0
HasRoomIn (states.Probabilities n) = HasRoom n
HasRoomIn (states.Rewards n) = HasRoom n
HasRoomIn _ = Unit {0}

-- A start item, token by token: what is still to come of an item that was read so far.
-- Nobody has to believe this: only contracts of private functions cite it.
use Rattle.std.specs.Prelude.{◌≡◌, ℕ, ◌<◌, ◌≤◌, ◌==◌, ◌||◌, ◌⊎◌, Bool, true, false, not, Option, Some, None, Result, Ok, Err, List, [], ◌∷◌, ◌++◌, length, map, get_or, sum, ℤ, pos, All, codes, if◌then◌else◌}
use Rattle.std.specs.List.{AllZip, list_all}
use Rattle.polcert_text.specs.Cut.{Lexeme}
use Rattle.polcert_text.specs.declared.number.NumberFault.{NumberFault}
use Rattle.polcert_format.specs.declared.fault.ItemFault.{ItemFault}
use Rattle.polcert_format.specs.declared.fault.ItemFault.TheVariants.{Number, BadShape, UnknownName, IndexOutOfRange, WrongNumberCount, ProbabilityRange, Reset, StartSum, StartEmpty}
use Rattle.polcert_items.specs.declared.signed_number.Refusal.{Refusal}
use Rattle.polcert_items.specs.declared.signed_number.Sign.{Sign}
use Rattle.polcert_cells.specs.declared.entries.Body.TheVariants as bodies
use Rattle.polcert_items.specs.declared.entry_reader.Numbers.{Numbers}
use Rattle.polcert_text.specs.declared.tokens.TokenKind.TheVariants.{Name, Colon}
use Rattle.polcert_format.specs.FirstNumber.{BeginsWithNumber, BeginsWithDigits, IsLate}
use Rattle.polcert_format.specs.Forms.{IsStartBodyForm, IsStartForm}
use Rattle.polcert_format.specs.Wants.{may_be_state}
use Rattle.polcert_items.specs.declared.start_reader.Selection.{Selection}
use Rattle.polcert_items.specs.declared.start_reader.Selection.TheVariants.{Include, Exclude}
use Rattle.polcert_items.specs.declared.start_reader.FirstNumber.{FirstNumber}
use Rattle.polcert_items.specs.declared.start_reader.StateOrNumber.{StateOrNumber}
use Rattle.polcert_items.specs.declared.start_reader.StartReader.{StartReader}
use Rattle.polcert_items.specs.declared.start_reader.StartReader.TheVariants as reader
use Rattle.polcert_items.specs.declared.item.EndError.{EndError}
use Rattle.polcert_items.specs.declared.item.EndError.TheVariants as ends
use Rattle.polcert_cells.specs.Words.{IsWord, IsName}
use Rattle.polcert_cells.specs.Numbers.{IsWhole, IsMillionths, one}
use Rattle.polcert_cells.specs.declared.elements.Elements.{Elements}
use Rattle.polcert_cells.specs.Elements.{count_of, StandsFor}
use Rattle.polcert_cells.specs.declared.elements.StartWeights.{StartWeights}
use Rattle.polcert_cells.specs.Start.{equal_weights, all_states, single, shares_of, included, IsStartBody, IsStart}
use Rattle.polcert_format.specs.Reasons.{StandsIn, NumberStandsIn, IsRefusedNumber, IsNoFraction, IsDigits, is_sign_kind}
use Rattle.polcert_format.specs.Misfits.{Expected, IsMisfit, begins_number}
use Rattle.polcert_items.specs.Steps.Numbers.{AreNumbersAfter, is_minus_sign, signed_place, IsSignAt, SignEnds}
use Rattle.polcert_items.specs.Steps.Lines.{AfterColon}
use Rattle.polcert_items.specs.Steps.Entries.{ProbabilitiesGo, HasRoom}

-- the state is marked
abbrev pub marked : List Bool → ℕ → Bool
marked marks s = get_or marks s false

-- this many states, and none is marked
pub record AreUnmarked (count : ℕ) (marks : List Bool) : Type 0 where
  pub size : length marks ≡ count
  pub none : (s : ℕ) → marked marks s ≡ false

-- of the states that were chosen these share, or the others
abbrev pub picks : Selection → (ℕ → Bool) → ℕ → Bool
picks Include chosen s = chosen s
picks Exclude chosen s = not (chosen s)

-- some states were chosen, and these are chosen too
abbrev pub chosen_with : (ℕ → Bool) → List ℕ → ℕ → Bool
chosen_with chosen further s = chosen s || included further s

-- the shares of a list of states that were chosen
abbrev pub listed : Elements → Selection → (ℕ → Bool) → StartWeights
listed states choice chosen = equal_weights (count_of states) (picks choice chosen)

-- What continues is asked for some shares, or for none: then only for the form of the item, and nothing that is decided at its
-- end has to hold.

-- these are the shares that are asked for, if any are
abbrev pub AreAsked : StartWeights → Option StartWeights → Type 0
AreAsked found None = Unit {0}
AreAsked found (Some v) = v ≡ found

-- and they leave a state
abbrev pub AreLeft : StartWeights → Option StartWeights → Type 0
AreLeft found None = Unit {0}
AreLeft found (Some v) = (v ≡ found) × (0 < found.total)

-- the lexemes are further states of a list
pub record ListGoes (states : Elements) (choice : Selection) (chosen : ℕ → Bool) (ls : List Lexeme) (asked : Option StartWeights) : Type 0 where
  pub further : List ℕ
  pub stand : AllZip (StandsFor states) ls further
  pub said : AreLeft (listed states choice (chosen_with chosen further)) asked

-- all the numbers of a body, and the shares that they give
pub data AreShares (states : Elements) (hs : List ℤ) (v : StartWeights) : Type 0 where
  only_state : count_of states ≡ 1 → (hs ≡ pos 0 ∷ []) ⊎ (hs ≡ pos one ∷ []) → v ≡ all_states states → AreShares states hs v
  probabilities : (ps : List ℕ) → 1 < count_of states → hs ≡ map pos ps → length ps ≡ count_of states → sum ps ≡ one → v ≡ shares_of ps → AreShares states hs v

-- all the numbers of a body have its form: one alone, or a probability for each of some states
pub data AreFormed (states : Elements) (hs : List ℤ) : Type 0 where
  alone : (h : ℤ) → hs ≡ h ∷ [] → AreFormed states hs
  each : (ps : List ℕ) → 1 < count_of states → hs ≡ map pos ps → length ps ≡ count_of states → All (λ p. p ≤ one) ps → AreFormed states hs

abbrev pub AreStartNumbers : Elements → List ℤ → Option StartWeights → Type 0
AreStartNumbers states hs None = AreFormed states hs
AreStartNumbers states hs (Some v) = AreShares states hs v

-- after these numbers, and a sign if there is one, the lexemes are the further numbers
pub record NumbersGo (states : Elements) (before : List ℤ) (sign : Option Sign) (ls : List Lexeme) (asked : Option StartWeights) : Type 0 where
  pub further : List ℤ
  pub numbers : AreNumbersAfter sign ls further
  pub given : AreStartNumbers states (before ++ further) asked

-- Digits after `start:`: the number of a state where nothing follows, or else the first of more numbers.
pub data DigitsGo (states : Elements) (digits : StateOrNumber) (ls : List Lexeme) (asked : Option StartWeights) : Type 0 where
  state_number : (s : ℕ) → ls ≡ [] → digits.state ≡ Some s → AreAsked (single states s) asked → DigitsGo states digits ls asked
  first_of_more : (h : ℤ) → digits.value ≡ Ok h → NumbersGo states (h ∷ []) None ls asked → DigitsGo states digits ls asked

-- the probabilities sum to one, and give these shares
abbrev pub AreWhole : List ℕ → Option StartWeights → Type 0
AreWhole all None = Unit {0}
AreWhole all (Some v) = (sum all ≡ one) × (v ≡ shares_of all)

-- further probabilities, until there are enough
pub record SharesGo (n : Numbers ℕ) (ls : List Lexeme) (asked : Option StartWeights) : Type 0 where
  pub all : List ℕ
  pub go : ProbabilitiesGo n ls (bodies.Probabilities all)
  pub whole : AreWhole all asked

abbrev pub BodyGoes : Elements → List Lexeme → Option StartWeights → Type 0
BodyGoes states ls None = IsStartBodyForm states ls
BodyGoes states ls (Some v) = IsStartBody states ls v

abbrev pub FormGoes : Elements → List Lexeme → Option StartWeights → Type 0
FormGoes states ls None = IsStartForm states ls
FormGoes states ls (Some v) = IsStart states ls v

abbrev pub StartGoes : Elements → StartReader → List Lexeme → Option StartWeights → Type 0
StartGoes states reader.Form ls asked = FormGoes states ls asked
StartGoes states (reader.Colon choice) ls asked = AfterColon (ListGoes states choice (λ s. false)) ls asked
StartGoes states (reader.List chosen) ls asked = ListGoes states chosen.choice (marked chosen.marks) ls asked
StartGoes states reader.Body ls asked = BodyGoes states ls asked
StartGoes states reader.Every ls asked = (ls ≡ []) × AreAsked (all_states states) asked
StartGoes states (reader.Only s) ls asked = (ls ≡ []) × AreAsked (single states s) asked
StartGoes states (reader.Sign sign) ls asked = NumbersGo states [] (Some sign) ls asked
StartGoes states (reader.Number first) ls asked = NumbersGo states (first.value ∷ []) None ls asked
StartGoes states (reader.StateOrNumber digits) ls asked = DigitsGo states digits ls asked
StartGoes states (reader.Probabilities n) ls asked = SharesGo n ls asked

-- the lexemes end the item with these shares
abbrev pub StartGives : Elements → StartReader → List Lexeme → StartWeights → Type 0
StartGives states r ls v = StartGoes states r ls (Some v)

-- before the first token
abbrev pub new_start : StartReader
new_start = reader.Form

-- a list of probabilities has room, and there is more than one state
pub record HasProbabilityRoom (states : Elements) (n : Numbers ℕ) : Type 0 where
  pub more : 1 < count_of states
  pub needed : n.needed ≡ count_of states
  pub room : HasRoom n

-- what was kept fits the states
abbrev pub IsStartWithin : Elements → StartReader → Type 0
IsStartWithin states (reader.List chosen) = length chosen.marks ≡ count_of states
IsStartWithin states (reader.Only s) = s < count_of states
IsStartWithin states (reader.StateOrNumber digits) = (1 < count_of states) × ((s : ℕ) → digits.state ≡ Some s → s < count_of states)
IsStartWithin states (reader.Probabilities n) = HasProbabilityRoom states n
IsStartWithin states _ = Unit {0}

-- the sign before the next token
abbrev pub start_sign : StartReader → Option Sign
start_sign (reader.Sign sign) = Some sign
start_sign (reader.Probabilities n) = n.sign
start_sign _ = None

-- the first number that digits of this value are, where something follows them; or its refusal, where they have none
abbrev pub first_of : Result ℤ NumberFault → ℕ → Result FirstNumber Refusal
first_of (Ok h) place = Ok (record { value = h; place = place })
first_of (Err fault) place = Err (record { kind = Number fault; place = place })

-- the refusal of a number without a value
abbrev pub pending_of : Result ℤ NumberFault → ℕ → Option Refusal
pending_of (Ok h) place = None
pending_of (Err fault) place = Some (record { kind = Number fault; place = place })

-- digits without a value: they are refused as soon as anything follows them, a fault of the tokens too
abbrev pub pending_refusal : StartReader → Option Refusal
pending_refusal (reader.StateOrNumber digits) = pending_of digits.value digits.place
pending_refusal _ = None

-- the value of a numeral, or why it has none
abbrev pub IsValue : Result ℤ NumberFault → Bool → Lexeme → Type 0
IsValue (Ok h) negative l = IsMillionths negative l h
IsValue (Err fault) negative l = IsRefusedNumber fault negative l

-- the state of this number, if there are that many
abbrev pub IsState : ℕ → Option ℕ → Lexeme → Type 0
IsState count (Some s) l = IsWhole l s × (s < count)
IsState count None l = (s : ℕ) → IsWhole l s → s < count → ⊥

-- what was kept of a numeral of digits alone
pub record AreStartDigits (count : ℕ) (l : Lexeme) (digits : StateOrNumber) : Type 0 where
  pub more : 1 < count
  pub place : digits.place ≡ l.place
  pub digits_are : IsDigits l
  pub state : IsState count digits.state l
  pub value : IsValue digits.value false l

-- what the first lexeme makes of the item
abbrev pub IsFormed : Lexeme → StartReader → Type 0
IsFormed l (reader.Colon choice) = l.kind ≡ Name
IsFormed l reader.Body = l.kind ≡ Colon
IsFormed l _ = ⊥

-- what is kept of a lexeme of the first number, after this sign
abbrev pub IsNumberKept : Option Sign → Lexeme → StartReader → Type 0
IsNumberKept sign l (reader.Sign s) = (sign ≡ None) × IsSignAt s l
IsNumberKept sign l (reader.Number first) = (first.place ≡ signed_place sign l) × IsMillionths (is_minus_sign sign) l first.value
IsNumberKept sign l _ = ⊥

-- what is kept of the lexeme after the colon, with this many states
abbrev pub IsKept : ℕ → Lexeme → StartReader → Type 0
IsKept count l reader.Every = l.kind ≡ Name
IsKept count l (reader.Only s) = l.kind ≡ Name
IsKept count l (reader.StateOrNumber digits) = AreStartDigits count l digits
IsKept count l r = (may_be_state count l.kind l.bytes ≡ false) × IsNumberKept None l r

-- a number below 0 or above one
abbrev pub IsOutside : ℤ → Type 0
IsOutside h = (p : ℕ) → h ≡ pos p → p ≤ one → ⊥

-- the body is a colon, and the first number's sign, if it has one
abbrev pub IsAfterColon : Option Sign → List Lexeme → Type 0
IsAfterColon None body = (colon : Lexeme) × (body ≡ colon ∷ []) × (colon.kind ≡ Colon)
IsAfterColon (Some sign) body = (colon : Lexeme) × (s : Lexeme) × (body ≡ colon ∷ s ∷ []) × (colon.kind ≡ Colon) × IsSignAt sign s

-- the body begins with the word of a list
abbrev pub BeginsWithListWord : List Lexeme → Type 0
BeginsWithListWord body = (word : Lexeme) × (ls : List Lexeme) × (body ≡ word ∷ ls) × (word.kind ≡ Name)

-- the body is a colon and a word
abbrev pub IsWordBody : List Lexeme → Type 0
IsWordBody body = (colon : Lexeme) × (word : Lexeme) × (body ≡ colon ∷ word ∷ []) × (word.kind ≡ Name)

-- the body is a number as it was kept, and not digits alone that may be a state's number
pub record IsNumberBody (count : ℕ) (body : List Lexeme) (first : FirstNumber) : Type 0 where
  pub number : BeginsWithNumber body first.place (λ negative l. IsMillionths negative l first.value) []
  pub no_digits : (place : ℕ) → BeginsWithDigits count body place (λ l. Unit {0}) [] → ⊥

-- what was kept of digits: the state of this number, and their value
pub record IsDigitsKept (count : ℕ) (digits : StateOrNumber) (l : Lexeme) : Type 0 where
  pub state : IsState count digits.state l
  pub value : IsValue digits.value false l

-- a number that is a probability
abbrev pub IsFraction : Bool → Lexeme → Type 0
IsFraction negative l = (h : ℤ) × IsMillionths negative l h × (IsOutside h → ⊥)

-- after the first number, a probability, more was taken
pub record IsFurtherBody (body : List Lexeme) : Type 0 where
  pub place : ℕ
  pub next : Lexeme
  pub following : List Lexeme
  pub number : BeginsWithNumber body place IsFraction (next ∷ following)

-- the body so far, as the state knows it, with this many states
abbrev pub HasStartBody : ℕ → List Lexeme → StartReader → Type 0
HasStartBody count body reader.Form = body ≡ []
HasStartBody count body (reader.Colon choice) = BeginsWithListWord body
HasStartBody count body (reader.List chosen) = BeginsWithListWord body
HasStartBody count body reader.Body = IsAfterColon None body
HasStartBody count body reader.Every = IsWordBody body
HasStartBody count body (reader.Only s) = IsWordBody body
HasStartBody count body (reader.Sign sign) = IsAfterColon (Some sign) body
HasStartBody count body (reader.Number first) = IsNumberBody count body first
HasStartBody count body (reader.StateOrNumber digits) = BeginsWithDigits count body digits.place (IsDigitsKept count digits) []
HasStartBody count body (reader.Probabilities n) = IsFurtherBody body

-- what the body so far has to do with the state
pub record HasReadStart (count : ℕ) (body : List Lexeme) (r : StartReader) : Type 0 where
  pub sign : SignEnds (start_sign r) body
  pub body_is : HasStartBody count body r

-- why a token is refused, and where: at the token, or at the sign before it
abbrev pub IsReasonAt : Option Sign → Lexeme → ItemFault → ℕ → Type 0
IsReasonAt sign l (Number reason) place = (place ≡ signed_place sign l) × IsRefusedNumber reason (is_minus_sign sign) l
IsReasonAt sign l ProbabilityRange place = (place ≡ signed_place sign l) × IsNoFraction (is_minus_sign sign) l
IsReasonAt sign l Reset place = (place ≡ l.place) × IsWord (codes "reset") l
IsReasonAt sign l UnknownName place = (place ≡ l.place) × IsName l
IsReasonAt sign l IndexOutOfRange place = (place ≡ l.place) × IsDigits l
IsReasonAt sign l BadShape place = place ≡ l.place
IsReasonAt sign l WrongNumberCount place = place ≡ l.place
IsReasonAt sign l _ place = ⊥

abbrev pub refused : ItemFault → ℕ → Refusal
refused kind place = record { kind = kind; place = place }

-- the first number is out of range
abbrev pub IsOutOfRange : ℤ → ℕ → ItemFault → ℕ → Type 0
IsOutOfRange h first kind place = IsOutside h × (kind ≡ ProbabilityRange) × (place ≡ first)

-- and another number follows it
abbrev pub IsDueNumber : ℤ → ℕ → Lexeme → ItemFault → ℕ → Type 0
IsDueNumber h first l kind place = (begins_number l.kind ≡ true) × IsOutOfRange h first kind place

-- the digits have no value, and something follows them, or they are such a number
abbrev pub IsDueValue : Result ℤ NumberFault → ℕ → Lexeme → ItemFault → ℕ → Type 0
IsDueValue (Ok h) first l kind place = IsDueNumber h first l kind place
IsDueValue (Err fault) first l kind place = (kind ≡ Number fault) × (place ≡ first)

-- The refusal of the first number that is due as soon as this lexeme follows.
abbrev pub IsDue : StartReader → Lexeme → ItemFault → ℕ → Type 0
IsDue (reader.Number first) l kind place = IsDueNumber first.value first.place l kind place
IsDue (reader.StateOrNumber digits) l kind place = IsDueValue digits.value digits.place l kind place
IsDue _ l kind place = ⊥

-- why a token is refused, after this sign and where this is wanted: for the first number, or for itself
pub data IsStop (Due : ItemFault → ℕ → Type 0) (sign : Option Sign) (w : Expected) (l : Lexeme) (kind : ItemFault) (place : ℕ) : Type 0 where
  due : Due kind place → IsStop Due sign w l kind place
  at_once : IsMisfit w l kind → IsReasonAt sign l kind place → IsStop Due sign w l kind place

-- what continues to a number, after this sign: another sign doesn't
abbrev pub IsNumberHeld : Option Sign → Lexeme → Type 0
IsNumberHeld None l = (is_sign_kind l.kind ≡ true) ⊎ ((h : ℤ) × IsMillionths false l h)
IsNumberHeld (Some sign) l = (h : ℤ) × IsMillionths sign.negative l h

-- what continues to the first number, or to its end, and is tested later
abbrev pub CanStillBeRight : ℕ → StartReader → Lexeme → Type 0
CanStillBeRight count reader.Form l = l.kind ≡ Colon
CanStillBeRight count reader.Body l = (may_be_state count l.kind l.bytes ≡ true) ⊎ IsNumberHeld None l
CanStillBeRight count (reader.Sign sign) l = IsNumberHeld (Some sign) l
CanStillBeRight count _ l = ⊥

-- what each reason of a refusal is at, in the body that is refused
abbrev pub IsReasonIn : List Lexeme → ItemFault → ℕ → Type 0
IsReasonIn body (Number fault) place = NumberStandsIn body place (IsRefusedNumber fault)
IsReasonIn body ProbabilityRange place = NumberStandsIn body place IsNoFraction
IsReasonIn body Reset place = StandsIn body place (IsWord (codes "reset"))
IsReasonIn body UnknownName place = StandsIn body place IsName
IsReasonIn body IndexOutOfRange place = StandsIn body place IsDigits
IsReasonIn body WrongNumberCount place = Unit {0}
IsReasonIn body BadShape place = Unit {0}
IsReasonIn body _ place = ⊥

pub record IsStartReason (body : List Lexeme) (kind : ItemFault) (place : ℕ) : Type 0 where
  pub stands : StandsIn body place (λ l. Unit {0})
  pub reason : IsReasonIn body kind place

-- a start item cannot end for this reason, where it ends
abbrev pub IsStartEndKind : ItemFault → Type 0
IsStartEndKind BadShape = Unit {0}
IsStartEndKind WrongNumberCount = Unit {0}
IsStartEndKind StartSum = Unit {0}
IsStartEndKind StartEmpty = Unit {0}
IsStartEndKind _ = ⊥

abbrev pub IsStartEndReason : List Lexeme → EndError → Type 0
IsStartEndReason body (ends.AtEnd kind) = IsStartEndKind kind
IsStartEndReason body (ends.At r) = (r.kind ≡ IndexOutOfRange) × IsStartReason body r.kind r.place
IsStartEndReason body ends.Memory = Unit {0}

-- the reason is told at the item's end
abbrev pub IsToldAtEnd : EndError → Type 0
IsToldAtEnd (ends.At r) = ⊥
IsToldAtEnd _ = Unit {0}

-- Digits that are no state's number are why a start item cannot end after them, and nothing else is told before its end.
abbrev pub IsEndDue : StartReader → EndError → Type 0
IsEndDue (reader.StateOrNumber digits) (ends.At r) = (digits.state ≡ None) × (r.kind ≡ IndexOutOfRange) × (r.place ≡ digits.place)
IsEndDue (reader.StateOrNumber digits) (ends.AtEnd kind) = ⊥
IsEndDue (reader.StateOrNumber digits) ends.Memory = Unit {0}
IsEndDue _ e = IsToldAtEnd e

-- the item cannot end for this refusal, or memory ran out
abbrev pub IsLateEnd : EndError → Refusal → Type 0
IsLateEnd (ends.At r) late = (r.kind ≡ late.kind) × (r.place ≡ late.place)
IsLateEnd (ends.AtEnd kind) late = ⊥
IsLateEnd ends.Memory late = Unit {0}

-- Why a start item cannot continue with this lexeme after the body, where this is wanted: for its first number, which is
-- refused late, or for the lexeme itself, where no refusal of that number is held back.
pub data StopsStart (held : Option Refusal) (count : ℕ) (body : List Lexeme) (w : Expected) (l : Lexeme) (kind : ItemFault) (place : ℕ) : Type 0 where
  first_number : ((more : List Lexeme) (ends : Bool) → IsLate count (body ++ l ∷ more) ends kind place) → StopsStart held count body w l kind place
  token : (sign : Option Sign) → held ≡ None → SignEnds sign body → IsMisfit w l kind → IsReasonAt sign l kind place → StopsStart held count body w l kind place

-- this holds, or memory ran out
abbrev pub IfNotMemory : EndError → Type 0 → Type 0
IfNotMemory ends.Memory P = Unit {0}
IfNotMemory _ P = P

-- what continues after one more lexeme is what went on from before it
pub record Begins (Old : List Lexeme → Option StartWeights → Type 0) (l : Lexeme) (New : List Lexeme → Option StartWeights → Type 0) : Type 0 where
  pub back : (ls : List Lexeme) (asked : Option StartWeights) → New ls asked → Old (l ∷ ls) asked
  pub on : (ls : List Lexeme) (asked : Option StartWeights) → Old (l ∷ ls) asked → New ls asked

-- all that are above 0 are this number
abbrev pub is_level_at : ℕ → List ℕ → Bool
is_level_at level ps = list_all (λ p. p == 0 || p == level) ps

-- the first of them that is above 0, or else 0
abbrev pub first_above_0 : List ℕ → ℕ
first_above_0 [] = 0
first_above_0 (p ∷ ps) = if p == 0 then first_above_0 ps else p

-- the share of a number where the numbers above 0 are the same
abbrev pub support_weight : ℕ → ℕ
support_weight p = if not (p == 0) then 1 else 0

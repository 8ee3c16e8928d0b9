-- An item, token by token: what is still to come of an item that was read so far.
-- Nobody has to believe this: only contracts of private functions cite it.
use Rattle.std.specs.Prelude.{◌≡◌, ℕ, Bool, true, false, Option, Some, None, List, [], ◌∷◌, ◌++◌, Result, OnOk, IfErr}
use Rattle.polcert_text.specs.Cut.{Lexeme}
use Rattle.polcert_format.specs.declared.fault.ItemFault.{ItemFault}
use Rattle.polcert_format.specs.declared.fault.ItemFault.TheVariants.{BadShape, BadCount, DuplicateName, WrongNumberCount, ProbabilityRange, DiscountRange, StartSum, StartEmpty}
use Rattle.polcert_cells.specs.declared.entries.Entry.{Entry}
use Rattle.polcert_cells.specs.declared.entries.Table.{Table}
use Rattle.polcert_items.specs.declared.item.ItemContents.TheVariants as said
use Rattle.polcert_items.specs.declared.item.ItemReader.{ItemReader}
use Rattle.polcert_items.specs.declared.item.ItemReader.TheVariants as items
use Rattle.polcert_items.specs.declared.preamble_lines.ElementsReader.TheVariants as elements
use Rattle.polcert_items.specs.declared.preamble_lines.DiscountReader.TheVariants as discount
use Rattle.polcert_items.specs.declared.preamble_lines.ValuesReader.TheVariants as values
use Rattle.polcert_items.specs.declared.entry_reader.EntryReader.{EntryReader}
use Rattle.polcert_items.specs.declared.entry_reader.EntryState.TheVariants as states
use Rattle.polcert_items.specs.declared.signed_number.Refusal.{Refusal}
use Rattle.polcert_items.specs.declared.signed_number.Sign.{Sign}
use Rattle.polcert_items.specs.declared.item.EndError.{EndError}
use Rattle.polcert_items.specs.declared.item.EndError.TheVariants as ends
use Rattle.polcert_items.specs.declared.item.FeedError.{FeedError}
use Rattle.polcert_cells.specs.declared.words.Topic.{Topic}
use Rattle.polcert_cells.specs.declared.words.Topic.TheVariants.{Discount, Values, States, Actions, Observations, Start, Cells}
use Rattle.polcert_cells.specs.declared.elements.Elements.{Elements}
use Rattle.polcert_cells.specs.declared.elements.StartWeights.{StartWeights}
use Rattle.polcert_cells.specs.Elements.{most_states, most_actions, most_observations}
use Rattle.polcert_format.specs.Text.{ModelSoFar}
use Rattle.polcert_format.specs.Reasons.{ends_in_sign, IsNoFraction, IsOfElements, IsOfProbabilities, IsRepeated}
use Rattle.polcert_items.specs.Steps.Numbers.{SignEnds, is_minus_sign, signed_place}
use Rattle.polcert_items.specs.Steps.Lines.{TakesLexeme, CannotTake, DiscountGoes, discount_sign, ValuesGoes}
use Rattle.polcert_items.specs.Steps.Elements.{ElementsGo, IsElementsRead, AreElementsSeen}
use Rattle.polcert_format.specs.FirstNumber.{IsLate, states_known}
use Rattle.polcert_format.specs.KnownPreamble.{preamble_in, indices_in}
use Rattle.polcert_items.specs.Steps.Entries.{EntryGoes, IfRefused, IsWithinIndices, entry_sign, AreSome}
use Rattle.polcert_items.specs.Steps.Start.{StartGoes, StartGives, new_start, pending_refusal, IsStartWithin, HasReadStart, IsReasonAt, IsStartReason, StopsStart}
use Rattle.polcert_items.specs.Steps.ModelSoFar.{with_item}
use Rattle.polcert_items.specs.Steps.Wants.{ExpectsNext, item_wants, IfNotStart, IfStart}
use Rattle.polcert_format.specs.Misfits.{IsMisfit}

-- the lexemes end the item, and this is known after it
abbrev pub ItemGoes : ModelSoFar → ItemReader → List Lexeme → ModelSoFar → Type 0
ItemGoes k (items.Discount r) ls next = (g : ℕ) × (DiscountGoes r ls g × (next ≡ with_item k (said.Discount g)))
ItemGoes k (items.Values r) ls next = (b : Bool) × (ValuesGoes r ls b × (next ≡ with_item k (said.Costs b)))
ItemGoes k (items.States r) ls next = (e : Elements) × (ElementsGo most_states r ls e × (next ≡ with_item k (said.States e)))
ItemGoes k (items.Actions r) ls next = (e : Elements) × (ElementsGo most_actions r ls e × (next ≡ with_item k (said.Actions e)))
ItemGoes k (items.Observations r) ls next = (e : Elements) × (ElementsGo most_observations r ls e × (next ≡ with_item k (said.Observations e)))
ItemGoes k (items.Start r) ls next = (found : StartWeights) × (StartGives (preamble_in k).states r ls found × (next ≡ with_item k (said.Start found)))
ItemGoes k (items.Entry r) ls next = (e : Entry) × (EntryGoes (preamble_in k) r ls e × (next ≡ with_item k (said.Entry e)))

-- The lexemes give the item its form, whatever is decided at its end.
abbrev pub ItemForms : ModelSoFar → ItemReader → List Lexeme → Unit {0} → Type 0
ItemForms k (items.Start r) ls none = StartGoes (preamble_in k).states r ls None
ItemForms k item ls none = (next : ModelSoFar) × ItemGoes k item ls next

abbrev pub topic_of_reader : ItemReader → Topic
topic_of_reader (items.Discount r) = Discount
topic_of_reader (items.Values r) = Values
topic_of_reader (items.States r) = States
topic_of_reader (items.Actions r) = Actions
topic_of_reader (items.Observations r) = Observations
topic_of_reader (items.Start r) = Start
topic_of_reader (items.Entry r) = Cells r.table

-- the sign before the next token (a start item keeps its own account of signs)
abbrev pub sign_in : ItemReader → Option Sign
sign_in (items.Discount r) = discount_sign r
sign_in (items.Entry r) = entry_sign r.state
sign_in _ = None

-- a number that has no value, where anything follows it
abbrev pub pending_in : ItemReader → Option Refusal
pending_in (items.Start r) = pending_refusal r
pending_in _ = None

-- what was read is within its limits
abbrev pub IsItemWithin : ModelSoFar → ItemReader → Type 0
IsItemWithin k (items.States r) = IsElementsRead most_states r
IsItemWithin k (items.Actions r) = IsElementsRead most_actions r
IsItemWithin k (items.Observations r) = IsElementsRead most_observations r
IsItemWithin k (items.Start r) = (states : Elements) × ((k.states ≡ Some states) × IsStartWithin states r)
IsItemWithin k (items.Entry r) = IsWithinIndices (indices_in k r.table) r
IsItemWithin k _ = Unit {0}

abbrev pub new_entry : Table → EntryReader
new_entry table = record { table = table; places = []; state = states.Colon }

-- the reader of an item of this topic, before its first token
abbrev pub new_item : Topic → ItemReader
new_item Discount = items.Discount discount.Colon
new_item Values = items.Values values.Colon
new_item States = items.States elements.Colon
new_item Actions = items.Actions elements.Colon
new_item Observations = items.Observations elements.Colon
new_item Start = items.Start new_start
new_item (Cells table) = items.Entry (new_entry table)

-- what the body so far has to do with the state of its reader, with this many states
abbrev pub IsSeen : ℕ → List Lexeme → ItemReader → Type 0
IsSeen count body (items.States r) = (ends_in_sign body ≡ false) × AreElementsSeen body r
IsSeen count body (items.Actions r) = (ends_in_sign body ≡ false) × AreElementsSeen body r
IsSeen count body (items.Observations r) = (ends_in_sign body ≡ false) × AreElementsSeen body r
IsSeen count body (items.Start r) = HasReadStart count body r
IsSeen count body item = SignEnds (sign_in item) body

-- why a token is refused in an item of this topic, after this sign and body; some reasons are of some topics alone
abbrev pub IsTokenReason : Topic → Option Sign → List Lexeme → Lexeme → ItemFault → ℕ → Type 0
IsTokenReason t sign body l DiscountRange place = (t ≡ Discount) × (place ≡ signed_place sign l) × IsNoFraction (is_minus_sign sign) l
IsTokenReason t sign body l ProbabilityRange place = IsOfProbabilities t × IsReasonAt sign l ProbabilityRange place
IsTokenReason t sign body l DuplicateName place = (place ≡ l.place) × IsOfElements t × ((following : List Lexeme) → IsRepeated (body ++ l ∷ following) place)
IsTokenReason t sign body l BadCount place = (place ≡ l.place) × IsOfElements t
IsTokenReason t sign body l kind place = IsReasonAt sign l kind place

-- why a token is refused: for itself, or in a start item perhaps for a number before it
pub data IsItemReason (item : ItemReader) (body : List Lexeme) (l : Lexeme) (kind : ItemFault) (place : ℕ) : Type 0 where
  of_token : (topic_of_reader item ≡ Start → ⊥) → IsTokenReason (topic_of_reader item) (sign_in item) body l kind place → IsItemReason item body l kind place
  of_start : topic_of_reader item ≡ Start → IsStartReason (body ++ l ∷ []) kind place → IsItemReason item body l kind place

-- why an item of this topic cannot end, besides a wrong shape
abbrev pub IsEndReason : Topic → ItemFault → Type 0
IsEndReason t BadCount = IsOfElements t
IsEndReason t BadShape = Unit {0}
IsEndReason t WrongNumberCount = Unit {0}
IsEndReason t StartSum = t ≡ Start
IsEndReason t StartEmpty = t ≡ Start
IsEndReason t _ = ⊥

-- why an item of this topic and body cannot end, and where, with this many states
abbrev pub IsItemEndReason : ℕ → Topic → List Lexeme → EndError → Type 0
IsItemEndReason count t body (ends.AtEnd kind) = IsEndReason t kind
IsItemEndReason count t body (ends.At r) = (t ≡ Start) × IsStartReason body r.kind r.place × IsLate count body true r.kind r.place
IsItemEndReason count t body ends.Memory = Unit {0}

-- in an entry, every index of its table numbers something
abbrev pub HasElements : ModelSoFar → Topic → Type 0
HasElements k (Cells table) = AreSome (indices_in k table)
HasElements k _ = Unit {0}

-- an item's reader took one more lexeme
pub record IsItemFed (k : ModelSoFar) (old : ItemReader) (l : Lexeme) (new : ItemReader) : Type 0 where
  pub within : IsItemWithin k new
  pub takes : TakesLexeme (ItemGoes k) old l new
  pub formed : IfStart (topic_of_reader old) (TakesLexeme (ItemForms k) old l new)
  pub seen : (body : List Lexeme) → IsSeen (states_known k) body old → IsSeen (states_known k) (body ++ l ∷ []) new
  pub leads : ExpectsNext (item_wants k old) l (item_wants k new)

-- an item's reader cannot take the lexeme, and refuses it so
pub record RefusesInItem (k : ModelSoFar) (old : ItemReader) (l : Lexeme) (r : Refusal) : Type 0 where
  pub stuck : CannotTake (ItemGoes k) old l
  pub formless : IfStart (topic_of_reader old) (CannotTake (ItemForms k) old l)
  pub reason : (body : List Lexeme) → IsSeen (states_known k) body old → IsItemReason old body l r.kind r.place
  pub kind : IfNotStart (topic_of_reader old) (IsMisfit (item_wants k old []) l r.kind)
  pub start : (body : List Lexeme) → IsSeen (states_known k) body old
      → IfStart (topic_of_reader old) (StopsStart (pending_in old) (states_known k) body (item_wants k old []) l r.kind r.place)
  pub late : (body more : List Lexeme) (ends : Bool) (late : Refusal) → IsSeen (states_known k) body old → topic_of_reader old ≡ Start
      → IsLate (states_known k) (body ++ l ∷ more) ends late.kind late.place → (r.kind ≡ late.kind) × (r.place ≡ late.place)

-- One more lexeme: an item's reader keeps its topic, and takes it or refuses it.
pub record FeedsItem (k : ModelSoFar) (old : ItemReader) (l : Lexeme) (new : ItemReader) (result : Result Unit FeedError) : Type 0 where
  pub topic : topic_of_reader new ≡ topic_of_reader old
  pub fed : OnOk result (IsItemFed k old l new)
  pub refused : IfErr result (λ stop. IfRefused stop (RefusesInItem k old l))

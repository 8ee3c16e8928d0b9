-- A text, item by item: what its reader holds after the lexemes so far.
-- Nobody has to believe this: only contracts of private functions cite it.
use Rattle.std.specs.Prelude.{◌≡◌, ℕ, ◌+◌, true, Option, Some, None, List, [], ◌∷◌, ◌++◌, length}
use Rattle.polcert_text.specs.Cut.{Lexeme, IsCut, text_rest, text_limit}
use Rattle.polcert_text.specs.Steps.TakenAhead.{ReadsOn}
use Rattle.polcert_text.specs.Reading.{fault_place}
use Rattle.polcert_text.specs.declared.tokens.TokenFault.{TokenFault}
use Rattle.polcert_text.specs.declared.tokens.TokenFault.TheVariants as token_faults
use Rattle.polcert_format.specs.declared.fault.ItemFault.{ItemFault}
use Rattle.polcert_format.specs.declared.fault.ItemFault.TheVariants.{Token, TextTooLong}
use Rattle.polcert_format.specs.declared.fault.ModelFault.{ModelFault}
use Rattle.polcert_format.specs.declared.fault.ModelFault.TheVariants as model_faults
use Rattle.polcert_items.specs.declared.item.ItemReader.{ItemReader}
use Rattle.polcert_items.specs.declared.signed_number.Refusal.{Refusal}
use Rattle.polcert_model.specs.declared.reader.TextReader.{TextReader}
use Rattle.polcert_cells.specs.declared.entries.Entry.{Entry}
use Rattle.polcert_cells.specs.declared.entries.Table.{Table}
use Rattle.polcert_cells.specs.declared.words.Topic.{Topic}
use Rattle.polcert_cells.specs.declared.words.Topic.TheVariants.{Cells}
use Rattle.polcert_cells.specs.Entry.{IsEntry, MayBeGiven}
use Rattle.polcert_cells.specs.Preamble.{Preamble}
use Rattle.polcert_cells.specs.Words.{begins_item}
use Rattle.polcert_format.specs.Text.{ModelSoFar, nothing_known, IsComplete, IsRight}
use Rattle.polcert_format.specs.Order.{word_fault}
use Rattle.polcert_format.specs.Forms.{HasForm, IsPossible}
use Rattle.polcert_format.specs.Reading.{AreRightItems, IsWithinItem}
use Rattle.polcert_format.specs.FirstNumber.{states_known}
use Rattle.polcert_format.specs.FirstWrong.{TextTokens, AreTokensOf}
use Rattle.polcert_format.specs.Refusals.{IsRefusal, IsPlacedRight}
use Rattle.polcert_format.specs.Wants.{expected}
use Rattle.polcert_items.specs.Steps.Wants.{item_wants}
use Rattle.polcert_items.specs.Steps.Items.{ItemGoes, ItemForms, IsItemWithin, IsSeen, topic_of_reader, pending_in}
use Rattle.polcert_items.specs.Steps.ModelSoFar.{IsWholeRead}

-- an entry of this body, right but perhaps for the limits of cells, and what is known after it
pub record IsEntryTo (k : ModelSoFar) (table : Table) (body : List Lexeme) (next : ModelSoFar) : Type 0 where
  pub p : Preamble
  pub e : Entry
  pub complete : IsComplete k p
  pub may_be_given : MayBeGiven p table
  pub entry : IsEntry p table body e
  pub next_is : next ≡ record k { entries = k.entries ++ e ∷ [] }

-- right, but perhaps for the limits of cells
abbrev pub IsShaped : ModelSoFar → Topic → List Lexeme → ModelSoFar → Type 0
IsShaped k (Cells table) body next = IsEntryTo k table body next
IsShaped k t body next = IsRight k t body next

-- the item's body so far, and what its reader makes of what is still to come of it
pub record IsBodyRead (k : ModelSoFar) (t : Topic) (body : List Lexeme) (item : ItemReader) : Type 0 where
  pub may_stand : word_fault k t ≡ None
  pub topic_is : topic_of_reader item ≡ t
  pub within : IsItemWithin k item
  pub seen : IsSeen (states_known k) body item
  pub back : (ls : List Lexeme) (next : ModelSoFar) → ItemGoes k item ls next → IsShaped k t (body ++ ls) next
  pub on : (ls : List Lexeme) (next : ModelSoFar) → IsShaped k t (body ++ ls) next → ItemGoes k item ls next
  pub formed : (ls : List Lexeme) → ItemForms k item ls tt → HasForm k t (body ++ ls)
  pub forms : (ls : List Lexeme) → HasForm k t (body ++ ls) → ItemForms k item ls tt
  pub possible : pending_in item ≡ None → IsPossible k t body
  pub wants : (ls : List Lexeme) → expected k t (body ++ ls) ≡ item_wants k item ls

-- within an item, after right ones
pub record IsItemRead (seen : List Lexeme) (r : TextReader) : Type 0 where
  pub t : Topic
  pub body : List Lexeme
  pub item : ItemReader
  pub within : IsWithinItem seen r.known t body
  pub item_is : r.item ≡ Some item
  pub number_is : r.number ≡ length within.items.items + 1
  pub read : IsBodyRead r.known t body item

-- before the first item
pub record IsNothingRead (seen : List Lexeme) (r : TextReader) : Type 0 where
  pub nothing : seen ≡ []
  pub known_is : r.known ≡ nothing_known
  pub item_is : r.item ≡ None
  pub number_is : r.number ≡ 0

pub data IsTextRead (seen : List Lexeme) (r : TextReader) : Type 0 where
  nothing : IsNothingRead seen r → IsTextRead seen r
  item : IsItemRead seen r → IsTextRead seen r

-- with these lexemes the reader continues
abbrev pub TextReadsOn : TextReader → TextReader → List Lexeme → Type 0
TextReadsOn old new = ReadsOn (λ (_ : Unit {0}). IsTextRead) old new

-- after right items, before the next
pub record AreItemsRead (seen : List Lexeme) (r : TextReader) : Type 0 where
  pub items : AreRightItems seen r.known
  pub item_is : r.item ≡ None
  pub number_is : r.number ≡ length items.items

-- all that is promised of a refusal
pub record Refuses (ts : TextTokens) (fault : ModelFault) : Type 0 where
  pub refusal : IsRefusal ts fault
  pub placed : IsPlacedRight ts fault

-- a refusal of each text whose lexemes begin with these
abbrev pub IsRefusedAfter : List Lexeme → ModelFault → Type 0
IsRefusedAfter seen fault = (text : List ℕ) (ts : TextTokens) (further : List Lexeme) → AreTokensOf text ts → ts.lexemes ≡ seen ++ further → Refuses ts fault

-- an item ends at this place after the lexemes: at the next item's word, or at the clean end of the text
pub data EndsItem (ts : TextTokens) (seen : List Lexeme) (place : ℕ) : Type 0 where
  at_word : (next : Lexeme) (further : List Lexeme) → ts.lexemes ≡ seen ++ next ∷ further → begins_item next ≡ true → place ≡ next.place → EndsItem ts seen place
  at_end : ts.lexemes ≡ seen → ts.ending ≡ None → place ≡ ts.end → EndsItem ts seen place

-- a refusal where an item ends here
abbrev pub IsRefusedAt : List Lexeme → ℕ → ModelFault → Type 0
IsRefusedAt seen place fault = (text : List ℕ) (ts : TextTokens) → AreTokensOf text ts → EndsItem ts seen place → Refuses ts fault

-- how a fault of the tokens is named
abbrev pub fault_kind : TokenFault → ItemFault
fault_kind (token_faults.TextTooLong at) = TextTooLong
fault_kind f = Token f

-- a number of the open item that has no value, where anything follows it
abbrev pub pending_at : Option ItemReader → Option Refusal
pending_at None = None
pending_at (Some i) = pending_in i

-- the refusal where the tokens end in a fault: that of a number before it, or the fault's own
abbrev pub tokens_end : ℕ → Option Refusal → TokenFault → ModelFault
tokens_end number None fault = model_faults.Item (fault_kind fault) number (fault_place fault)
tokens_end number (Some r) fault = model_faults.Item r.kind number r.place

-- the whole text was read, and this is known of it
abbrev pub IsTextOf : List ℕ → ModelSoFar → Type 0
IsTextOf text k = (seen : List Lexeme) × IsCut (text_rest text text_limit) seen None × IsWholeRead seen k

-- a refusal where the text ends cleanly here
abbrev pub IsRefusedWhole : List Lexeme → ℕ → ModelFault → Type 0
IsRefusedWhole seen place fault = (text : List ℕ) (ts : TextTokens) → AreTokensOf text ts → ts.lexemes ≡ seen → ts.ending ≡ None → ts.end ≡ place → Refuses ts fault

-- What each place of an item's body is for, after what its reader holds.
-- Nobody has to believe this: only contracts of private functions cite it.
use Rattle.std.specs.Prelude.{◌≡◌, ℕ, ◌-◌, true, false, Option, Some, None, is_some, List, [], ◌∷◌, length}
use Rattle.polcert_text.specs.Cut.{Lexeme}
use Rattle.polcert_items.specs.declared.preamble_lines.ElementsReader.{ElementsReader}
use Rattle.polcert_items.specs.declared.preamble_lines.ElementsReader.TheVariants as elements
use Rattle.polcert_cells.specs.declared.entries.Place.{Place}
use Rattle.polcert_cells.specs.declared.entries.Table.{Table}
use Rattle.polcert_items.specs.declared.entry_reader.EntryReader.{EntryReader}
use Rattle.polcert_items.specs.declared.entry_reader.EntryState.{EntryState}
use Rattle.polcert_items.specs.declared.entry_reader.EntryState.TheVariants as states
use Rattle.polcert_items.specs.declared.entry_reader.Numbers.{Numbers}
use Rattle.polcert_items.specs.declared.item.ItemReader.{ItemReader}
use Rattle.polcert_items.specs.declared.item.ItemReader.TheVariants as items
use Rattle.polcert_items.specs.declared.preamble_lines.DiscountReader.{DiscountReader}
use Rattle.polcert_items.specs.declared.preamble_lines.DiscountReader.TheVariants as discount
use Rattle.polcert_items.specs.declared.preamble_lines.ValuesReader.{ValuesReader}
use Rattle.polcert_items.specs.declared.preamble_lines.ValuesReader.TheVariants as values
use Rattle.polcert_items.specs.declared.signed_number.Sign.{Sign}
use Rattle.polcert_items.specs.declared.start_reader.StartReader.{StartReader}
use Rattle.polcert_items.specs.declared.start_reader.StartReader.TheVariants as starts
use Rattle.polcert_format.specs.declared.fault.ItemFault.{ItemFault}
use Rattle.polcert_items.specs.declared.item.EndError.{EndError}
use Rattle.polcert_items.specs.declared.item.EndError.TheVariants as ends
use Rattle.polcert_cells.specs.declared.words.Topic.{Topic}
use Rattle.polcert_cells.specs.declared.words.Topic.TheVariants.{Start}
use Rattle.polcert_cells.specs.Elements.{count_of, most_states, most_actions, most_observations}
use Rattle.polcert_format.specs.Text.{ModelSoFar}
use Rattle.polcert_items.specs.Steps.Elements.{names_with}
use Rattle.polcert_cells.specs.Preamble.{Preamble}
use Rattle.polcert_format.specs.KnownPreamble.{preamble_in}
use Rattle.polcert_format.specs.Misfits.{Expected, Mark, Listed, FurtherName, NumberOrEnd, Number, Digits, EndOfWord}
use Rattle.polcert_format.specs.Wants as wants
use Rattle.polcert_format.specs.Wants.{numbers_want}

-- after one more lexeme the places are for what they were for before it
pub record ExpectsNext (old : List Lexeme → Expected) (l : Lexeme) (new : List Lexeme → Expected) : Type 0 where
  pub same : (ls : List Lexeme) → old (l ∷ ls) ≡ new ls

-- what a number wants after this sign
abbrev pub number_wants : Option Sign → Expected
number_wants None = Number
number_wants (Some sign) = Digits

abbrev pub expected_by_discount : DiscountReader → List Lexeme → Expected
expected_by_discount discount.Colon ls = wants.discount_wants ls
expected_by_discount (discount.Number sign) ls = numbers_want (is_some sign) 1 ls
expected_by_discount (discount.Done d) ls = numbers_want false 0 ls

abbrev pub word_wants : List Lexeme → Expected
word_wants [] = Mark
word_wants (l ∷ ls) = EndOfWord

abbrev pub expected_by_values : ValuesReader → List Lexeme → Expected
expected_by_values values.Colon ls = wants.values_want ls
expected_by_values values.Word ls = word_wants ls
expected_by_values (values.Done b) ls = EndOfWord

abbrev pub expected_by_elements : ℕ → ElementsReader → List Lexeme → Expected
expected_by_elements most elements.Colon ls = wants.elements_want most ls
expected_by_elements most elements.First ls = wants.names_want most ls
expected_by_elements most (elements.Counted n) ls = EndOfWord
expected_by_elements most (elements.Named names) ls = FurtherName most (names_with names ls)

-- this many numbers are still to come
abbrev pub expected_by_numbers : {T : Type 0} → Numbers T → List Lexeme → Expected
expected_by_numbers n ls = numbers_want (is_some n.sign) (n.needed - length n.read) ls

abbrev pub state_wants : Preamble → Table → List Place → EntryState → List Lexeme → Expected
state_wants p table places states.Colon ls = wants.cells_want p table ls
state_wants p table places states.Place ls = wants.entry_wants p table true (length places) ls
state_wants p table places states.Body ls = wants.entry_wants p table false (length places) ls
state_wants p table places (states.Probabilities n) ls = expected_by_numbers n ls
state_wants p table places (states.Rewards n) ls = expected_by_numbers n ls
state_wants p table places (states.Word w) ls = EndOfWord

abbrev pub expected_by_entry : Preamble → EntryReader → List Lexeme → Expected
expected_by_entry p r ls = state_wants p r.table r.places r.state ls

-- after digits that may be a state's number
abbrev pub digits_want : ℕ → List Lexeme → Expected
digits_want count [] = NumberOrEnd
digits_want count (l ∷ ls) = numbers_want false (count - 1) (l ∷ ls)

abbrev pub expected_by_start : ℕ → StartReader → List Lexeme → Expected
expected_by_start count starts.Form ls = wants.start_wants count ls
expected_by_start count (starts.Colon choice) ls = wants.list_wants ls
expected_by_start count (starts.List chosen) ls = Listed
expected_by_start count starts.Body ls = wants.start_body_wants count ls
expected_by_start count starts.Every ls = EndOfWord
expected_by_start count (starts.Only s) ls = EndOfWord
expected_by_start count (starts.Sign sign) ls = numbers_want true count ls
expected_by_start count (starts.Number first) ls = numbers_want false (count - 1) ls
expected_by_start count (starts.StateOrNumber digits) ls = digits_want count ls
expected_by_start count (starts.Probabilities n) ls = expected_by_numbers n ls

abbrev pub item_wants : ModelSoFar → ItemReader → List Lexeme → Expected
item_wants k (items.Discount r) ls = expected_by_discount r ls
item_wants k (items.Values r) ls = expected_by_values r ls
item_wants k (items.States r) ls = expected_by_elements most_states r ls
item_wants k (items.Actions r) ls = expected_by_elements most_actions r ls
item_wants k (items.Observations r) ls = expected_by_elements most_observations r ls
item_wants k (items.Start r) ls = expected_by_start (count_of (preamble_in k).states) r ls
item_wants k (items.Entry r) ls = expected_by_entry (preamble_in k) r ls

-- this holds of items that are no start item
abbrev pub IfNotStart : Topic → Type 0 → Type 0
IfNotStart Start P = Unit {0}
IfNotStart _ P = P

-- this holds of a refusal where the item ends
abbrev pub IfAtEnd : EndError → (ItemFault → Type 0) → Type 0
IfAtEnd (ends.AtEnd kind) P = P kind
IfAtEnd _ P = Unit {0}

-- this holds of start items
abbrev pub IfStart : Topic → Type 0 → Type 0
IfStart Start P = P
IfStart _ P = Unit {0}

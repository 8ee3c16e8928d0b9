-- An entry that continues with several lexemes at once: those that stand whole at the front of some bytes.
-- Nobody has to believe this: only contracts of the readers of items and texts cite it.
use Rattle.std.specs.Prelude.{◌≡◌, ℕ, ◌<◌, ◌≤◌, ◌⊎◌, true, false, None, List, [], ◌∷◌, ◌++◌, length, get_or}
use Rattle.polcert_text.specs.Beginning.{BeginWith}
use Rattle.polcert_text.specs.Cut.{Lexeme}
use Rattle.polcert_cells.specs.Words.{begins_item}
use Rattle.polcert_cells.specs.Elements.{count_of, most_elements}
use Rattle.polcert_cells.specs.declared.elements.Elements.{Elements}
use Rattle.polcert_cells.specs.declared.elements.Elements.TheVariants.{Count}
use Rattle.polcert_cells.specs.declared.entries.Entry.{Entry}
use Rattle.polcert_cells.specs.declared.entries.Table.{Table}
use Rattle.polcert_cells.specs.declared.words.Topic.TheVariants.{Cells}
use Rattle.polcert_format.specs.KnownPreamble.{preamble_in, indices_in, named_in}
use Rattle.polcert_format.specs.Limits.{HasFewCells}
use Rattle.polcert_format.specs.Misfits.{begins_number}
use Rattle.polcert_format.specs.Order.{word_fault}
use Rattle.polcert_format.specs.Text.{ModelSoFar}
use Rattle.polcert_items.specs.Steps.Entries.{EntryGoes, NumberListGoes, HasRoom, IsFirstPlace, IsWithinIndices, entry_sign, no_numbers}
use Rattle.polcert_items.specs.Steps.Items.{new_entry}
use Rattle.polcert_items.specs.Steps.Lines.{TakesLexeme}
use Rattle.polcert_items.specs.Steps.ModelSoFar.{with_item}
use Rattle.polcert_items.specs.Steps.Numbers.{ListKind, SignIs}
use Rattle.polcert_items.specs.Steps.Wants.{ExpectsNext, expected_by_numbers, expected_by_entry}
use Rattle.polcert_items.specs.declared.ahead.FrontPlace.{FrontPlace}
use Rattle.polcert_items.specs.declared.ahead.ListAhead.{ListAhead}
use Rattle.polcert_items.specs.declared.entry_reader.EntryReader.{EntryReader}
use Rattle.polcert_items.specs.declared.entry_reader.EntryState.{EntryState}
use Rattle.polcert_items.specs.declared.entry_reader.EntryState.TheVariants as states
use Rattle.polcert_items.specs.declared.entry_reader.Numbers.{Numbers}
use Rattle.polcert_items.specs.declared.item.ItemContents.TheVariants as says
use Rattle.polcert_items.specs.declared.item.ItemReader.{ItemReader}
use Rattle.polcert_items.specs.declared.item.ItemReader.TheVariants as items

-- an entry's reader took one more lexeme, which begins no item
pub record IsFed (k : ModelSoFar) (old : EntryReader) (l : Lexeme) (new : EntryReader) : Type 0 where
  pub inside : begins_item l ≡ false
  pub table : new.table ≡ old.table
  pub within : IsWithinIndices (indices_in k old.table) new
  pub takes : TakesLexeme (EntryGoes (preamble_in k)) old l new
  pub sign : SignIs (entry_sign new.state) l
  pub leads : ExpectsNext (expected_by_entry (preamble_in k) old) l (expected_by_entry (preamble_in k) new)

-- a list of such numbers took one more lexeme, a sign or a numeral
pub record IsListFed {T : Type 0} (kind : ListKind T) (old : Numbers T) (l : Lexeme) (new : Numbers T) : Type 0 where
  pub begins : begins_number l.kind ≡ true
  pub room : HasRoom new
  pub takes : TakesLexeme (NumberListGoes kind) old l new
  pub sign : SignIs new.sign l
  pub leads : ExpectsNext (expected_by_numbers old) l (expected_by_numbers new)

-- these lexemes were taken by such steps, one after another
pub data AreTaken {R : Type 0} (NumberStep : R → Lexeme → R → Type 0) : R → List Lexeme → R → Type 0 where
  none : (r : R) → AreTaken NumberStep r [] r
  more : (old between new : R) (ls : List Lexeme) (l : Lexeme) → AreTaken NumberStep old ls between → NumberStep between l new → AreTaken NumberStep old (ls ++ l ∷ []) new

-- the lexemes that were taken are the first of these bytes, wherever these stand
pub record StepsAhead {R : Type 0} (NumberStep : R → Lexeme → R → Type 0) (old : R) (bytes : List ℕ) (count : ℕ) (new : R) : Type 0 where
  pub within : count ≤ length bytes
  pub fed : (place : ℕ) → (ls : List Lexeme) × (BeginWith place bytes count ls × AreTaken NumberStep old ls new)

-- a list of this many numbers was begun with the first of these bytes, and has its first number
pub record IsListBegun {T : Type 0} (kind : ListKind T) (needed : ℕ) (bytes : List ℕ) (list : ListAhead T) : Type 0 where
  pub ahead : StepsAhead (IsListFed kind) (no_numbers needed) bytes list.len list.numbers
  pub some : 0 < length list.numbers.read

abbrev pub FedAhead : ModelSoFar → EntryReader → List ℕ → ℕ → EntryReader → Type 0
FedAhead k old bytes count new = StepsAhead (IsFed k) old bytes count new

-- an item that is an entry went on so, or nothing was taken
pub data ItemFedAhead (k : ModelSoFar) (old : ItemReader) (bytes : List ℕ) (count : ℕ) (new : ItemReader) : Type 0 where
  nothing : count ≡ 0 → new ≡ old → ItemFedAhead k old bytes count new
  entry : (a b : EntryReader) → old ≡ items.Entry a → new ≡ items.Entry b → FedAhead k a bytes count b → ItemFedAhead k old bytes count new

-- an entry ended, and one of this table began in its reader
pub record IsNextEntry (k : ModelSoFar) (old : EntryReader) (table : Table) (known : ModelSoFar) (new : EntryReader) : Type 0 where
  pub e : Entry
  pub goes : EntryGoes (preamble_in k) old [] e
  pub few : HasFewCells (preamble_in k) (k.entries ++ e ∷ [])
  pub free : word_fault k (Cells table) ≡ None
  pub known_is : known ≡ with_item k (says.Entry e)
  pub new_is : new ≡ new_entry table

-- an item that is an entry did
pub record IsNextItem (k : ModelSoFar) (old : ItemReader) (table : Table) (known : ModelSoFar) (new : ItemReader) : Type 0 where
  pub a : EntryReader
  pub b : EntryReader
  pub old_is : old ≡ items.Entry a
  pub new_is : new ≡ items.Entry b
  pub next : IsNextEntry k a table known b

-- a token that is a place of the first of these indices is the first of some bytes
pub record BeginWithPlace (ds : List Elements) (position : ℕ) (bytes : List ℕ) (found : FrontPlace) : Type 0 where
  pub token : Lexeme
  pub place_is : IsFirstPlace ds token found.place
  pub front : BeginWith position bytes found.len (token ∷ [])

-- the reader in such a state
abbrev pub with_state : EntryReader → EntryState → EntryReader
with_state r s = record { table = r.table; places = r.places; state = s }

-- a colon may come next
abbrev pub AwaitsColon : EntryState → Type 0
AwaitsColon s = (s ≡ states.Colon) ⊎ (s ≡ states.Body)

-- places were taken, each after a colon, where one may come next; the state is left to the caller
pub record PlacesFed (k : ModelSoFar) (old : EntryReader) (bytes : List ℕ) (count : ℕ) (new : EntryReader) : Type 0 where
  pub high : count ≤ length bytes
  pub fed : (s : EntryState) → AwaitsColon s → IsWithinIndices (indices_in k old.table) (with_state old s)
      → FedAhead k (with_state old s) bytes count (with_state new states.Body)
  pub within : IsWithinIndices (indices_in k new.table) (with_state new states.Body)
  pub state : new.state ≡ old.state
  pub table : new.table ≡ old.table

-- as many elements as each place of the table may name
abbrev pub AreCounts : ModelSoFar → Table → List ℕ → Type 0
AreCounts k table counts = (n : ℕ) → n < length (indices_in k table)
    → (get_or counts n 0 ≡ count_of (get_or (named_in k table) n (Count 0))) × (get_or counts n 0 ≤ most_elements)

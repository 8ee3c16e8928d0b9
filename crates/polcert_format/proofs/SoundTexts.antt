-- What a right text says is sound, so that a model may keep it.
use Rattle.std.proofs.Common.{◌≡◌, ℕ, ◌≤◌, List, [], ◌∷◌, All, unwrap_or, ℤ, unsigned_abs, refl, sym, subst, arith}
use Rattle.polcert_format.proofs.Common.{All-append, Lexeme, largest, Table, Reward, Place, Body, Entry, Topic, AreNumbers, Elements}
use Rattle.polcert_format.proofs.Common.{Item, Preamble, dimensions, ArePlaces}
use Rattle.polcert_format.proofs.Common.{IsBody, IsEntry, ModelSoFar, nothing_known, HasLines, IsRight, AreRight, IsRightText}
use Rattle.polcert_cells.specs.Numbers as numbers
use Rattle.polcert_cells.specs.Preamble.{named}
use Rattle.polcert_cells.specs.Entry as entries
use Rattle.polcert_format.specs.Text as texts
use Rattle.polcert_cells.specs.Steps.Sound.{ArePlacesIn, Fills, IsSoundEntry, IsSound}
use Rattle.polcert_format.proofs.LimitLaws.{number_within, all_within}

-- ---- one entry
places_in : {ds : List Elements} {ls : List Lexeme} {ps : List Place} → ArePlaces ds ls ps → ArePlacesIn ds ps
places_in entries.none = tt
places_in (entries.more {d = d} {l = l} {p = p} colon here following) = (grind arith, places_in following)

-- one more number
more_small : (h : ℤ) (hs : List ℤ) → unsigned_abs h ≤ largest → All (λ (z : ℤ). unsigned_abs z ≤ largest) hs
    → All (λ (z : ℤ). unsigned_abs z ≤ largest) (h ∷ hs)
more_small h hs h1 h2 = grind arith

small : {ls : List Lexeme} {hs : List ℤ} → AreNumbers ls hs → All (λ (z : ℤ). unsigned_abs z ≤ largest) hs
small numbers.none = λ k d l. absurd (omega (arith, l))
small (numbers.unsigned {h = h} {hs = hs} a more) = more_small h hs (number_within _ _ h a) (small more)
small (numbers.plus {h = h} {hs = hs} sign a more) = more_small h hs (number_within _ _ h a) (small more)
small (numbers.minus {h = h} {hs = hs} sign a more) = more_small h hs (number_within _ _ h a) (small more)

fills : {cells : ℕ} {ls : List Lexeme} {body : Body} → IsBody cells ls body → Fills cells body
fills h1 = grind (arith, small)

-- what a place may name is an index
names_index : (p : Preamble) (table : Table) (ps : List Place) → ArePlacesIn (named p table) ps → ArePlacesIn (dimensions p table) ps
names_index p Reward (x ∷ y ∷ z ∷ w ∷ ps) a = grind (arith, unwrap_or)
names_index p _ _ a = a

-- a right entry is sound
pub right_entry_sound : (p : Preamble) (table : Table) (ls : List Lexeme) (entry : Entry) → IsEntry p table ls entry → IsSoundEntry p entry
right_entry_sound p table ls entry e = grind (arith, places_in, fills, names_index)

-- ---- the whole text
-- with any preamble that these lines say, the entries are sound
abbrev HasSoundEntries : ModelSoFar → Type 0
HasSoundEntries k = (p : Preamble) → HasLines k p → All (IsSoundEntry p) k.entries

no_entries : (k : ModelSoFar) (p : Preamble) → k.entries ≡ [] → All (IsSoundEntry p) k.entries
no_entries k p e = subst (All (IsSoundEntry p)) (sym e) (λ i d l. absurd (omega (arith, l)))

next_sound : (k : ModelSoFar) (t : Topic) (ls : List Lexeme) (next : ModelSoFar) → HasSoundEntries k → IsRight k t ls next
    → HasSoundEntries next
next_sound k t ls next h (texts.discount i e c n l) = λ p a. no_entries k p i.no_entry
next_sound k t ls next h (texts.rewards i e c v) = λ p a. no_entries k p i.no_entry
next_sound k t ls next h (texts.costs i e c v) = λ p a. no_entries k p i.no_entry
next_sound k t ls next h (texts.states i e c a) = λ p b. no_entries k p i.no_entry
next_sound k t ls next h (texts.actions i e c a) = λ p b. no_entries k p i.no_entry
next_sound k t ls next h (texts.observations i e c a) = λ p b. no_entries k p i.no_entry
next_sound k t ls next h (texts.start i c a) = λ p b. no_entries k p i.no_entry
next_sound k t ls next h (texts.entry {p = q} {table = table} {e = entry} c g a f) = λ p b.
    let lines : HasLines k p = record {
      discount = b.discount;
      costs = b.costs;
      states = b.states;
      actions = b.actions;
      observations = b.observations;
    } in
    let here : IsSoundEntry p entry = subst (λ (r : Preamble). IsSoundEntry r entry) (grind arith)
    (right_entry_sound q _ ls _ a) in
    All-append (IsSoundEntry p) _ _ (h p lines) (grind arith)

all_sound : (k : ModelSoFar) (items : List Item) (end : ModelSoFar) → HasSoundEntries k → AreRight k items end → HasSoundEntries end
all_sound k items end h texts.none = h
all_sound k (item ∷ items) end h (texts.more {next = next} t e here following) =
    all_sound next items end (next_sound k t item.body next h here) following

-- what a right text says is sound
pub right_text_sound : (ls : List Lexeme) (p : Preamble) (k : ModelSoFar) → IsRightText ls p k
    → IsSound (record { preamble = p; start = k.start; entries = k.entries })
right_text_sound ls p k r =
    let w = all_within _ _ k _ r.right in
    record {
      states = grind arith;
      actions = grind arith;
      observations = grind arith;
      discount = grind arith;
      start = grind arith;
      entries = all_sound _ _ k (λ q a. no_entries nothing_known q refl) r.right p r.complete.lines;
    }

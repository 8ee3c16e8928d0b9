-- What is decided at an item's word is so: the items of such a topic aren't right there, or the preamble is complete.
use Rattle.std.proofs.Common.{◌≡◌, ◌∙◌, ℕ, ◌≤◌, Bool, true, false, cond, ◌||◌, ◌&&◌, Option, Some, None, is_some, unwrap_or, List, []}
use Rattle.std.proofs.Common.{nat_lt, refl, arith}
use Rattle.polcert_format.proofs.Common.{nat_tests, Lexeme, ItemFault, TooManyCells, Table, Topic, Discount, Start, Cells, Elements}
use Rattle.polcert_format.proofs.Common.{count_of, most_pairs, Preamble, observed, ModelSoFar, HasLines, IsComplete}
use Rattle.polcert_format.proofs.Common.{preamble_fault, word_fault, IsWrong}
use Rattle.polcert_format.specs.declared.fault.ItemFault.TheVariants.{DuplicateLine, LateLine, MissingLine}
use Rattle.polcert_cells.specs.Entry.{MayBeGiven}
use Rattle.polcert_cells.specs.declared.words.Topic.TheVariants.{Values, States, Actions, Observations}
use Rattle.polcert_format.specs.Text.{IsInPreamble}
use Rattle.polcert_format.specs.Order.{has_entries, has_all_lines, count_or, count_in, pairs_are_too_many, is_unobserved, fault_after}
use Rattle.polcert_cells.proofs.Basics.{some≢none}

-- ---- a complete preamble has no fault

not_too_many : (n : ℕ) → n ≤ most_pairs → nat_lt most_pairs n ≡ false
not_too_many n l = grind (arith, nat_tests)

all_lines : (k : ModelSoFar) (p : Preamble) → HasLines k p → has_all_lines k ≡ true
all_lines k p h = cc

-- by the counts that are known
abbrev pub are_too_many : ModelSoFar → Bool
are_too_many k = pairs_are_too_many (count_in k.states) (count_or (count_in k.states) k.observations)

-- by those of a preamble
abbrev have_too_many : Preamble → Bool
have_too_many p = pairs_are_too_many (count_of p.states) (count_of (observed p))

pub count_of_line : (o : Option Elements) (e : Elements) → count_or (count_of e) o ≡ count_of (unwrap_or o e)
count_of_line o e = grind arith

same_counts : (k : ModelSoFar) (p : Preamble) → HasLines k p → are_too_many k ≡ have_too_many p
same_counts k p h = grind arith

-- the reason, of whether all lines came and whether there are too many pairs
abbrev fault_of : Bool → Bool → Option ItemFault
fault_of lines many = cond lines (cond many (Some TooManyCells) None) (Some MissingLine)

pub complete_fault : (k : ModelSoFar) (p : Preamble) → IsComplete k p → preamble_fault k ≡ None
complete_fault k p c = λ i. fault_of (all_lines k p c.lines i) ((same_counts k p c.lines ∙ not_too_many _ c.pairs) i)

pub not_complete : (k : ModelSoFar) (p : Preamble) (fault : ItemFault) → preamble_fault k ≡ Some fault → IsComplete k p → ⊥
not_complete k p fault e c = some≢none e (complete_fault k p c)

-- ---- a preamble without a fault is complete

no_fault : (lines many : Bool) → fault_of lines many ≡ None → (lines ≡ true) × (many ≡ false)
no_fault lines many h1 = grind arith

record Given (d : Option ℕ) (c : Option Bool) (s a o : Option Elements) : Type 0 where
  preamble : Preamble
  discount : d ≡ Some preamble.discount
  costs : c ≡ Some preamble.costs
  states : s ≡ Some preamble.states
  actions : a ≡ Some preamble.actions
  observations : o ≡ preamble.observations

given : (d : Option ℕ) (c : Option Bool) (s a o : Option Elements) → (is_some d && is_some c && is_some s && is_some a) ≡ true
    → Given d c s a o
given (Some d) (Some c) (Some s) (Some a) o e = record {
  preamble = record { discount = d; costs = c; states = s; actions = a; observations = o };
  discount = refl;
  costs = refl;
  states = refl;
  actions = refl;
  observations = refl;
}
given _ _ _ _ o e = absurd cc

pub is_complete : (k : ModelSoFar) → preamble_fault k ≡ None → (p : Preamble) × IsComplete k p
is_complete k e =
    let both = no_fault _ _ e in
    let g = given _ _ _ _ _ both.0 in
    let lines : HasLines k g.preamble = record {
      discount = g.discount;
      costs = g.costs;
      states = g.states;
      actions = g.actions;
      observations = g.observations;
    } in
    (g.preamble, record { lines = lines; pairs = grind (arith, nat_tests) })

-- ---- a right item has no fault at its word

-- of whether it comes late, came before and ends the preamble
abbrev pub fault_at : Bool → Bool → Bool → Option ItemFault → Option ItemFault
fault_at late came ends fault = cond late (Some LateLine) (cond came (Some DuplicateLine) (cond ends fault None))

pub cells_stand : (k : ModelSoFar) (p : Preamble) (table : Table) → IsComplete k p → MayBeGiven p table → word_fault k (Cells table) ≡ None
cells_stand k p table c g = grind arith

pub wrong_at_word : (k : ModelSoFar) (t : Topic) (fault : ItemFault) (body : List Lexeme) → word_fault k t ≡ Some fault → IsWrong k t body
wrong_at_word k t fault body e after taken = some≢none e (grind arith)

-- ---- a topic without a fault at its word may stand

no_fault_at : (late came ends : Bool) (fault : Option ItemFault) → fault_at late came ends fault ≡ None → (late ≡ false) × (came ≡ false)
    × (ends ≡ true → fault ≡ None)
no_fault_at late came ends fault h1 = grind arith

module _ (k : ModelSoFar) where
  pub in_preamble : (is_some k.start || has_entries k.entries) ≡ false → IsInPreamble k
  in_preamble e = grind arith

  -- a line of the preamble: it comes first, and early
  pub line_may_stand : (came : Bool)
      → fault_at (is_some k.start || has_entries k.entries) came false (preamble_fault k) ≡ None → IsInPreamble k × (came ≡ false)
  line_may_stand came e = let all = no_fault_at _ came false (preamble_fault k) e in (in_preamble all.0, all.1)

  pub discount_may_stand : word_fault k Discount ≡ None → IsInPreamble k × (k.discount ≡ None)
  discount_may_stand e = let both = line_may_stand _ e in (both.0, grind arith)

  pub values_may_stand : word_fault k Values ≡ None → IsInPreamble k × (k.costs ≡ None)
  values_may_stand e = let both = line_may_stand _ e in (both.0, grind arith)

  pub states_may_stand : word_fault k States ≡ None → IsInPreamble k × (k.states ≡ None)
  states_may_stand e = let both = line_may_stand _ e in (both.0, grind arith)

  pub actions_may_stand : word_fault k Actions ≡ None → IsInPreamble k × (k.actions ≡ None)
  actions_may_stand e = let both = line_may_stand _ e in (both.0, grind arith)

  pub observations_may_stand : word_fault k Observations ≡ None → IsInPreamble k × (k.observations ≡ None)
  observations_may_stand e = let both = line_may_stand _ e in (both.0, grind arith)

after_none : (fault : Option ItemFault) (k : ModelSoFar) (t : Topic) → fault_after fault k t ≡ None → (fault ≡ None)
    × (is_unobserved k t ≡ false)
after_none fault k t h1 = grind arith

-- an entry: the preamble is complete, and there may be entries of the table
pub entry_may_stand : (k : ModelSoFar) (table : Table) → word_fault k (Cells table) ≡ None → (p : Preamble) × IsComplete k p
    × MayBeGiven p table
entry_may_stand k table e =
    let both = after_none _ k _ e in
    let complete = is_complete k both.0 in
    (complete.0, complete.1, grind arith)

-- a start item: nothing but a complete preamble came before
pub start_may_stand : (k : ModelSoFar) → word_fault k Start ≡ None → IsInPreamble k × ((p : Preamble) × IsComplete k p)
start_may_stand k e =
    let all = no_fault_at _ _ true (fault_after (preamble_fault k) k Start) e in (
      record { no_start = grind arith; no_entry = grind arith },
      is_complete k (after_none _ k _ (all.2 refl)).0,
    )

-- Which items may stand where: what is decided at an item's word, before its body.
-- Source: the POMDP file format page at pomdp.org: the preamble first, then the start item, then the entries. Our own:
-- which of these faults comes first, and its name.
use Rattle.std.specs.Prelude.{ℕ, ◌*◌, Bool, true, false, ◌||◌, ◌&&◌, Option, Some, None, is_some, is_none, List, [], ◌∷◌, nat_lt, if◌then◌else◌}
use Rattle.polcert_format.specs.declared.fault.ItemFault.{ItemFault}
use Rattle.polcert_format.specs.declared.fault.ItemFault.TheVariants.{BadShape, DuplicateLine, LateLine, MissingLine, TooManyCells}
use Rattle.polcert_cells.specs.declared.entries.Entry.{Entry}
use Rattle.polcert_cells.specs.declared.entries.Table.TheVariants.{Observation}
use Rattle.polcert_cells.specs.declared.words.Topic.{Topic}
use Rattle.polcert_cells.specs.declared.words.Topic.TheVariants.{Discount, Values, States, Actions, Observations, Start, Cells}
use Rattle.polcert_cells.specs.declared.elements.Elements.{Elements}
use Rattle.polcert_cells.specs.Elements.{count_of, most_pairs}
use Rattle.polcert_format.specs.Text.{ModelSoFar}

abbrev pub has_entries : List Entry → Bool
has_entries [] = false
has_entries (e ∷ es) = true

-- An item of this topic came too late: a line of the preamble after a start item or an entry, a start item after an
-- entry.
abbrev pub is_late : ModelSoFar → Topic → Bool
is_late k (Cells table) = false
is_late k Start = has_entries k.entries
is_late k _ = is_some k.start || has_entries k.entries

-- an item of this topic came before, where one may stand once only
abbrev pub came_before : ModelSoFar → Topic → Bool
came_before k Discount = is_some k.discount
came_before k Values = is_some k.costs
came_before k States = is_some k.states
came_before k Actions = is_some k.actions
came_before k Observations = is_some k.observations
came_before k Start = is_some k.start
came_before k (Cells table) = false

-- the start item and the entries stand after a complete preamble
abbrev pub ends_preamble : Topic → Bool
ends_preamble Start = true
ends_preamble (Cells table) = true
ends_preamble _ = false

-- (a text without a line of observations is an MDP's)
abbrev pub has_all_lines : ModelSoFar → Bool
has_all_lines k = is_some k.discount && is_some k.costs && is_some k.states && is_some k.actions

-- how many elements a line says, or this many where it didn't come
abbrev pub count_or : ℕ → Option Elements → ℕ
count_or count None = count
count_or count (Some elements) = count_of elements

abbrev pub count_in : Option Elements → ℕ
count_in elements = count_or 0 elements

-- by how many elements are observed
abbrev pub pairs_are_too_many : ℕ → ℕ → Bool
pairs_are_too_many states observed = nat_lt most_pairs (states * observed)

-- why the preamble isn't complete: a line is missing, or else there are too many pairs of a state and an observation
abbrev pub preamble_fault : ModelSoFar → Option ItemFault
preamble_fault k =
    if has_all_lines k then (if pairs_are_too_many (count_in k.states) (count_or (count_in k.states) k.observations) then Some TooManyCells else None)
    else Some MissingLine

-- an item of O in an MDP
abbrev pub is_unobserved : ModelSoFar → Topic → Bool
is_unobserved k (Cells Observation) = is_none k.observations
is_unobserved k _ = false

-- why an item of this topic cannot stand after a preamble with this fault, if it has one
abbrev pub fault_after : Option ItemFault → ModelSoFar → Topic → Option ItemFault
fault_after (Some fault) k t = Some fault
fault_after None k t = if is_unobserved k t then Some BadShape else None

-- Why an item of this topic cannot stand after what is known, whatever its body: the first of too late, a second time, a missing line,
-- too many pairs, and an entry of O in an MDP.
abbrev pub word_fault : ModelSoFar → Topic → Option ItemFault
word_fault k t =
    if is_late k t then Some LateLine
    else (if came_before k t then Some DuplicateLine
    else (if ends_preamble t then fault_after (preamble_fault k) k t
    else None))

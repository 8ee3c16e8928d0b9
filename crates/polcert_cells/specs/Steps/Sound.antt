-- What is known of a draft, so that looking a cell up stays within bounds.
-- Nobody has to believe this file: no contract above `polcert_rules` rests on it, and what a right text says is shown to
-- meet it.
use Rattle.std.specs.Prelude.{◌≡◌, ℕ, ◌<◌, ◌≤◌, ◌==◌, Bool, true, Option, List, [], ◌∷◌, length, drop, All, unsigned_abs}
use Rattle.std.specs.List.{list_any}
use Rattle.std.specs.Option.{ForSome}
use Rattle.polcert_text.specs.Numbers.{largest}
use Rattle.polcert_cells.specs.declared.entries.Place.{Place}
use Rattle.polcert_cells.specs.declared.entries.Place.TheVariants.{Every, Only}
use Rattle.polcert_cells.specs.declared.entries.Body.{Body}
use Rattle.polcert_cells.specs.declared.entries.Body.TheVariants.{Probabilities, Rewards, Uniform, Identity}
use Rattle.polcert_cells.specs.declared.entries.Entry.{Entry}
use Rattle.polcert_cells.specs.Numbers.{one}
use Rattle.polcert_cells.specs.Elements.{Elements, count_of, most_states, most_actions, most_observations}
use Rattle.polcert_cells.specs.Preamble.{Preamble, is_mdp, observed, dimensions}
use Rattle.polcert_cells.specs.Entry.{forms, cells_in}
use Rattle.polcert_cells.specs.Start.{StartWeights}
use Rattle.polcert_cells.specs.Meaning.{IsCount}
use Rattle.polcert_cells.specs.Steps.Drafts.{Draft}

-- a place is `*`, or one of the elements
abbrev pub IsPlaceIn : Elements → Place → Type 0
IsPlaceIn d Every = Unit {0}
IsPlaceIn d (Only index) = index < count_of d

-- the places stand for the first of the indices
abbrev pub ArePlacesIn : List Elements → List Place → Type 0
ArePlacesIn ds [] = Unit {0}
ArePlacesIn [] (p ∷ ps) = ⊥
ArePlacesIn (d ∷ ds) (p ∷ ps) = IsPlaceIn d p × ArePlacesIn ds ps

-- a body with a number for each of this many cells, none too large
abbrev pub Fills : ℕ → Body → Type 0
Fills cells (Probabilities ps) = (length ps ≡ cells) × All (λ p. p ≤ one) ps
Fills cells (Rewards hs) = (length hs ≡ cells) × All (λ h. unsigned_abs h ≤ largest) hs
Fills cells Uniform = Unit {0}
Fills cells Identity = Unit {0}

-- the entry has one of the forms, its places are elements, and its body fills the cells that they leave open
pub record IsSoundEntry (p : Preamble) (entry : Entry) : Type 0 where
  pub form : list_any (λ n. n == length entry.places) (forms (is_mdp p) entry.table entry.body) ≡ true
  pub places : ArePlacesIn (dimensions p entry.table) entry.places
  pub body : Fills (cells_in (drop (length entry.places) (dimensions p entry.table))) entry.body

-- counts, a discount of at most one, a share for each state, and sound entries
pub record IsSound (d : Draft) : Type 0 where
  pub states : IsCount most_states (count_of d.preamble.states)
  pub actions : IsCount most_actions (count_of d.preamble.actions)
  pub observations : IsCount most_observations (count_of (observed d.preamble))
  pub discount : d.preamble.discount ≤ one
  pub start : ForSome d.start (λ found. length found.weights ≡ count_of d.preamble.states)
  pub entries : All (IsSoundEntry d.preamble) d.entries

-- the draft of a text with these lines, this start item or none, and these entries
abbrev pub draft_of : ℕ → Bool → Elements → Elements → Option Elements → Option StartWeights → List Entry → Draft
draft_of discount costs states actions observations start entries = record {
  preamble = record { discount = discount; costs = costs; states = states; actions = actions; observations = observations };
  start = start;
  entries = entries;
}

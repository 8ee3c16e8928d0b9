-- An entry that is borrowed: the entry that it is; which entries can be kept; and the rewards of all entries.
use Rattle.std.specs.Prelude.{◌≡◌, ℕ, ◌+◌, ◌*◌, ◌<◌, ◌≤◌, ℤ, All, List, [], ◌∷◌, ◌++◌, Some, length, slice_get, take}
use Rattle.polcert_cells.specs.declared.entries.Body.{Body}
use Rattle.polcert_cells.specs.declared.entries.Body.TheVariants as bodies
use Rattle.polcert_cells.specs.declared.entries.Entry.{Entry}
use Rattle.polcert_cells.specs.declared.entries.BodyRef.{BodyRef}
use Rattle.polcert_cells.specs.declared.entries.BodyRef.TheVariants as refs
use Rattle.polcert_cells.specs.declared.entries.EntryPlaces.{EntryPlaces}
use Rattle.polcert_cells.specs.declared.entries.EntryRef.{EntryRef}
use Rattle.polcert_cells.specs.declared.entries.Place.{Place}
use Rattle.polcert_cells.specs.declared.entries.Place.TheVariants.{Every, Only}
use Rattle.polcert_cells.specs.declared.entries.RewardBody.{RewardBody}
use Rattle.polcert_cells.specs.Elements.{most_elements}
use Rattle.std.specs.Option.{IsSomeAnd}

abbrev pub body_of : BodyRef → Body
body_of (refs.Probabilities ps) = bodies.Probabilities ps.now
body_of (refs.Rewards hs) = bodies.Rewards hs.now
body_of refs.Uniform = bodies.Uniform
body_of refs.Identity = bodies.Identity

abbrev pub places_in : EntryPlaces → List Place
places_in p = take p.count p.items

abbrev pub entry_of : EntryRef → Entry
entry_of e = record { table = e.table; places = places_in e.places; body = body_of e.body }

-- a place is `*`, or one of as many elements as there may be
abbrev pub IsSmallPlace : Place → Type 0
IsSmallPlace Every = Unit {0}
IsSmallPlace (Only index) = index < most_elements

-- the most numbers that an entry of a right text has
abbrev pub most_numbers : ℕ
most_numbers = most_elements * most_elements

abbrev pub IsShortBody : Body → Type 0
IsShortBody (bodies.Probabilities ps) = length ps ≤ most_numbers
IsShortBody (bodies.Rewards hs) = length hs ≤ most_numbers
IsShortBody _ = Unit {0}

-- a list of entries has room for the number of each element, and for how many numbers there are
pub record CanBeKept (e : Entry) : Type 0 where
  pub places : All IsSmallPlace e.places
  pub body : IsShortBody e.body

abbrev pub rewards_of : Body → List ℤ
rewards_of (bodies.Rewards hs) = hs
rewards_of _ = []

-- the rewards of all entries, one after another
abbrev pub all_rewards : List Entry → List ℤ
all_rewards [] = []
all_rewards (e ∷ es) = rewards_of e.body ++ all_rewards es

-- from this place on stand the rewards of the entry of this number
abbrev pub AreRewardsFrom : List Entry → ℕ → ℕ → Type 0
AreRewardsFrom entries number start =
    (e : Entry) → slice_get entries number ≡ Some e → (k : ℕ) (h : ℤ) → slice_get (rewards_of e.body) k ≡ Some h → slice_get (all_rewards entries) (start + k) ≡ Some h

-- these say of each entry where its rewards begin, and how many places it has
abbrev pub AreEntryBodies : List Entry → List RewardBody → Type 0
AreEntryBodies entries bodies =
    (n : ℕ) (e : Entry) → slice_get entries n ≡ Some e → IsSomeAnd (slice_get bodies n) (λ b. (b.places ≡ length e.places) × AreRewardsFrom entries n b.start)

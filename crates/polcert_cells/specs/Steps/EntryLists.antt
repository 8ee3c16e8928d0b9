-- Entries as they are kept: of each its places, and where its numbers stand among those of all.
-- Nobody has to believe this file: a list of entries is the list.
use Rattle.std.specs.Prelude.{◌≡◌, ℕ, ◌+◌, ◌≤◌, ◌==◌, All, List, [], ◌∷◌, ◌++◌, length, map, take, if◌then◌else◌}
use Rattle.std.specs.List.{slice_range}
use Rattle.polcert_cells.specs.declared.entries.Body.{Body}
use Rattle.polcert_cells.specs.declared.entries.Body.TheVariants as bodies
use Rattle.polcert_cells.specs.declared.entries.Entry.{Entry}
use Rattle.polcert_cells.specs.declared.entries.BodyTag.{BodyTag}
use Rattle.polcert_cells.specs.declared.entries.BodyTag.TheVariants as fillings
use Rattle.polcert_cells.specs.declared.entries.EntryHeader.{EntryHeader}
use Rattle.polcert_cells.specs.declared.entries.EntryStore.{EntryStore}
use Rattle.polcert_cells.specs.declared.entries.Place.{Place}
use Rattle.polcert_cells.specs.declared.entries.Place.TheVariants.{Every, Only}
use Rattle.polcert_cells.specs.declared.entries.RewardBody.{RewardBody}
use Rattle.polcert_cells.specs.EntryRefs.{rewards_of, all_rewards}

-- this many items from a start on
abbrev pub part : {X : Type 0} → ℕ → ℕ → List X → List X
part start len xs = slice_range xs start (start + len)

-- the numbers of an entry, or its word
abbrev pub body_in : EntryStore → BodyTag → ℕ → ℕ → Body
body_in p fillings.Probabilities start len = bodies.Probabilities (part start len p.probabilities.items)
body_in p fillings.Rewards start len = bodies.Rewards (part start len p.rewards.items)
body_in p fillings.Uniform start len = bodies.Uniform
body_in p fillings.Identity start len = bodies.Identity

-- a place in 16 bits
abbrev pub place_of : ℕ → Place
place_of n = if n == 65535 then Every else Only n

abbrev pub entry_in : EntryStore → EntryHeader → Entry
entry_in p h = record { table = h.table; places = take h.count (map place_of h.places); body = body_in p h.filling h.start h.len }

abbrev pub reward_body : EntryHeader → RewardBody
reward_body h = record { start = h.start; places = h.count }

-- the part lies in a list of this length
abbrev pub LiesIn : ℕ → ℕ → ℕ → Type 0
LiesIn length start len = start + len ≤ length

abbrev pub HasNumbers : EntryStore → BodyTag → ℕ → ℕ → Type 0
HasNumbers p fillings.Probabilities start len = LiesIn (length p.probabilities.items) start len
HasNumbers p fillings.Rewards start len = LiesIn (length p.rewards.items) start len
HasNumbers p fillings.Uniform start len = Unit {0}
HasNumbers p fillings.Identity start len = Unit {0}

-- this many places are there, and its numbers
pub record IsWithin (p : EntryStore) (h : EntryHeader) : Type 0 where
  pub few : h.count ≤ length h.places
  pub has_numbers : HasNumbers p h.filling h.start h.len

-- the list continues with more
pub record Continues {X : Type 0} (xs ys : List X) : Type 0 where
  pub more : List X
  pub whole : ys ≡ xs ++ more

-- each list continues
pub record GoOn (p q : EntryStore) : Type 0 where
  pub probabilities : Continues p.probabilities.items q.probabilities.items
  pub rewards : Continues p.rewards.items q.rewards.items

-- the parts of all entries are there, and no rewards but theirs
pub record AreHeldIn (p : EntryStore) (hs : List EntryHeader) : Type 0 where
  pub within : All (IsWithin p) hs
  pub rewards : p.rewards.items ≡ all_rewards (map (entry_in p) hs)

-- one entry more is there, after the others
pub record IsPut (old new : List EntryHeader) (p q : EntryStore) (entry : Entry) : Type 0 where
  pub head : EntryHeader
  pub heads : new ≡ old ++ head ∷ []
  pub within : IsWithin q head
  pub is : entry_in q head ≡ entry
  pub rewards : q.rewards.items ≡ p.rewards.items ++ rewards_of entry.body

-- Rules that name a start state, and what the newest rule of R gives.
-- Nobody has to believe this file: only private functions cite it.
use Rattle.std.specs.Prelude.{◌≡◌, ℕ, ◌+◌, ◌*◌, ◌^◌, ◌<◌, ◌≤◌, Bool, true, false, ◌⊎◌, List, [], ◌∷◌, Option, Some, None, Contains, slice_get, slice_index_or, ℤ, pos}
use Rattle.polcert_cells.specs.declared.entries.Table.TheVariants.{Reward}
use Rattle.polcert_cells.specs.declared.entries.Entry.{Entry}
use Rattle.polcert_cells.specs.Cells.{reward}
use Rattle.polcert_cells.specs.Preamble.{Preamble}
use Rattle.polcert_rules.specs.declared.index.Rule.{Rule}
use Rattle.polcert_rules.specs.declared.rewards.StateTransition.{StateTransition}
use Rattle.polcert_cells.specs.declared.entries.RewardBody.{RewardBody}
use Rattle.polcert_rules.specs.Keys.{key_base, table_key}
use Rattle.polcert_rules.specs.Steps.Newest.{IsLastNumber}
use Rattle.polcert_rules.specs.Steps.Rewards.{AreRewardsOf, IsBodyOf}
use Rattle.polcert_rules.specs.RewardAt.{RewardRules}

-- whether a rule's key passes
abbrev pub IsSearchAnswer : List Rule → (ℕ → Type 0) → Bool → Type 0
IsSearchAnswer rules P true = (r : Rule) × Contains rules r × P r.key
IsSearchAnswer rules P false = (r : Rule) → Contains rules r → P r.key → ⊥

-- After the key `low` the key has no place for a start state, or names this one.
abbrev pub NamesStartAfter : ℕ → ℕ → ℕ → Type 0
NamesStartAfter low s key = (key ≡ low) ⊎ ((low + (s + 2) * key_base ^ 2 ≤ key) × (key < low + (s + 2) * key_base ^ 2 + key_base ^ 2))

-- The key, if it fits the action, has no place for a start state, or names this one.
abbrev pub NamesStart : ℕ → ℕ → ℕ → Type 0
NamesStart a s key =
    (key ≡ table_key Reward)
    ⊎ (NamesStartAfter (table_key Reward + key_base ^ 3) s key ⊎ NamesStartAfter (table_key Reward + (a + 2) * key_base ^ 3) s key)

-- the rewards of this many observations from this one on are filled in
abbrev pub AreFilled : RewardRules → StateTransition → ℕ → ℕ → List ℤ → Type 0
AreFilled rewards at first count filled = (p : Preamble) (entries : List Entry) → AreRewardsOf p entries rewards
    → (i : ℕ) → i < count → slice_index_or filled i (pos 0) ≡ reward p entries (at.action ∷ at.start ∷ at.end ∷ (first + i) ∷ [])

-- as many indices as counts, each below its count
abbrev pub AreWithin : List ℕ → List ℕ → Type 0
AreWithin [] [] = Unit {0}
AreWithin (count ∷ counts) (i ∷ indices) = (i < count) × AreWithin counts indices
AreWithin _ _ = ⊥

-- a body of this many places has one number after an action and a start state: all places, or all but that of the only observation
abbrev pub IsSingle : ℕ → ℕ → Type 0
IsSingle observations places = (4 ≤ places) ⊎ ((places ≡ 3) × (observations ≡ 1))

-- the body is that of the last entry of R that covers the cell
pub record IsBodyOfLast (costs : Bool) (entries : List Entry) (numbers : List ℤ) (indices : List ℕ) (b : RewardBody) : Type 0 where
  pub number : ℕ
  pub last : IsLastNumber entries Reward indices (Some number)
  pub body : (e : Entry) → slice_get entries number ≡ Some e → IsBodyOf costs e numbers b

abbrev pub IsLastBody : Bool → List Entry → List ℤ → List ℕ → Option RewardBody → Type 0
IsLastBody costs entries numbers indices None = IsLastNumber entries Reward indices None
IsLastBody costs entries numbers indices (Some b) = IsBodyOfLast costs entries numbers indices b

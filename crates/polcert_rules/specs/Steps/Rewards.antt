-- The rewards of a model as rules: what is seen of them, and what ties them to the entries that they come from.
-- Nobody has to believe this file: what rewards are made from and what they answer are stated by the entries alone.
use Rattle.std.specs.Prelude.{◌≡◌, ℕ, ◌+◌, ◌^◌, ◌<◌, ◌≤◌, Bool, List, length, All, Contains, slice_get, Some, ℤ, if◌then◌else◌}
use Rattle.std.specs.Int.{w64, int_wrapping_neg}
use Rattle.std.specs.Option.{IsSomeAnd}
use Rattle.polcert_cells.specs.declared.entries.Table.TheVariants.{Reward}
use Rattle.polcert_cells.specs.declared.entries.Body.{Body}
use Rattle.polcert_cells.specs.EntryRefs.{rewards_of}
use Rattle.polcert_cells.specs.declared.entries.Entry.{Entry}
use Rattle.polcert_cells.specs.Elements.{count_of, most_states, most_actions, most_observations}
use Rattle.polcert_cells.specs.Preamble.{Preamble, rewarded}
use Rattle.polcert_cells.specs.Steps.Sound.{IsSoundEntry}
use Rattle.polcert_rules.specs.declared.index.Rule.{Rule}
use Rattle.polcert_rules.specs.declared.rewards.RewardShape.{RewardShape}
use Rattle.polcert_cells.specs.declared.entries.RewardBody.{RewardBody}
use Rattle.polcert_rules.specs.Keys.{key_base, table_key, most_places}
use Rattle.polcert_rules.specs.Steps.Newest.{IsRising, IsIndexOf, AreKeyed}
use Rattle.polcert_rules.specs.RewardAt.{RewardRules}

-- the shape has as many elements of each kind as the indices of a reward run over
pub record IsRewardShapeOf (p : Preamble) (shape : RewardShape) : Type 0 where
  pub actions : count_of p.actions ≡ shape.actions
  pub states : count_of p.states ≡ shape.states
  pub observations : count_of (rewarded p) ≡ shape.observations

-- no more elements of a kind than a model may have
pub record IsSmall (shape : RewardShape) : Type 0 where
  pub actions : shape.actions ≤ most_actions
  pub states : shape.states ≤ most_states
  pub observations : shape.observations ≤ most_observations

-- the rule is one of R
pub record IsOfRewards (r : Rule) : Type 0 where
  pub low : table_key Reward ≤ r.key
  pub high : r.key < table_key Reward + key_base ^ most_places

-- what holds of all rewards
pub record AreRewardRules (rewards : RewardRules) : Type 0 where
  pub shape : IsSmall rewards.shape
  pub rising : IsRising rewards.rules
  pub table : (r : Rule) → Contains rewards.rules r → IsOfRewards r

-- What a number is worth that is written as a reward, or as a cost: minus it, in 64 bits. (None that an entry may have is
-- so large that this would wrap.)
abbrev pub worth : Bool → ℤ → ℤ
worth costs h = if costs then int_wrapping_neg w64 h else h

abbrev pub rewards_in : Body → List ℤ
rewards_in body = rewards_of body

-- The entry's numbers stand one after another from the start of the body on, each as it is worth.
pub record IsBodyOf (costs : Bool) (entry : Entry) (numbers : List ℤ) (body : RewardBody) : Type 0 where
  pub places : body.places ≡ length entry.places
  pub numbers_are : (k : ℕ) (h : ℤ) → slice_get (rewards_in entry.body) k ≡ Some h → slice_get numbers (body.start + k) ≡ Some (worth costs h)

-- each entry has its body
abbrev pub AreBodiesOf : Bool → List Entry → List ℤ → List RewardBody → Type 0
AreBodiesOf costs entries numbers bodies = (n : ℕ) (e : Entry) → slice_get entries n ≡ Some e → IsSomeAnd (slice_get bodies n) (IsBodyOf costs e numbers)

-- The rules are an index of the entries of R, and each has the body of its entry.
pub record AreRewardsOf (p : Preamble) (entries : List Entry) (rewards : RewardRules) : Type 0 where
  pub shape : IsRewardShapeOf p rewards.shape
  pub sound : All (IsSoundEntry p) entries
  pub keyed : AreKeyed entries
  pub index : IsIndexOf Reward entries rewards.rules
  pub bodies : AreBodiesOf p.costs entries rewards.numbers rewards.bodies

abbrev pub reward_rules : RewardShape → List Rule → List RewardBody → List ℤ → RewardRules
reward_rules shape rules bodies numbers = record { shape = shape; rules = rules; bodies = bodies; numbers = numbers }

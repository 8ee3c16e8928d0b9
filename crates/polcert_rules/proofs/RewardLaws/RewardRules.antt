-- The rewards of entries: from the rules of R and the bodies of their entries.
use Rattle.std.proofs.Common.{◌≡◌, ◌∙◌, Bool, List, All, Contains, ℤ, sym, ap, arith}
use Rattle.polcert_rules.proofs.Common.{Reward, Entry, Preamble, IsSoundEntry, Rule, RewardShape, RewardBody, key_in, table_key}
use Rattle.polcert_rules.proofs.Common.{most_places, AreKeyed, IsIndexOf, AreBodiesOf, AreRewardsOf, reward_rules}
use Rattle.polcert_rules.specs.Steps.Rewards.{IsRewardShapeOf, IsOfRewards}
use Rattle.polcert_rules.proofs.Keyed.Fitting.{key_low, key_high}

-- ---- the rules of R
pub of_rewards : (entries : List Entry) (rules : List Rule) → IsIndexOf Reward entries rules → (r : Rule) → Contains rules r → IsOfRewards r
of_rewards entries rules is r among =
    let e = is.sound r among in
    let key = ap (λ t. key_in most_places (table_key t) e.0.places) (sym e.3)
    ∙ e.2 in
    record {
      low = omega (arith, key, key_low most_places (table_key Reward) e.0.places);
      high = omega (arith, key, key_high most_places (table_key Reward) e.0.places e.4);
    }

pub are_rewards : (p : Preamble) (entries : List Entry) (shape : RewardShape) (costs : Bool) (rules : List Rule) (bodies : List RewardBody)
    (numbers : List ℤ)
    → IsRewardShapeOf p shape → p.costs ≡ costs → AreKeyed entries → All (IsSoundEntry p) entries → IsIndexOf Reward entries rules
    → AreBodiesOf costs entries numbers bodies
    → AreRewardsOf p entries (reward_rules shape rules bodies numbers)
are_rewards p entries shape costs rs0 bodies numbers shape_is costs_are keyed sound is each = grind arith

-- The rule of an entry of R that covers a cell.
use Rattle.std.proofs.Common.{◌≡◌, ◌∙◌, ℕ, true, Some, List, Contains, ap}
use Rattle.std.specs.List.{slice_get}
use Rattle.polcert_rules.proofs.Common.{Reward, Entry, Preamble, IsSoundEntry, fit_places, covers, Rule, key_in, table_key}
use Rattle.polcert_rules.proofs.Common.{AreDigits, most_places, AreRewardsOf, RewardRules}
use Rattle.polcert_rules.proofs.Keyed.Fitting.{and_true}
use Rattle.polcert_rules.proofs.Keyed.Covering.{keyed_at, same_table}

-- what is known of an entry of R that covers a cell
pub record IsCovering (p : Preamble) (rewards : RewardRules) (indices : List ℕ) (x : Entry) : Type 0 where
  pub table : x.table ≡ Reward
  pub fits : fit_places x.places indices ≡ true
  pub digits : AreDigits most_places x.places
  pub sound : IsSoundEntry p x
  pub rule : Rule
  pub among : Contains rewards.rules rule
  pub key : rule.key ≡ key_in most_places (table_key Reward) x.places

pub covering : (p : Preamble) (entries : List Entry) (rewards : RewardRules) (indices : List ℕ) (k : ℕ) (x : Entry)
    → AreRewardsOf p entries rewards → slice_get entries k ≡ Some x
    → covers Reward indices x ≡ true → IsCovering p rewards indices x
covering p entries rewards indices k x a is c =
    let both = and_true _ _ c in
    let t = same_table _ _ both.0 in
    let r = a.index.complete k x is t in
    record {
      table = t;
      fits = both.1;
      digits = keyed_at (λ (e : Entry). AreDigits most_places e.places) entries k x a.keyed is;
      sound = keyed_at (IsSoundEntry p) _ k x a.sound is;
      rule = r.0;
      among = r.1;
      key = r.2 ∙ ap (λ u. key_in most_places (table_key u) x.places) t;
    }

-- Where no entry names either of two start states.
use Rattle.std.proofs.Common.{◌≡◌, ◌∙◌, ℕ, zero, suc, ◌+◌, ◌*◌, ◌^◌, ◌≤◌, Bool, true, false, ◌&&◌, inl, Option, Some, None, List}
use Rattle.std.proofs.Common.{[], ◌∷◌, length, drop, Contains, refl, sym, ap, arith, pos}
use Rattle.std.specs.Prelude.{not, IsTrue}
use Rattle.polcert_rules.proofs.Common.{Reward, Place, Every, Only, Entry, Preamble, fits_place, fit_places, covers}
use Rattle.polcert_rules.proofs.Common.{reward, reward_of, value_or, Rule, key_base, digit, key_in, table_key, AreDigits, AreIndices}
use Rattle.polcert_rules.proofs.Common.{most_places, newest_in, IsLastNumber, entry_at, AreRewardsOf, RewardRules}
use Rattle.std.specs.List.{slice_get}
use Rattle.polcert_rules.specs.Steps.RewardSearch.{NamesStart, NamesStartAfter}
use Rattle.polcert_rules.proofs.Keyed.Fitting.{and_true, same_number, key_low, key_high}
use Rattle.polcert_rules.proofs.Indexes.Matching.{newest_is}
use Rattle.polcert_rules.proofs.RewardLaws.RewardCovering.{covering}
use Rattle.polcert_rules.proofs.RewardLaws.RewardCells.{last_of_rules}
use Rattle.polcert_rules.proofs.RewardLaws.RewardValues.{number_reward}

pub false_of : (b : Bool) → IsTrue (not b) → b ≡ false
false_of b h1 = grind arith

-- ---- what covers a cell
-- what is known of the key after the first place is known of the key
after_first : (a s key : ℕ) (p : Place) → fits_place p a ≡ true → NamesStartAfter (table_key Reward + digit p * key_base ^ 3) s key
    → NamesStart a s key
after_first a s key p h1 h2 = grind arith

-- Places that fit a cell leave the start state open, if the key does not name it; they are two at least.
pub record LeavesOpen (a other e z : ℕ) (ps : List Place) : Type 0 where
  pub fits : fit_places ps (a ∷ other ∷ e ∷ z ∷ []) ≡ true
  pub two : 2 ≤ length ps

leaves_open : (a s other e z : ℕ) (ps : List Place) (key : ℕ) → fit_places ps (a ∷ s ∷ e ∷ z ∷ []) ≡ true → AreDigits most_places ps
    → key ≡ key_in most_places (table_key Reward) ps → (NamesStart a s key → ⊥) → LeavesOpen a other e z ps
leaves_open a s other e z [] key fits digits is unnamed = absurd (unnamed (inl is))
leaves_open a s other e z (p ∷ []) key fits digits is unnamed = grind (arith, and_true, unnamed, after_first)
leaves_open a s other e z (p ∷ Every ∷ ps) key fits digits is unnamed = record { fits = fits; two = omega arith }
leaves_open a s other e z (p ∷ Only n ∷ ps) key fits digits is unnamed =
    grind (arith, and_true, same_number, key_low, key_high, unnamed, after_first)

-- no rule that fits the action names this start state
abbrev pub NoneNames : RewardRules → ℕ → ℕ → Type 0
NoneNames rewards a s = (r : Rule) → Contains rewards.rules r → NamesStart a s r.key → ⊥

module _ (p : Preamble) (entries : List Entry) (rewards : RewardRules) (are : AreRewardsOf p entries rewards) (a : ℕ) where
  opened : (s other e z k : ℕ) (x : Entry) → NoneNames rewards a s → slice_get entries k ≡ Some x
      → covers Reward (a ∷ s ∷ e ∷ z ∷ []) x ≡ true
      → (covers Reward (a ∷ other ∷ e ∷ z ∷ []) x ≡ true) × (2 ≤ length x.places)
  opened s other e z k x unnamed is c =
      let d = covering p _ _ _ k x are is c in
      let still = leaves_open a s _ e z _ _ d.fits d.digits d.key (unnamed d.rule d.among) in
      let both = and_true _ _ c in
      (ap (λ b. b && fit_places x.places (a ∷ other ∷ e ∷ z ∷ [])) both.0 ∙ still.fits, still.two)

  number_moved : (s other e z : ℕ) (number : Option ℕ) → NoneNames rewards a s → NoneNames rewards a other
      → IsLastNumber entries Reward (a ∷ s ∷ e ∷ z ∷ []) number → IsLastNumber entries Reward (a ∷ other ∷ e ∷ z ∷ []) number
  number_moved s other e z None here there last = λ k x is c. last k x is (opened _ s e z k x there is c).0
  number_moved s other e z (Some n) here there last = (
    (last.0.0, last.0.1, (opened s other e z n last.0.0 here last.0.1 last.0.2).0),
    λ k x is c. last.1 k x is (opened _ s e z k x there is c).0,
  )

  open_cell : (s other e z n : ℕ) → 2 ≤ n → drop n (a ∷ s ∷ e ∷ z ∷ []) ≡ drop n (a ∷ other ∷ e ∷ z ∷ [])
  open_cell s other e z zero two = absurd (omega (arith, two))
  open_cell s other e z (suc zero) two = absurd (omega (arith, two))
  open_cell s other e z (suc (suc n)) two = refl

  given_same : (s other e z : ℕ) (number : Option ℕ) → NoneNames rewards a s → IsLastNumber entries Reward (a ∷ s ∷ e ∷ z ∷ []) number
      → value_or (pos 0) (reward_of p (a ∷ s ∷ e ∷ z ∷ [])) (entry_at entries number)
      ≡ value_or (pos 0) (reward_of p (a ∷ other ∷ e ∷ z ∷ [])) (entry_at entries number)
  given_same s other e z number h1 h2 = grind (arith, opened, open_cell)

  pub same_rewards : (s other e z : ℕ) → NoneNames rewards a s → NoneNames rewards a other → AreIndices most_places (a ∷ s ∷ e ∷ z ∷ [])
      → reward p entries (a ∷ s ∷ e ∷ z ∷ []) ≡ reward p entries (a ∷ other ∷ e ∷ z ∷ [])
  same_rewards s other e z here there small =
      let cell = a ∷ s ∷ e ∷ z ∷ [] in
      let number = newest_in most_places (table_key Reward) rewards.rules cell in
      let last = last_of_rules p _ _ cell number are small (newest_is most_places (table_key Reward) rewards.rules cell) in
      number_reward p entries cell number last
      ∙ given_same s other e z number here last
      ∙ sym (number_reward p entries (a ∷ other ∷ e ∷ z ∷ []) number (number_moved s other e z number here there last))

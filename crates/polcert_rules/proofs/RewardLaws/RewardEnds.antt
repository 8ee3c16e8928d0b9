-- Where no entry tells end states apart.
use Rattle.std.proofs.Common.{◌≡◌, ◌∙◌, ⊎_elim, ℕ, zero, suc, ◌<◌, ◌≤◌, true, Option, Some, List, [], ◌∷◌, length, drop, Contains}
use Rattle.std.proofs.Common.{pos, refl, sym, arith}
use Rattle.std.specs.List.{slice_get}
use Rattle.polcert_rules.proofs.Common.{AreEndRules, AreIndices, AreRewardsOf, Entry, IsLastNumber, Place, Preamble, Reward, RewardRules}
use Rattle.polcert_rules.proofs.Common.{Rule, cases_lt, covers, entry_at, fit_places, most_places, newest_in, reward, reward_of, table_key}
use Rattle.polcert_rules.proofs.Common.{value_or}
use Rattle.polcert_rules.specs.Keys.{FitsKey}
use Rattle.polcert_rules.proofs.Indexes.Matching.{newest_is}
use Rattle.polcert_rules.proofs.Indexes.Newer.{newest_among}
use Rattle.polcert_rules.proofs.RewardLaws.RewardCovering.{covering}
use Rattle.polcert_rules.proofs.RewardLaws.RewardCells.{last_of_rules}
use Rattle.polcert_rules.proofs.RewardLaws.RewardValues.{number_reward}

-- places that fit a cell, two at most, have none for an end state
wide : (a s e z : ℕ) (ps : List Place) → fit_places ps (a ∷ s ∷ e ∷ z ∷ []) ≡ true → length ps < 3 → fit_places ps (a ∷ s ∷ []) ≡ true
wide a s e z [] fits few = refl
wide a s e z (p ∷ []) fits few = fits
wide a s e z (p ∷ q ∷ []) fits few = fits
wide a s e z (p ∷ q ∷ r ∷ ps) fits few = absurd (omega (arith, few))

-- no rule that fits the action and the start state has numbers for each end state
abbrev pub NoneIsWide : RewardRules → ℕ → ℕ → Type 0
NoneIsWide rewards a s = (r : Rule) → Contains rewards.rules r → FitsKey most_places (table_key Reward) (a ∷ s ∷ []) r.key → ⊥

module _ (p : Preamble) (entries : List Entry) (rewards : RewardRules) (are : AreRewardsOf p entries rewards) (a s : ℕ) where
  long : (e z k : ℕ) (x : Entry) → NoneIsWide rewards a s → slice_get entries k ≡ Some x → covers Reward (a ∷ s ∷ e ∷ z ∷ []) x ≡ true
      → 3 ≤ length x.places
  long e z k x none is c =
      let d = covering p _ _ _ k x are is c in
      ⊎_elim (λ few. absurd (none d.rule d.among (record { places = x.places; fits = wide a s e z x.places d.fits few; is = d.key })))
      (λ l. l) (cases_lt (length x.places) 3)

  open_end : (e f z n : ℕ) → 3 ≤ n → drop n (a ∷ s ∷ e ∷ z ∷ []) ≡ drop n (a ∷ s ∷ f ∷ z ∷ [])
  open_end e f z zero three = absurd (omega (arith, three))
  open_end e f z (suc zero) three = absurd (omega (arith, three))
  open_end e f z (suc (suc zero)) three = absurd (omega (arith, three))
  open_end e f z (suc (suc (suc n))) three = refl

  given_ends : (e f z : ℕ) (number : Option ℕ) → NoneIsWide rewards a s → IsLastNumber entries Reward (a ∷ s ∷ e ∷ z ∷ []) number
      → value_or (pos 0) (reward_of p (a ∷ s ∷ e ∷ z ∷ [])) (entry_at entries number)
      ≡ value_or (pos 0) (reward_of p (a ∷ s ∷ f ∷ z ∷ [])) (entry_at entries number)
  given_ends e f z number h1 h2 = grind (arith, long, open_end)

  pub same_ends : (e until f z : ℕ) → NoneIsWide rewards a s → AreEndRules rewards.rules a s e until → e ≤ f → f < until
      → AreIndices most_places (a ∷ s ∷ e ∷ z ∷ []) → AreIndices most_places (a ∷ s ∷ f ∷ z ∷ [])
      → reward p entries (a ∷ s ∷ f ∷ z ∷ []) ≡ reward p entries (a ∷ s ∷ e ∷ z ∷ [])
  same_ends e until f z none ends from to small small_f =
      let cell = λ (n : ℕ). a ∷ s ∷ n ∷ z ∷ [] in
      let number = newest_in most_places (table_key Reward) rewards.rules (cell e) in
      let here = newest_is most_places (table_key Reward) rewards.rules (cell e) in
      let there = newest_among rewards.rules _
      _ number
      (λ r among g. (ends r among f z small.1.1.0 from to small_f.1.1.0 small.1.1.1.0).0 g)
      (λ r among g. (ends r among f z small.1.1.0 from to small_f.1.1.0 small.1.1.1.0).1 g) here in
      number_reward p entries (cell f) number (last_of_rules p _ _ (cell f) number are small_f there)
      ∙ sym (given_ends e f z number none (last_of_rules p entries rewards (cell e) number are small here))
      ∙ sym (number_reward p entries (cell e) number (last_of_rules p _ _ (cell e) number are small here))

-- Where an entry of R is about an action and a start state.
use Rattle.std.proofs.Common.{◌≡◌, ◌∙◌, ℕ, zero, suc, ◌+◌, ◌-◌, ◌*◌, ◌^◌, ◌<◌, ◌≤◌, true, false, ◌&&◌, inl, inr, ⊎_elim, Some, List, []}
use Rattle.std.proofs.Common.{◌∷◌, length, take, Contains, refl, sym, ap, subst, arith, pos, rules}
use Rattle.std.specs.List.{slice_get}
use Rattle.std.specs.Prelude.{◌==◌}
use Rattle.std.proofs.Math.Nat.{mul-le-mul_right}
use Rattle.polcert_rules.proofs.Common.{cases_lt, Reward, Place, Every, Only, Entry, Preamble, fits_place, fit_places, is_table, reward}
use Rattle.polcert_rules.proofs.Common.{Rule, key_base, digit, key_in, table_key, AreDigits, most_places, AreRewardsOf, RewardRules}
use Rattle.polcert_rules.proofs.Common.{IsSearchAnswer, HasFront, HasTwo, key_of_two}
use Rattle.polcert_rules.specs.Keys.{FitsKey}
use Rattle.polcert_rules.specs.Steps.Meeting.{fits_at, meets_row}
use Rattle.polcert_cells.proofs.Basics.{true≢false}
use Rattle.polcert_rules.proofs.Keyed.Covering.{fits_covered}
use Rattle.polcert_rules.proofs.Keyed.Fitting.{and_true, equal_numbers, key_low, key_high, power_next, power_some, digit_below, fit_digits}
use Rattle.polcert_rules.proofs.Keyed.Keying.{digit_some, same_place, next_digit}
use Rattle.polcert_rules.proofs.RowLaws.Cells.{two_digits}
use Rattle.polcert_rules.proofs.RewardLaws.RewardCovering.{covering}
use Rattle.polcert_rules.proofs.RewardLaws.RewardValues.{no_reward}

-- ---- no entry is
-- the key of an entry that covers a cell has a front that fits its action and start state
front_of : (a s e z key : ℕ) (ps : List Place) → fit_places ps (a ∷ s ∷ e ∷ z ∷ []) ≡ true → AreDigits most_places ps
    → key ≡ key_in most_places (table_key Reward) ps → HasFront a s key
front_of a s e z key [] fits digits is = inl (record { places = []; fits = refl; is = is })
front_of a s e z key (p ∷ []) fits digits is = inl (record { places = p ∷ []; fits = fits; is = is })
front_of a s e z key (p ∷ q ∷ rest) fits digits is =
    let first = and_true (fits_place p a) _ fits in
    let second = and_true (fits_place q s) _ first.1 in
    let two : HasTwo (digit p) (digit q) key = (
      rw is (key_low 2 (key_of_two (digit p) (digit q)) rest),
      rw is (key_high 2 (key_of_two (digit p) (digit q)) rest digits.1.1),
    ) in
    ⊎_elim
    (λ every. ⊎_elim (λ all. inr (inl (inl (at 1 1 every all two)))) (λ one. inr (inl (inr (at 1 (s + 2) every one two))))
    (two_digits q s second.0))
    (λ only. ⊎_elim (λ all. inr (inr (inl (at (a + 2) 1 only all two)))) (λ one. inr (inr (inr (at (a + 2) (s + 2) only one two))))
    (two_digits q s second.0))
    (two_digits p a first.0)
  where
    at : (m n : ℕ) → digit p ≡ m → digit q ≡ n → HasTwo (digit p) (digit q) key → HasTwo m n key
    at m n d e two = subst (λ (i : ℕ). HasTwo i n key) d (subst (λ (i : ℕ). HasTwo (digit p) i key) e two)

pub unpaid : (p : Preamble) (entries : List Entry) (rewards : RewardRules) (a s e z : ℕ) → AreRewardsOf p entries rewards
    → IsSearchAnswer rewards.rules (HasFront a s) false → reward p entries (a ∷ s ∷ e ∷ z ∷ []) ≡ pos 0
unpaid p entries rewards a s e z are none = sym (no_reward p _ _ (λ k x is c.
    let d = covering p _ _ _ k x are is c in
    none d.rule d.among (front_of a s e z d.rule.key x.places d.fits d.digits d.key)))

-- ---- a rule that begins with places that fit
-- room for what continues after the places
key_room : (m low : ℕ) (ps : List Place) → AreDigits m ps → key_in m low ps + key_base ^ (m - length ps) ≤ low + key_base ^ m
key_room m low [] a = grind arith
key_room zero low (p ∷ ps) a = absurd a
key_room (suc m) low (p ∷ ps) a =
    let e : suc m - suc (length ps) ≡ m - length ps = omega arith in
    let f : key_base ^ (suc m - suc (length ps)) ≡ key_base ^ (m - length ps) = ap (λ k. key_base ^ k) e in
    let rest = key_room m (low + digit p * key_base ^ m) ps a.1 in
    let top = digit_below (digit p) (key_base ^ m) a.0 in
    let next = power_next m in
    omega arith

-- keys between one and where its places leave no more room come from places that begin with its own
begins_with : (m low : ℕ) (ps qs : List Place) → AreDigits m ps → AreDigits m qs → key_in m low ps ≤ key_in m low qs
    → key_in m low qs < key_in m low ps + key_base ^ (m - length ps)
    → take (length ps) qs ≡ ps
begins_with m low [] qs a b from to = refl
begins_with zero low (p ∷ ps) qs a b from to = absurd a
begins_with (suc m) low (p ∷ ps) [] a b from to = search (rules, mul-le-mul_right, key_low, power_some, digit_some)
begins_with (suc m) low (p ∷ ps) (q ∷ qs) a b from to = ⊎_elim (λ less.
    let e : suc m - suc (length ps) ≡ m - length ps = omega arith in
    let f : key_base ^ (suc m - suc (length ps)) ≡ key_base ^ (m - length ps) = ap (λ k. key_base ^ k) e in
    let room = key_room m (low + digit p * key_base ^ m) ps a.1 in
    let high = key_low m (low + digit q * key_base ^ m) qs in
    let more = next_digit (digit p) (digit q) (key_base ^ m) less in
    absurd (omega arith))
    (λ ge. ⊎_elim
    (λ more.
    let low_end = key_low m (low + digit p * key_base ^ m) ps in
    let high = key_high m (low + digit q * key_base ^ m) qs b.1 in
    let less = next_digit (digit q) (digit p) (key_base ^ m) more in
    absurd (omega arith))
    (λ le.
    let same : digit q ≡ digit p = omega arith in
    let first : q ≡ p = same_place q p same in
    let e : suc m - suc (length ps) ≡ m - length ps = omega arith in
    let rest = begins_with m (low + digit p * key_base ^ m) ps qs a.1 b.1
    (subst (λ d. key_in m (low + digit p * key_base ^ m) ps ≤ key_in m (low + d * key_base ^ m) qs) same from)
    (subst (λ k. key_in m (low + digit p * key_base ^ m) qs < key_in m (low + digit p * key_base ^ m) ps + key_base ^ k) e
    (subst (λ d. key_in m (low + d * key_base ^ m) qs < key_in m (low + digit p * key_base ^ m) ps + key_base ^ (suc m - suc (length ps)))
    same to)) in
    ap (λ (x : Place). x ∷ take (length ps) qs) first ∙ ap (λ (xs : List Place). p ∷ xs) rest)
    (cases_lt (digit q) (digit p)))
    (cases_lt (digit p) (digit q))

-- ---- an entry is
meets : (a s : ℕ) (ps qs : List Place) → length ps ≡ 2 → fit_places ps (a ∷ s ∷ []) ≡ true → take (length ps) qs ≡ ps
    → (fits_at qs 0 a ≡ true) × (fits_at qs 1 s ≡ true)
meets a s ps qs h1 h2 h3 = grind arith

-- an entry that covers all cells of the action
meets_all : (a s : ℕ) (ps : List Place) → fit_places ps (a ∷ []) ≡ true → (fits_at ps 0 a ≡ true) × (fits_at ps 1 s ≡ true)
meets_all a s [] f = (refl, refl)
meets_all a s (p ∷ []) f = ((and_true _ true f).0, refl)
meets_all a s (p ∷ q ∷ ps) f = absurd (true≢false (and_true _ false f).1 refl)

-- such an entry
abbrev pub IsPaidBy : List Entry → ℕ → ℕ → Type 0
IsPaidBy entries a s = (n : ℕ) × (x : Entry) × (slice_get entries n ≡ Some x) × (meets_row Reward a s x ≡ true)

pub paid : (p : Preamble) (entries : List Entry) (rewards : RewardRules) (a s : ℕ) (r : Rule) → AreRewardsOf p entries rewards
    → a + 2 < key_base → s + 2 < key_base → Contains rewards.rules r → HasFront a s r.key → IsPaidBy entries a s
paid p entries rewards a s r are small_a small_s among front =
    let e = are.index.sound r among in
    let x = e.0 in
    let key = ap (λ u. key_in most_places (table_key u) x.places) (sym e.3)
    ∙ e.2 in
    let both = ⊎_elim
    (λ f. meets_all a s x.places (and_true (is_table x.table Reward) _ (fits_covered Reward (a ∷ []) x e.4 (small_a, tt)
    (subst (FitsKey most_places (table_key Reward) (a ∷ [])) (sym e.2) f))).1)
    (⊎_elim
    (⊎_elim (of_two x.places key e.4 Every Every refl)
    (of_two x.places key e.4 Every (Only s) (ap (λ b. b && true) (equal_numbers s))))
    (⊎_elim (of_two x.places key e.4 (Only a) Every (ap (λ b. b && true) (equal_numbers a)))
    (of_two x.places key e.4 (Only a) (Only s) (ap (λ b. b && ((s == s) && true)) (equal_numbers a)
    ∙ ap (λ b. b && true) (equal_numbers s)))))
    front in (
      r.number,
      x,
      e.1,
      ap (λ u. is_table u Reward && fits_at x.places 0 a && fits_at x.places 1 s) e.3 ∙ ap (λ v. true && v && fits_at x.places 1 s) both.0
          ∙ both.1,
    )
  where
    of_two : (ps : List Place) → key_in most_places (table_key Reward) ps ≡ r.key → AreDigits most_places ps → (q t : Place)
        → fit_places (q ∷ t ∷ []) (a ∷ s ∷ []) ≡ true → HasTwo (digit q) (digit t) r.key → (fits_at ps 0 a ≡ true) × (fits_at ps 1 s ≡ true)
    of_two ps key digits q t fits two = meets a s (q ∷ t ∷ []) ps refl fits (begins_with most_places (table_key Reward) (q ∷ t ∷ []) ps
        (fit_digits most_places (q ∷ t ∷ []) (a ∷ s ∷ []) (small_a, (small_s, tt)) fits) digits
        (omega (arith, key, two.0)) (omega (arith, key, two.1)))

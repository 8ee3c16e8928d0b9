-- The newest rule is the one that the function of the rules gives.
use Rattle.std.proofs.Common.{◌≡◌, ◌∙◌, ℕ, zero, suc, ◌+◌, ◌^◌, Bool, true, false, ◌⊎◌, inl, inr, ⊎_elim, Option, Some, List, [], ◌∷◌}
use Rattle.std.proofs.Common.{Contains, refl, ap, subst, arith}
use Rattle.std.specs.Prelude.{◌||◌, ◌==◌}
use Rattle.polcert_rules.proofs.Common.{Place, Rule, key_base, key_in, IsNewest, max_option, newest_in}
use Rattle.polcert_rules.specs.Keys.{FitsKey}
use Rattle.polcert_rules.specs.Matching.{fits_key, newest_by}
use Rattle.polcert_rules.proofs.Keyed.Fitting.{same_number, equal_numbers, fits_end, fits_here, fits_next, fits_every, fits_only}
use Rattle.polcert_rules.proofs.Indexes.Greatest.{greatest_as, greatest_of, newest_of, greatest_of_two, greatest_itself}
use Rattle.polcert_rules.proofs.Indexes.Newer.{newest_of_part}
use Rattle.polcert_rules.proofs.Indexes.Building.{among_from, contains_from}

-- ---- a key that fits
one_of : (a b : Bool) → (a || b) ≡ true → (a ≡ true) ⊎ (b ≡ true)
one_of a b h1 = grind arith

first_of_two : (a b : Bool) → a ≡ true → (a || b) ≡ true
first_of_two a b e = ap (λ x. x || b) e

second_of_two : (a b : Bool) → b ≡ true → (a || b) ≡ true
second_of_two a b h1 = grind arith

equal_by : (a b : ℕ) → a ≡ b → (a == b) ≡ true
equal_by a b e = ap (λ x. x == b) e ∙ equal_numbers b

-- where there is no room, no place counts
no_room : (low key : ℕ) (indices : List ℕ) → FitsKey zero low indices key → key ≡ low
no_room low key indices f = at f.places f.is
  where
    at : (ps : List Place) → key ≡ key_in zero low ps → key ≡ low
    at [] is = is
    at (p ∷ ps) is = is

pub fits_is : (levels low : ℕ) (indices : List ℕ) (key : ℕ) → fits_key levels low indices key ≡ true → FitsKey levels low indices key
fits_is levels low [] key e = fits_here _ low key [] (same_number key low e)
fits_is zero low (i ∷ indices) key e = fits_here zero low key _ (same_number key low e)
fits_is (suc m) low (i ∷ indices) key e = ⊎_elim (λ here. fits_here _ low key _ (same_number key low here)) (λ next. ⊎_elim
    (λ every. fits_every m low i _ key (fits_is m _ _ key every))
    (λ only. fits_only m low i _ key (fits_is m _ _ key only))
    (one_of _ _ next))
    (one_of _ _ e)

pub is_fits : (levels low : ℕ) (indices : List ℕ) (key : ℕ) → FitsKey levels low indices key → fits_key levels low indices key ≡ true
is_fits levels low [] key f = equal_by key low (fits_end _ low key f)
is_fits zero low (i ∷ indices) key f = equal_by key low (no_room low key _ f)
is_fits (suc m) low (i ∷ indices) key f = ⊎_elim (λ here. first_of_two _ _ (equal_by key low here))
    (λ next. second_of_two (key == low) _ (⊎_elim
    (λ every. first_of_two _ _ (is_fits m _ _ key every))
    (λ only. second_of_two (fits_key m (low + key_base ^ m) indices key) _ (is_fits m _ _ key only))
    next))
    (fits_next m low i _ key f)

-- ---- the newest of rules
following : (r q : Rule) (rs : List Rule) → Contains rs q → Contains (r ∷ rs) q
following r q rs c = contains_from (r ∷ rs) q (inr (among_from rs q c))

in_front : (r : Rule) (rs : List Rule) → Contains (r ∷ rs) r
in_front r rs = contains_from (r ∷ rs) r (inl refl)

front_or_after : (r q : Rule) (rs : List Rule) → Contains (r ∷ rs) q → (r ≡ q) ⊎ Contains rs q
front_or_after r q rs c = ⊎_elim inl (λ a. inr (contains_from rs q a)) (among_from (r ∷ rs) q c)

-- the first rule passes
with_first : (r : Rule) (rs : List Rule) (P : ℕ → Type 0) (x : Option ℕ) → P r.key → IsNewest rs P x
    → IsNewest (r ∷ rs) P (max_option (Some r.number) x)
with_first r rs P x p n =
    newest_of (r ∷ rs) P (max_option (Some r.number) x)
    (greatest_as (λ q. (r ≡ q) ⊎ (Contains rs q × P q.key)) _ (max_option (Some r.number) x)
    (λ q e. ⊎_elim (λ same. subst (λ y. Contains (r ∷ rs) y × P y.key) same (in_front r rs, p)) (λ c. (following r q rs c.0, c.1))
    e)
    (λ q f. ⊎_elim inl (λ c. inr (c, f.1)) (front_or_after r q rs f.0))
    (greatest_of_two _ _ (Some r.number) x (greatest_itself r) (greatest_of rs P x n)))

-- the first rule does not pass
without_first : (r : Rule) (rs : List Rule) (P : ℕ → Type 0) (x : Option ℕ) → (P r.key → ⊥) → IsNewest rs P x → IsNewest (r ∷ rs) P x
without_first r rs P x fails n = grind (arith, ⊎_elim, newest_of_part, following, front_or_after)

not_both : (b : Bool) → b ≡ false → b ≡ true → ⊥
not_both b f t = cc

pub newest_by_is : (rules : List Rule) (passes : ℕ → Bool) (P : ℕ → Type 0) → ((k : ℕ) → passes k ≡ true → P k)
    → ((k : ℕ) → P k → passes k ≡ true) → IsNewest rules P (newest_by passes rules)
newest_by_is [] passes P sound complete = λ r c p. among_from [] r c
newest_by_is (r ∷ rs) passes P sound complete = grind (arith, with_first, without_first, not_both, newest_by_is rs _ P sound complete)

-- there is one newest number
pub one_newest : (rules : List Rule) (P : ℕ → Type 0) (m n : Option ℕ) → IsNewest rules P m → IsNewest rules P n → m ≡ n
one_newest rs0 P m n h1 h2 = grind arith

-- ---- the newest rule, computed
pub newest_is : (levels low : ℕ) (rules : List Rule) (indices : List ℕ)
    → IsNewest rules (FitsKey levels low indices) (newest_in levels low rules indices)
newest_is levels low rules indices = newest_by_is _ _ _ (fits_is _ low _) (is_fits _ low _)

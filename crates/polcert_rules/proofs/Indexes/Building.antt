-- Building an index.
use Rattle.std.proofs.Common.{◌≡◌, ◌∙◌, ℕ, zero, suc, ◌+◌, ◌<◌, ◌≤◌, ◌⊎◌, inl, inr, ⊎_elim, Bool, true, false, cond, eqb, max, Some, List}
use Rattle.std.proofs.Common.{[], ◌∷◌, length, get_or, Contains, All, refl, sym, ap, subst, arith}
use Rattle.std.specs.List.{slice_get}
use Rattle.polcert_rules.proofs.Common.{IsNonDecreasingBy, cases_lt, Table, nat_tests, AllPairs-cons, All-nil, All-cons}
use Rattle.polcert_rules.proofs.Common.{Contains-permutation}
use Rattle.polcert_rules.proofs.Common.{IsPermutation-sym, Entry, Rule, key_of, AreDigits, most_places, AreKeyed, IsRising, IsEntryRule}
use Rattle.polcert_rules.proofs.Common.{IsIndexOf, rules_from, newest_from, newest_of_each}
use Rattle.std.specs.List.Sorted.{IsPermutation}
use Rattle.polcert_rules.specs.Keys.{table_digit}
use Rattle.polcert_rules.proofs.Keyed.Covering.{keyed_at, table_of_digit}

-- ---- being one of a list, by recursion on it
abbrev pub Among : Rule → List Rule → Type 0
Among r [] = ⊥
Among r (x ∷ xs) = (x ≡ r) ⊎ Among r xs

pub among_from : (xs : List Rule) (r : Rule) → Contains xs r → Among r xs
among_from [] r (k, l, e) = absurd (omega arith)
among_from (x ∷ xs) r (k, l, e) = at (among_from xs r) k l e
  where
    at : (Contains xs r → Among r xs) → (k : ℕ) → k < length (x ∷ xs) → get_or (x ∷ xs) k r ≡ r → (x ≡ r) ⊎ Among r xs
    at h1 k h2 h3 = grind arith

pub contains_from : (xs : List Rule) (r : Rule) → Among r xs → Contains xs r
contains_from [] r a = absurd a
contains_from (x ∷ xs) r a = ⊎_elim (λ e. (0, omega arith, e)) (λ b. let c = contains_from xs r b in (suc c.0, omega arith, c.2)) a

abbrev pub rule_of : ℕ → ℕ → Rule
rule_of key number = record { key = key; number = number }

-- ---- a rule for each entry of a table
-- the rule of an entry, where entries are numbered from here on
record IsRuleOf (d n : ℕ) (es : List Entry) (r : Rule) : Type 0 where
  place : ℕ
  entry : Entry
  number : r.number ≡ n + place
  is : slice_get es place ≡ Some entry
  key : key_of entry ≡ r.key
  of_table : table_digit entry.table ≡ d

rules_sound : (d n : ℕ) (es : List Entry) (r : Rule) → Among r (rules_from d n es) → IsRuleOf d n es r
rules_sound d n [] r a = absurd a
rules_sound d n (e ∷ es) r a = at (eqb (table_digit e.table) d) refl (rules_sound d (n + 1) es r) a
  where
    later : IsRuleOf d (n + 1) es r → IsRuleOf d n (e ∷ es) r
    later i = record {
      place = suc i.place;
      entry = i.entry;
      number = omega arith;
      is = i.is;
      key = i.key;
      of_table = i.of_table;
    }

    here : table_digit e.table ≡ d → record { key = key_of e; number = n } ≡ r → IsRuleOf d n (e ∷ es) r
    here t is = record {
      place = 0;
      entry = e;
      number = (let f : n ≡ r.number = ap (λ (x : Rule). x.number) is in omega arith);
      is = refl;
      key = ap (λ (x : Rule). x.key) is;
      of_table = t;
    }

    at : (b : Bool) → eqb (table_digit e.table) d ≡ b → (Among r (rules_from d (n + 1) es) → IsRuleOf d (n + 1) es r)
        → Among r (cond b (record { key = key_of e; number = n } ∷ rules_from d (n + 1) es) (rules_from d (n + 1) es))
        → IsRuleOf d n (e ∷ es) r
    at true t ih a = ⊎_elim (here (grind (arith, nat_tests))) (λ b. later (ih b)) a
    at false t ih a = later (ih a)

rules_complete : (d n : ℕ) (es : List Entry) (k : ℕ) (e : Entry) → slice_get es k ≡ Some e → table_digit e.table ≡ d
    → Among (record { key = key_of e; number = n + k }) (rules_from d n es)
rules_complete d n [] k e is t = cc
rules_complete d n (x ∷ es) zero e is t = grind (arith, nat_tests)
rules_complete d n (x ∷ es) (suc k) e is t = grind (arith, nat_tests, rules_complete d (n + 1) es k e is t)

-- ---- of each key the newest
-- a rule with the same key, and a number as great
pub record Stands (xs : List Rule) (r : Rule) : Type 0 where
  pub rule : Rule
  pub among : Among rule xs
  pub key : rule.key ≡ r.key
  pub number : r.number ≤ rule.number

abbrev joined : Rule → Rule → Rule
joined last r = rule_of last.key (max last.number r.number)

itself : (last r : Rule) (rs : List Rule) → last ≡ r → Stands (last ∷ rs) r
itself last r rs e = record {
  rule = last;
  among = inl refl;
  key = ap (λ (x : Rule). x.key) e;
  number = (let f : last.number ≡ r.number = ap (λ (x : Rule). x.number) e in omega arith);
}

-- what stands for a rule stands for one that it stands for
stands_for : (xs : List Rule) (r q : Rule) → q.key ≡ r.key → r.number ≤ q.number → Stands xs q → Stands xs r
stands_for xs r q key number i = record { rule = i.rule; among = i.among; key = i.key ∙ key; number = omega arith }

none_lost : (last : Rule) (rs : List Rule) (r : Rule) → Among r (last ∷ rs) → Stands (newest_from last rs) r
none_lost last [] r a = ⊎_elim (itself last r []) absurd a
none_lost last (s ∷ rs) r a = at (λ m. none_lost m rs) (eqb s.key last.key) refl
  where
    at : ((m q : Rule) → Among q (m ∷ rs) → Stands (newest_from m rs) q) → (b : Bool) → eqb s.key last.key ≡ b
        → Stands (cond b (newest_from (joined last s) rs) (last ∷ newest_from s rs)) r
    at ih true e =
        let same : s.key ≡ last.key = grind (arith, nat_tests) in
        let here = ih (joined last s) (joined last s) (inl refl) in
        ⊎_elim
        (λ is. let n : last.number ≡ r.number = ap (λ (x : Rule). x.number) is in
        stands_for _ r _ (ap (λ (x : Rule). x.key) is) (omega arith) here)
        (λ b. ⊎_elim
        (λ is. let n : s.number ≡ r.number = ap (λ (x : Rule). x.number) is in
        stands_for _ r _ (sym same ∙ ap (λ (x : Rule). x.key) is) (omega arith) here)
        (λ more. ih (joined last s) r (inr more)) b) a
    at ih false e = ⊎_elim (itself last r _)
        (λ b. let i = ih s r b in record { rule = i.rule; among = inr i.among; key = i.key; number = i.number }) a

-- the greater number is one of the two
one_of_two : (last s r : Rule) (rs : List Rule) → s.key ≡ last.key → joined last s ≡ r → Among r (last ∷ s ∷ rs)
one_of_two last s r rs same e = grind arith

none_new : (last : Rule) (rs : List Rule) (r : Rule) → Among r (newest_from last rs) → Among r (last ∷ rs)
none_new last [] r a = a
none_new last (s ∷ rs) r a = at (λ m. none_new m rs r) (eqb s.key last.key) refl a
  where
    at : ((m : Rule) → Among r (newest_from m rs) → Among r (m ∷ rs)) → (b : Bool) → eqb s.key last.key ≡ b
        → Among r (cond b (newest_from (joined last s) rs) (last ∷ newest_from s rs)) → Among r (last ∷ s ∷ rs)
    at h1 b h2 h3 = grind (arith, ⊎_elim, nat_tests, one_of_two)

-- ---- keys in order
abbrev RisesFrom : ℕ → List Rule → Type 0
RisesFrom k [] = Unit {0}
RisesFrom k (x ∷ xs) = (k ≤ x.key) × RisesFrom x.key xs

abbrev pub RisesAbove : ℕ → List Rule → Type 0
RisesAbove k [] = Unit {0}
RisesAbove k (x ∷ xs) = (k < x.key) × RisesAbove x.key xs

rises_from : (x : Rule) (xs : List Rule) → IsNonDecreasingBy (λ r. r.key) (x ∷ xs) → RisesFrom x.key xs
rises_from x [] up = tt
rises_from x (y ∷ ys) up = (
  up 0 1 x (omega arith) (omega arith),
  rises_from y ys (λ i j d le l. up (suc i) (suc j) d (omega arith) (omega arith)),
)

above_all : (k : ℕ) (xs : List Rule) → RisesAbove k xs → All (λ r. k < r.key) xs
above_all k [] up = All-nil _
above_all k (x ∷ xs) up = All-cons (λ r. k < r.key) x xs up.0 (above_all k xs (lower k x.key xs up.0 up.1))
  where
    lower : (j k : ℕ) (xs : List Rule) → j < k → RisesAbove k xs → RisesAbove j xs
    lower j k [] l up = tt
    lower j k (x ∷ xs) l up = ((omega arith), up.1)

rising_from : (k : ℕ) (xs : List Rule) → RisesAbove k xs → IsRising xs
rising_from k [] up = λ i j d less l. absurd (omega arith)
rising_from k (x ∷ xs) up = AllPairs-cons (λ x y. x.key < y.key) x xs (above_all _ xs up.1) (rising_from _ xs up.1)

newest_rises : (j : ℕ) (last : Rule) (rs : List Rule) → j < last.key → RisesFrom last.key rs → RisesAbove j (newest_from last rs)
newest_rises j last [] l up = (l, tt)
newest_rises j last (s ∷ rs) l up = at (λ j m. newest_rises j m rs) (eqb s.key last.key) refl
  where
    at : ((j : ℕ) (m : Rule) → j < m.key → RisesFrom m.key rs → RisesAbove j (newest_from m rs)) → (b : Bool) → eqb s.key last.key ≡ b
        → RisesAbove j (cond b (newest_from (joined last s) rs) (last ∷ newest_from s rs))
    at h1 b h2 = grind (arith, nat_tests)

abbrev RisesAt : ℕ → List Rule → Type 0
RisesAt k [] = Unit {0}
RisesAt k (x ∷ xs) = (x.key ≡ k) × RisesAbove x.key xs

newest_rises_at : (last : Rule) (rs : List Rule) → RisesFrom last.key rs → RisesAt last.key (newest_from last rs)
newest_rises_at last [] up = (refl, tt)
newest_rises_at last (s ∷ rs) up = at (λ m. newest_rises_at m rs) (eqb s.key last.key) refl
  where
    at : ((m : Rule) → RisesFrom m.key rs → RisesAt m.key (newest_from m rs)) → (b : Bool) → eqb s.key last.key ≡ b
        → RisesAt last.key (cond b (newest_from (joined last s) rs) (last ∷ newest_from s rs))
    at h1 b h2 = grind (arith, nat_tests, newest_rises)

rising_at : (k : ℕ) (xs : List Rule) → RisesAt k xs → IsRising xs
rising_at k [] up = λ i j d less l. absurd (omega arith)
rising_at k (x ∷ xs) up = AllPairs-cons (λ x y. x.key < y.key) x xs (above_all _ xs up.1) (rising_from _ xs up.1)

pub rising_after : (x : Rule) (xs : List Rule) → RisesAbove x.key xs → IsRising (x ∷ xs)
rising_after x xs up = rising_at _ (x ∷ xs) (refl, up)

-- where keys rise each is the newest already
newest_after : (x : Rule) (xs : List Rule) → IsRising (x ∷ xs) → newest_from x xs ≡ x ∷ xs
newest_after x [] up = refl
newest_after x (y ∷ ys) up = at (newest_after y ys (λ i j d less l. up (suc i) (suc j) d (omega arith) (omega arith))) (eqb y.key x.key)
    refl
  where
    at : newest_from y ys ≡ y ∷ ys → (b : Bool) → eqb y.key x.key ≡ b
        → cond b (newest_from (joined x y) ys) (x ∷ newest_from y ys) ≡ x ∷ y ∷ ys
    at ih true e =
        let same : y.key ≡ x.key = grind (arith, nat_tests) in
        absurd (omega (arith, same, up 0 1 x (omega arith) (omega arith)))
    at ih false e = ap (λ zs. x ∷ zs) ih

pub rising_order : (xs : List Rule) → IsRising xs → IsNonDecreasingBy (λ (r : Rule). r.key) xs
rising_order xs up i j d le l = ⊎_elim (λ less. omega (arith, up i j d less l))
    (λ ge. let same : i ≡ j = omega arith in subst (λ k. (get_or xs i d).key ≤ (get_or xs k d).key) same (omega arith)) (cases_lt i j)

pub newest_rising : (xs : List Rule) → IsRising xs → newest_of_each xs ≡ xs
newest_rising [] up = refl
newest_rising (x ∷ xs) up = newest_after x xs up

-- the newest of each key, in the order of their keys
pub each_rises : (xs : List Rule) → IsNonDecreasingBy (λ r. r.key) xs → IsRising (newest_of_each xs)
each_rises [] up = λ i j d less l. absurd (omega arith)
each_rises (x ∷ xs) up = rising_at _ _ (newest_rises_at x xs (rises_from x xs up))

pub each_old : (xs : List Rule) (r : Rule) → Among r (newest_of_each xs) → Among r xs
each_old xs r h1 = grind (arith, none_new)

pub each_kept : (xs : List Rule) (r : Rule) → Among r xs → Stands (newest_of_each xs) r
each_kept xs r h1 = grind (arith, none_lost)

pub is_index : (table : Table) (entries : List Entry) (sorted : List Rule) → AreKeyed entries
    → IsPermutation (rules_from (table_digit table) 0 entries) sorted
    → IsIndexOf table entries (newest_of_each sorted)
is_index table entries sorted keyed p = record { sound = sound; complete = complete }
  where
    sound : (r : Rule) → Contains (newest_of_each sorted) r → IsEntryRule table entries r
    sound r c =
        let found = rules_sound (table_digit table) 0 entries r
        (among_from _ r (Contains-permutation sorted _ r (IsPermutation-sym _ sorted p)
        (contains_from sorted r (each_old sorted r (among_from (newest_of_each sorted) r c))))) in
        let is = subst (λ k. slice_get entries k ≡ Some found.entry) (let e = found.number in omega arith) found.is in (
          found.entry,
          is,
          found.key,
          table_of_digit found.entry.table table found.of_table,
          keyed_at (λ e. AreDigits most_places e.places) entries r.number found.entry keyed is,
        )

    complete : (n : ℕ) (e : Entry) → slice_get entries n ≡ Some e → e.table ≡ table → (r : Rule) × Contains (newest_of_each sorted) r
        × (r.key ≡ key_of e) × (n ≤ r.number)
    complete n e is t =
        let rule = rule_of (key_of e) (0 + n) in
        let stands = each_kept sorted rule (among_from sorted _
        (Contains-permutation _ sorted rule p (contains_from _ rule
        (rules_complete (table_digit table) 0 entries n e is (ap table_digit t))))) in
        (stands.rule, contains_from (newest_of_each sorted) stands.rule stands.among, stands.key, omega arith)

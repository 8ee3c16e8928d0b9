-- The part of a rising list between two keys.
use Rattle.std.proofs.Common.{◌≡◌, ℕ, ◌-◌, ◌<◌, ◌≤◌, ◌↔◌, ◌⊎◌, Some, true, false, ltb, List, [], AllPairs, length, take, drop, ⊎_elim, sym}
use Rattle.std.proofs.Common.{ap, subst, arith, length-drop, length-take, take_all, get_or-drop, get_or-take, Contains}
use Rattle.std.specs.List.{slice_get}
use Rattle.polcert_rules.proofs.Common.{IsPartitionedBy, IsNonDecreasingBy, cases_lt, Contains-append_left, Contains-append_right}
use Rattle.polcert_rules.proofs.Common.{Contains-append_cases, IsPartitionedBy-ltb, get_or_from_slice_get, Rule, IsRising}
use Rattle.std.specs.List.Sorted.{IsPartitionPoint}
use Rattle.polcert_rules.specs.Steps.Newest.{IsKeyPartition}
use Rattle.std.proofs.lemmas.List.{take-append-drop}
use Rattle.polcert_rules.proofs.Indexes.Newer.{after_first}

-- numbers that rise are in order
pub in_order : {A : Type 0} (number : A → ℕ) (xs : List A) → AllPairs (λ x y. number x < number y) xs → IsNonDecreasingBy number xs
in_order number xs up i j d le l = grind arith

-- the test that the parts are found by
pub parted : (xs : List Rule) (limit : ℕ) → IsRising xs → IsPartitionedBy (λ r. ltb r.key limit) xs
parted xs limit up = IsPartitionedBy-ltb (λ r. r.key) xs limit (in_order (λ r. r.key) xs up)

abbrev pub Cut : List Rule → ℕ → ℕ → Type 0
Cut xs limit n = IsPartitionPoint (λ r. ltb r.key limit ≡ true) (λ r. ltb r.key limit ≡ false) xs n

-- what the test finds is a cut
pub found_cut : (xs : List Rule) (n limit : ℕ) → n ≤ length xs → Cut xs limit n → IsKeyPartition xs limit n
found_cut xs n limit few cut = grind (arith, length-drop, length-take, get_or-drop, get_or-take)

-- the code's form of the elements from an index on
pub drop_whole : (n : ℕ) (xs : List Rule) → take (length xs - n) (drop n xs) ≡ drop n xs
drop_whole n xs = take_all _ _ (omega (arith, length-drop n xs))

-- ---- a cut that is known
of_front : (rules : List Rule) (place : ℕ) (r : Rule) → Contains (take place rules) r → Contains rules r
of_front rules place r c = subst (λ xs. Contains xs r) (take-append-drop place _) (Contains-append_left _ (drop place rules) r c)

of_rest : (rules : List Rule) (place : ℕ) (r : Rule) → Contains (drop place rules) r → Contains rules r
of_rest rules place r c = subst (λ xs. Contains xs r) (take-append-drop place _) (Contains-append_right (take place rules) _ r c)

front_or_rest : (rules : List Rule) (place : ℕ) (r : Rule) → Contains rules r → Contains (take place rules) r
    ⊎ Contains (drop place rules) r
front_or_rest rules place r c = Contains-append_cases _ _ r (subst (λ xs. Contains xs r) (sym (take-append-drop place _)) c)

pub cut_front : (rules : List Rule) (key place : ℕ) → IsKeyPartition rules key place → (r : Rule) → Contains (take place rules) r
    ↔ (Contains rules r × (r.key < key))
cut_front rules key place cut r = (
  (λ c. (of_front _ _ r c, cut.front r c)),
  (λ h. ⊎_elim (λ c. c) (λ c. absurd (omega arith)) (front_or_rest _ _ r h.0)),
)

pub cut_rest : (rules : List Rule) (key place : ℕ) → IsKeyPartition rules key place → (r : Rule) → Contains (drop place rules) r
    ↔ (Contains rules r × (key ≤ r.key))
cut_rest rules key place cut r = (
  (λ c. (of_rest _ _ r c, cut.rest r c)),
  (λ h. ⊎_elim (λ c. absurd (omega arith)) (λ c. c) (front_or_rest _ _ r h.0)),
)

-- those in front are below one key, and the others not below another
pub gap_between : (rules : List Rule) (low high place : ℕ) → ((r : Rule) → Contains (take place rules) r → r.key < low)
    → ((r : Rule) → Contains (drop place rules) r → high ≤ r.key)
    → (r : Rule) → Contains rules r → low ≤ r.key → r.key < high → ⊥
gap_between rules low high place front rest r among from below =
    ⊎_elim (λ c. absurd (omega (arith, front r c, from)))
    (λ c. absurd (omega (arith, rest r c, below))) (front_or_rest _ _ r among)

-- ---- the first and the last of a rising list
pub below_last : (rules : List Rule) (x : Rule) (key : ℕ) → IsRising rules → slice_get rules (length rules - 1) ≡ Some x → x.key < key
    → (r : Rule) → Contains rules r → r.key < key
below_last rs0 x key h1 h2 h3 r h4 = grind (arith, ⊎_elim, cases_lt, get_or_from_slice_get)

pub above_first : (rules : List Rule) (x : Rule) (key : ℕ) → IsRising rules → slice_get rules 0 ≡ Some x → key ≤ x.key → (r : Rule)
    → Contains rules r → key ≤ r.key
above_first rules x key up is less r among =
    ⊎_elim (λ same. omega (arith, ap (λ (y : Rule). y.key) same, less))
    (λ more. omega (arith, more, less)) (after_first _ x up is r among)

-- ---- no rule stands below a key
pub none_between : (rules : List Rule) (low high : ℕ) → ((r : Rule) → Contains rules r → high ≤ r.key) → (r : Rule) → Contains [] r
    ↔ (Contains rules r × (low ≤ r.key) × (r.key < high))
none_between rules low high above r = ((λ none. absurd (omega (arith, none.1))), (λ h. absurd (omega (arith, above r h.0, h.2))))

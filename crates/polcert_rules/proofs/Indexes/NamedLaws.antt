-- Rules of few observations, one after another.
use Rattle.std.proofs.Common.{◌≡◌, ◌∙◌, ℕ, zero, suc, ◌+◌, ◌<◌, false, cond, ◌⊎◌, inl, Option, Some, None, List, length, set, refl, sym, ap}
use Rattle.std.proofs.Common.{arith, get_or-set_other}
use Rattle.std.specs.Prelude.{◌==◌}
use Rattle.polcert_rules.proofs.Common.{nat_tests, NamedRule, max_option, rule_at}
use Rattle.polcert_rules.specs.Steps.Distinct.{AreDistinct}
use Rattle.std.proofs.lemmas.Grind.{get_or-set_at}
use Rattle.polcert_rules.specs.Steps.Named.{named_number}
use Rattle.polcert_rules.proofs.Keyed.Fitting.{equal_numbers}
use Rattle.polcert_rules.proofs.Indexes.NotedLaws.{later_none, later_of_later, same_or_not}

-- ---- tests of numbers
other_number : (a b : ℕ) → (a ≡ b → ⊥) → (a == b) ≡ false
other_number a b d = grind (arith, nat_tests)

hit : (a b : ℕ) (x y : Option ℕ) → a ≡ b → cond (a == b) x y ≡ x
hit a b x y e = ap (λ t. cond t x y) (ap (λ k. k == b) e ∙ equal_numbers b)

miss : (a b : ℕ) (x y : Option ℕ) → (a ≡ b → ⊥) → cond (a == b) x y ≡ y
miss a b x y d = ap (λ t. cond t x y) (other_number a b d)

-- ---- what the first rules have for an observation
pub unnamed_in : (rules : List NamedRule) (n z : ℕ) → ((k : ℕ) → k < n → (rule_at rules k).observation ≡ z → ⊥)
    → named_number rules n z ≡ None
unnamed_in rules zero z d = refl
unnamed_in rules (suc n) z d = miss (rule_at rules n).observation z _ _ (d n (omega arith))
    ∙ unnamed_in _ n z (λ k l. d k (omega (arith, l)))

pub found_in : (rules : List NamedRule) (n k z : ℕ) → k < n → (rule_at rules k).observation ≡ z → AreDistinct rules n
    → named_number rules n z ≡ Some (rule_at rules k).number
found_in rules zero k z l e d = absurd (omega (arith, l))
found_in rules (suc n) k z l e d = at (same_or_not k n)
    (λ m. found_in _ n k z m e (record { each = λ i j il jl. d.each i j il (omega (arith, jl)) }))
  where
    at : (k ≡ n) ⊎ (k ≡ n → ⊥) → (k < n → named_number rules n z ≡ Some (rule_at rules k).number)
        → cond ((rule_at rules n).observation == z) (Some (rule_at rules n).number) (named_number rules n z) ≡ Some (rule_at rules k).number
    at h1 h2 = grind (arith, hit, miss)

-- two lists that have the same for an observation
same_in : (xs ys : List NamedRule) (n z : ℕ) → ((k : ℕ) → k < n → (rule_at xs k ≡ rule_at ys k)
    ⊎ (((rule_at xs k).observation ≡ z → ⊥) × ((rule_at ys k).observation ≡ z → ⊥)))
    → named_number xs n z ≡ named_number ys n z
same_in xs ys zero z h = refl
same_in xs ys (suc n) z h = grind (arith, miss, same_in xs ys n z)

-- ---- one rule is written
module _ (rules : List NamedRule) (p : ℕ) (x : NamedRule) (room : p < length rules) where
  at_place : rule_at (set rules p x) p ≡ x
  at_place = get_or-set_at _ p p x _ refl room

  at_other : (k : ℕ) → (k ≡ p → ⊥) → rule_at (set rules p x) k ≡ rule_at rules k
  at_other k d = get_or-set_other rules p k x _ d

  -- it names the observation that stands there
  module _ (n : ℕ) (within : p < n) (same : x.observation ≡ (rule_at rules p).observation) where
    same_observation : (k : ℕ) → (rule_at (set rules p x) k).observation ≡ (rule_at rules k).observation
    same_observation k = grind (arith, same_or_not, at_place, at_other)

    pub renewed_distinct : AreDistinct rules n → AreDistinct (set rules p x) n
    renewed_distinct d = record { each = λ j k l m e. d.each j k l m (sym (same_observation j) ∙ e ∙ same_observation k) }

    pub renewed_here : (w : Option ℕ) (number : ℕ) → AreDistinct rules n
        → max_option (Some (rule_at rules p).number) (Some number) ≡ Some x.number
        → max_option w (named_number (set rules p x) n (rule_at rules p).observation)
        ≡ max_option (max_option w (named_number rules n (rule_at rules p).observation)) (Some number)
    renewed_here w number d e = grind (arith, later_of_later, found_in, at_place, same_observation, renewed_distinct)

    pub renewed_other : (w : Option ℕ) (z : ℕ) → (z ≡ (rule_at rules p).observation → ⊥)
        → max_option w (named_number (set rules p x) n z) ≡ max_option w (named_number rules n z)
    renewed_other w z d = grind (arith, same_or_not, same_in, at_other, same_observation)

  one_more : p + 1 ≡ suc p
  one_more = omega arith

  still_before : (z : ℕ) → named_number (set rules p x) p z ≡ named_number rules p z
  still_before z = same_in _ _ p z (λ k l. inl (at_other k (λ f. absurd (omega (arith, f, l)))))

  pub pushed_here : (w : Option ℕ) → ((k : ℕ) → k < p → (rule_at rules k).observation ≡ x.observation → ⊥)
      → max_option w (named_number (set rules p x) (p + 1) x.observation)
      ≡ max_option (max_option w (named_number rules p x.observation)) (Some x.number)
  pushed_here w new = grind (arith, later_none, hit, unnamed_in, at_place, one_more)

  pub pushed_other : (w : Option ℕ) (z : ℕ) → (z ≡ x.observation → ⊥)
      → max_option w (named_number (set rules p x) (p + 1) z) ≡ max_option w (named_number rules p z)
  pushed_other w z d = grind (arith, miss, at_place, one_more, still_before)

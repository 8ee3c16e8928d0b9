-- The shares of a start item, state by state.
use Rattle.std.proofs.Common.{◌≡◌, ℕ, suc, zero, ◌+◌, ◌<◌, ◌≤◌, Bool, true, Result, Ok, Err, IfOk, List, [], ◌∷◌, ◌++◌, length, map}
use Rattle.std.proofs.Common.{get_or, slice_set, refl, sym, ap, arith, if◌then◌else◌, rules}
use Rattle.std.specs.List.{range_with_len, count_by}
use Rattle.std.proofs.lemmas.List.FromFn.{map-range_with_len_more}
use Rattle.polcert_items.proofs.Common.{sum_by-cons, common_steps, Selection, Include, Elements, count_of, StartWeights, single, shares_of}
use Rattle.polcert_items.proofs.Common.{is_level, marked, AreUnmarked, picks, first_above_0, is_level_at}
use Rattle.std.proofs.lemmas.List.Sums.{list_all-from_AllPass}
use Rattle.std.proofs.lemmas.Grind.{get_or_default_zero}
use Rattle.polcert_cells.specs.Start.{equal_weights, is_positive}
use Rattle.polcert_items.specs.Steps.Start.{support_weight}

-- ---- shares that are the same

abbrev one_if : Bool → ℕ
one_if b = if b then 1 else 0

-- the shares of the states before this one
pub record AreSharesTo (picked : ℕ → Bool) (state : ℕ) (weights : List ℕ) (total : ℕ) : Type 0 where
  pub weights_are : weights ≡ map (λ s. if picked s then 1 else 0) (range_with_len 0 state)
  pub total_is : total ≡ count_by picked (range_with_len 0 state)
  pub small : total ≤ state

count_cons : {X : Type 0} (p : X → Bool) (x : X) (xs : List X) → count_by p (x ∷ xs) ≡ one_if (p x) + count_by p xs
count_cons p x xs = sum_by-cons _ x xs

count_more : (p : ℕ → Bool) (a n : ℕ) → count_by p (range_with_len a (n + 1)) ≡ count_by p (range_with_len a n) + one_if (p (a + n))
count_more p a zero = grind arith
count_more p a (suc n) =
    let count : suc n + 1 ≡ suc (n + 1) = omega arith in
    let whole =
    ap (count_by p) (ap (range_with_len a) count) in
    let rest = count_more p (a + 1) n in
    grind (arith, count_cons)

at_most_one : (b : Bool) → one_if b ≤ 1
at_most_one = grind arith

pub shares_more : (picked : ℕ → Bool) (state : ℕ) (old new : List ℕ) (total weight : ℕ) → new ≡ old ++ weight ∷ []
    → weight ≡ one_if (picked state)
    → AreSharesTo picked state old total → AreSharesTo picked (state + 1) new (total + weight)
shares_more picked state old new total weight e w are =
    let share : ℕ → ℕ = λ s. one_if (picked s) in
    let longer =
    map-range_with_len_more share 0 state state (omega arith) in
    grind (arith, count_more, at_most_one)

-- ---- shares by probability

-- the shares of the probabilities so far
pub record AreLevelTo (taken : List ℕ) (state : ℕ) (weights : List ℕ) (total : ℕ) : Type 0 where
  pub weights_are : weights ≡ map support_weight taken
  pub total_is : total ≡ count_by is_positive taken
  pub small : total ≤ state

-- ---- whether probabilities are level

-- this is the first above 0, and among them, or else all are 0
data First (first : ℕ) (ps : List ℕ) : Type 0 where
  found : (k : ℕ) → k < length ps → get_or ps k 0 ≡ first → (first ≡ 0 → ⊥) → First first ps
  all_0 : ((k : ℕ) → get_or ps k 0 ≡ 0) → First first ps

first_in : (ps : List ℕ) → First (first_above_0 ps) ps
first_in [] = all_0 (λ k. refl)
first_in (suc p ∷ ps) =
    let here : first_above_0 (suc p ∷ ps) ≡ suc p = grind arith in
    found 0 (omega arith) (sym here) (λ e. omega arith)
first_in (zero ∷ ps) = following _ (first_in ps)
  where
    all : ((k : ℕ) → get_or ps k 0 ≡ 0) → (k : ℕ) → get_or (zero ∷ ps) k 0 ≡ 0
    all h1 k = grind arith

    following : (first : ℕ) → First first ps → First first (zero ∷ ps)
    following first (found k low e some) = found (suc k) (omega arith) e some
    following first (all_0 none) = all_0 (all none)

same_tests : (b c : Bool) → (b ≡ true → c ≡ true) → (c ≡ true → b ≡ true) → b ≡ c
same_tests = grind arith

module _ (m : ℕ) (ps : List ℕ) where
  level_back : First m ps → is_level ps ≡ true → is_level_at m ps ≡ true
  level_back = grind (arith, list_all-from_AllPass, get_or_default_zero, common_steps)

-- each is 0 or the first above 0 exactly where all above 0 are the same
pub level_is : (ps : List ℕ) → is_level_at (first_above_0 ps) ps ≡ is_level ps
level_is ps = same_tests _ _ (λ e. grind (arith, list_all-from_AllPass, common_steps)) (λ e. level_back _ ps (first_in ps) e)

-- ---- shares of all states, or of one

pub one_shares : (states : Elements) (choice : Selection) (count s : ℕ) (old new : List Bool) → choice ≡ Include → count ≡ count_of states
    → s < count → AreUnmarked count old → new ≡ slice_set old s true
    → equal_weights (length new) (picks choice (marked new)) ≡ single states s
one_shares = search rules

-- probabilities of which all above 0 are the same
pub level_shares_are : {E : Type 0} (r : Result StartWeights E) (ps qs : List ℕ) → qs ≡ ps → is_level ps ≡ true
    → IfOk r (λ s. s.weights ≡ map support_weight qs) → IfOk r (λ s. s.total ≡ count_by is_positive qs)
    → IfOk r (λ s. s ≡ shares_of ps)
level_shares_are (Ok s) ps qs e level weights total = grind arith
level_shares_are (Err f) ps qs e level weights total = tt

-- Equal models have the same full form.
use Rattle.std.proofs.Common.{◌≡◌, ◌∙◌, ℕ, zero, suc, ◌+◌, ◌<◌, Bool, true, false, cond, if◌then◌else◌, List, [], ◌++◌, map, ℤ, refl, ap}
use Rattle.std.proofs.Common.{arith}
use Rattle.polcert_full_form.proofs.Common.{range_with_len, Table, Transition, Observation, Reward, Preamble, is_mdp}
use Rattle.polcert_full_form.proofs.Common.{StartWeights, Meaning, states_of, actions_of, observations_of, IsSame, for_each, values}
use Rattle.polcert_full_form.proofs.Common.{all_below, row_words, row_text, reward_words, rewards_row}
use Rattle.polcert_full_form.proofs.Common.{preamble_text, start_text, full_form}

-- ---- functions that agree below a bound
pub same_for_each : {A : Type 0} (n : ℕ) (f g : ℕ → List A) → ((i : ℕ) → i < n → f i ≡ g i) → for_each n f ≡ for_each n g
same_for_each zero f g h = refl
same_for_each (suc n) f g h = grind (arith, same_for_each n f g)

pub same_test : (n : ℕ) (f g : ℕ → Bool) → ((i : ℕ) → i < n → f i ≡ g i) → all_below n f ≡ all_below n g
same_test zero f g h = refl
same_test (suc n) f g h = grind (arith, same_test n f g)

pub values_from : {A : Type 0} (k n : ℕ) (f g : ℕ → A) → ((i : ℕ) → k < i + 1 → i < k + n → f i ≡ g i)
    → map f (range_with_len k n) ≡ map g (range_with_len k n)
values_from k zero f g h = refl
values_from k (suc n) f g h = grind (arith, values_from (k + 1) n f g)

pub same_values : {A : Type 0} (n : ℕ) (f g : ℕ → A) → ((i : ℕ) → i < n → f i ≡ g i) → values n f ≡ values n g
same_values n f g h = values_from 0 n f g (λ i l m. h i (omega arith))

-- ---- rows
pub same_row : (table : Table) (a s n : ℕ) (w v : ℕ → ℕ) → ((c : ℕ) → c < n → w c ≡ v c) → row_text table a s n w ≡ row_text table a s n v
same_row table a s n w v h = grind (arith, same_for_each, same_test, same_values)

pub same_rewards : (costs : Bool) (words : List (List ℕ)) (n : ℕ) (r q : ℕ → ℤ) → ((z : ℕ) → z < n → r z ≡ q z)
    → rewards_row costs words n r ≡ rewards_row costs words n q
same_rewards costs words n r q h = grind (arith, same_test, same_values)

-- what is written of an action in a state
same_from : (mdp costs : Bool) (a s k n : ℕ) (r q : ℕ → ℕ → ℤ) → (mdp ≡ true → k ≡ n) → ((e z : ℕ) → e < k → z < n → r e z ≡ q e z)
    → (if mdp then rewards_row costs (row_words Reward a s) k (λ e. r e 0) else for_each k
    (λ e. rewards_row costs (reward_words a s e) n (r e)))
    ≡ (if mdp then rewards_row costs (row_words Reward a s) k (λ e. q e 0) else for_each k
    (λ e. rewards_row costs (reward_words a s e) n (q e)))
same_from true costs a s k n r q same h =
    let all = same refl in same_rewards _ (row_words Reward a s) k _ _ (λ e l. h e 0 l (omega arith))
same_from false costs a s k n r q same h = same_for_each k _ _ (λ e l. same_rewards _ (reward_words a s e) n _ _ (λ z. h e z l))

-- ---- models with one preamble and start
abbrev with_cells : Preamble → StartWeights → (ℕ → ℕ → ℕ → ℕ) → (ℕ → ℕ → ℕ → ℕ) → (ℕ → ℕ → ℕ → ℕ → ℤ) → Meaning
with_cells p start t o r = record { preamble = p; start = start; t = t; o = o; r = r }

same_cells : (p : Preamble) (start : StartWeights) (m n : Meaning) → m.preamble ≡ p → IsSame m n
    → full_form (with_cells p start m.t m.o m.r) ≡ full_form (with_cells p start n.t n.o n.r)
same_cells p start m n e same =
    let actions = ap (λ x. actions_of (with_cells x start m.t m.o m.r)) e in
    let states = ap (λ x. states_of (with_cells x start m.t m.o m.r)) e in
    let seen =
    ap (λ x. observations_of (with_cells x start m.t m.o m.r)) e in
    let u = with_cells p start m.t m.o m.r in
    let t =
    same_for_each (actions_of u) _ _ (λ a x. same_for_each (states_of u) _ _
    (λ s y. same_row Transition a s (states_of u) _ _
    (λ c z. same.t a s c (omega arith) (omega arith) (omega arith)))) in
    let o =
    ap (cond (is_mdp p) [])
    (same_for_each (actions_of u) _ _ (λ a x. same_for_each (states_of u) _ _
    (λ s y. same_row Observation a s (observations_of u) _ _
    (λ c z. same.o a s c (omega arith) (omega arith) (omega arith))))) in
    λ i. preamble_text u ++ start_text start ++ t i ++ o i ++
    (same_for_each (actions_of u) _ _ (λ a x. same_for_each (states_of u) _ _
    (λ s y. same_from (is_mdp p) p.costs a s (states_of u) (observations_of u) (m.r a s) _ (grind arith)
    (λ b c v z. same.r a s b c (omega arith) (omega arith) (omega arith) (omega arith))))) i

-- cells agree in range, so the texts are the same
pub same_forms : (m n : Meaning) → IsSame m n → full_form m ≡ full_form n
same_forms m n same = same_cells _ m.start m n refl same ∙ (λ i. full_form (with_cells (same.preamble i) (same.start i) n.t n.o n.r))

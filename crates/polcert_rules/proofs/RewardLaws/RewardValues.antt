-- The number that a body has for a cell is what the entry gives it.
use Rattle.std.proofs.Common.{◌≡◌, ◌∙◌, ℕ, zero, suc, ◌+◌, ◌<◌, ◌≤◌, Bool, true, ◌⊎◌, Option, Some, None, List, [], ◌∷◌, length, drop, map}
use Rattle.std.proofs.Common.{get_or, All, refl, sym, ap, subst, arith, ℤ, pos, neg_ℤ, unsigned_abs, if◌then◌else◌}
use Rattle.std.specs.Prelude.{◌==◌}
use Rattle.polcert_rules.proofs.Common.{list_any, drop_all, All-cons, All-nil, slice_get-get_or, get_or_from_slice_get, Reward, Body, Entry}
use Rattle.polcert_rules.proofs.Common.{count_of, forms, Preamble, dimensions, rewarded, IsSoundEntry, Fills, reward_of, reward, value_or}
use Rattle.polcert_rules.proofs.Common.{RewardBody, key_base, AreIndices, IsLastNumber, entry_at, worth, IsBodyOf, AreRewardsOf, cell_in}
use Rattle.polcert_rules.proofs.Common.{RewardRules, AreWithin, IsLastBody}
use Rattle.std.specs.List.{slice_get}
use Rattle.polcert_cells.specs.Entry.{cells_in}
use Rattle.polcert_cells.specs.Preamble.{is_mdp}
use Rattle.polcert_cells.specs.Cells.{row_major, reward_in}
use Rattle.polcert_rules.specs.Steps.Rewards.{rewards_in}
use Rattle.polcert_rules.specs.Steps.RewardSearch.{IsSingle}
use Rattle.polcert_text.specs.Numbers.{largest}
use Rattle.polcert_cells.proofs.CellLaws.{last_is_one}
use Rattle.polcert_cells.proofs.SoundLaws.{covered_table}
use Rattle.polcert_rules.proofs.Keyed.Covering.{last_is, keyed_at}

-- ---- the reward of a cell is what the entry of its last number gives
pub number_reward : (p : Preamble) (entries : List Entry) (indices : List ℕ) (number : Option ℕ)
    → IsLastNumber entries Reward indices number
    → reward p entries indices ≡ value_or (pos 0) (reward_of p indices) (entry_at entries number)
number_reward p entries indices number l = grind (arith, last_is_one, last_is)

-- ---- what a number is worth
worth_is : (costs : Bool) (h : ℤ) → unsigned_abs h ≤ largest → worth costs h ≡ (if costs then neg_ℤ h else h)
worth_is costs h h1 = grind arith

-- ---- the cells that places leave open
-- so many places leave these indices open
abbrev pub IsForm : ℕ → Type 0
IsForm n = (n ≡ 1) ⊎ ((n ≡ 2) ⊎ ((n ≡ 3) ⊎ (n ≡ 4)))

pub form_of : (mdp : Bool) (n : ℕ) → list_any (λ k. k == n) (if mdp then (1 ∷ 2 ∷ 3 ∷ 4 ∷ []) else (2 ∷ 3 ∷ 4 ∷ [])) ≡ true → IsForm n
form_of mdp n h1 = grind arith

-- the number of the cell is the one of the definition, and there is one
pub record IsOpen (p : Preamble) (n : ℕ) (indices : List ℕ) : Type 0 where
  pub cell : cell_in (count_of p.states) (count_of (rewarded p)) (drop n indices)
      ≡ row_major (drop n (dimensions p Reward)) (drop n indices)
  pub within : row_major (drop n (dimensions p Reward)) (drop n indices) < cells_in (drop n (dimensions p Reward))

pub is_open : (p : Preamble) (n a s e z : ℕ) → IsForm n → s < count_of p.states → e < count_of p.states → z < count_of (rewarded p)
    → IsOpen p n (a ∷ s ∷ e ∷ z ∷ [])
is_open p n a s e z h1 h2 h3 h4 = grind arith

-- ---- the number at the cell
number_at : (costs : Bool) (hs numbers : List ℤ) (start k : ℕ)
    → ((k : ℕ) (h : ℤ) → slice_get hs k ≡ Some h → slice_get numbers (start + k) ≡ Some (worth costs h))
    → All (λ h. unsigned_abs h ≤ largest) hs → k < length hs
    → get_or numbers (start + k) (pos 0) ≡ (if costs then neg_ℤ (get_or hs k (pos 0)) else get_or hs k (pos 0))
number_at costs hs numbers start k stands small l = grind (arith, slice_get-get_or, get_or_from_slice_get, worth_is)

-- a sound entry of R has rewards
in_body : (p : Preamble) (body : Body) (numbers : List ℤ) (n start : ℕ) (indices : List ℕ)
    → list_any (λ k. k == n) (forms (is_mdp p) Reward body) ≡ true
    → Fills (cells_in (drop n (dimensions p Reward))) body
    → ((k : ℕ) (h : ℤ) → slice_get (rewards_in body) k ≡ Some h → slice_get numbers (start + k) ≡ Some (worth p.costs h))
    → (IsForm n → IsOpen p n indices)
    → get_or numbers (start + cell_in (count_of p.states) (count_of (rewarded p)) (drop n indices)) (pos 0)
    ≡ reward_in p.costs body (drop n (dimensions p Reward)) (drop n indices)
in_body p body numbers n start indices h1 h2 h3 h4 = grind (arith, form_of, number_at)

-- at an entry of R
pub record IsOfEntry (p : Preamble) (entry : Entry) : Type 0 where
  pub form : list_any (λ k. k == length entry.places) (forms (is_mdp p) Reward entry.body) ≡ true
  pub fills : Fills (cells_in (drop (length entry.places) (dimensions p Reward))) entry.body

pub of_entry : (p : Preamble) (entry : Entry) → entry.table ≡ Reward → IsSoundEntry p entry → IsOfEntry p entry
of_entry p entry t s = grind arith

entry_number : (p : Preamble) (entry : Entry) (numbers : List ℤ) (b : RewardBody) (indices : List ℕ) → entry.table ≡ Reward
    → IsSoundEntry p entry → IsBodyOf p.costs entry numbers b
    → ((n : ℕ) → IsForm n → IsOpen p n indices) → get_or numbers
    (b.start + cell_in (count_of p.states) (count_of (rewarded p)) (drop b.places indices)) (pos 0) ≡ reward_of p indices entry
entry_number p entry numbers b indices t s body opens = grind (arith, in_body, of_entry)

-- ---- the cell of a body
pub all_open : (p : Preamble) (indices : List ℕ) → AreWithin (map count_of (dimensions p Reward)) indices → (n : ℕ) → IsForm n
    → IsOpen p n indices
all_open p [] w n f = absurd w
all_open p (a ∷ []) w n f = absurd w.1
all_open p (a ∷ s ∷ []) w n f = absurd w.1.1
all_open p (a ∷ s ∷ e ∷ []) w n f = absurd w.1.1.1
all_open p (a ∷ s ∷ e ∷ z ∷ []) w n f = is_open p n a s e z f w.1.0 w.1.1.0 w.1.1.1.0
all_open p (a ∷ s ∷ e ∷ z ∷ x ∷ xs) w n f = absurd w.1.1.1.1

pub body_reward : (p : Preamble) (entries : List Entry) (rewards : RewardRules) (indices : List ℕ) (b : RewardBody)
    → AreRewardsOf p entries rewards
    → ((n : ℕ) → IsForm n → IsOpen p n indices) → IsLastBody p.costs entries rewards.numbers indices (Some b)
    → get_or rewards.numbers (b.start + cell_in rewards.shape.states rewards.shape.observations (drop b.places indices)) (pos 0)
    ≡ reward p entries indices
body_reward p entries rewards indices b a opens last =
    let entry = last.last.0.0 in
    let found = last.last.0.1 in
    ap (λ c. get_or rewards.numbers (b.start + cell_in c rewards.shape.observations (drop b.places indices)) (pos 0)) (sym a.shape.states)
    ∙ ap (λ c. get_or rewards.numbers (b.start + cell_in (count_of p.states) c (drop b.places indices)) (pos 0)) (sym a.shape.observations)
    ∙ entry_number p _ _ b _ (covered_table Reward indices entry last.last.0.2)
    (keyed_at (IsSoundEntry p) entries last.number entry a.sound found) (last.body _ found) opens
    ∙ ap (value_or (pos 0) (reward_of p indices)) (sym found) ∙ sym (number_reward p entries indices (Some last.number) last.last)

pub no_reward : (p : Preamble) (entries : List Entry) (indices : List ℕ) → IsLastNumber entries Reward indices None
    → pos 0 ≡ reward p entries indices
no_reward p entries indices last = sym (number_reward p _ _ None last)

-- ---- a body with a single number
pub only_cell : (states observations places a s e z : ℕ) → IsSingle observations places → z < observations
    → cell_in states observations (drop places (a ∷ s ∷ e ∷ z ∷ [])) ≡ 0
only_cell states observations places a s e z h1 h2 = grind (arith, drop_all)

only_cell_of : (p : Preamble) (states observations n : ℕ) (indices : List ℕ) → AreWithin (map count_of (dimensions p Reward)) indices
    → count_of (rewarded p) ≡ observations → IsSingle observations n
    → cell_in states observations (drop n indices) ≡ 0
only_cell_of p states observations n [] w is single = absurd w
only_cell_of p states observations n (a ∷ []) w is single = absurd w.1
only_cell_of p states observations n (a ∷ s ∷ []) w is single = absurd w.1.1
only_cell_of p states observations n (a ∷ s ∷ e ∷ []) w is single = absurd w.1.1.1
only_cell_of p states observations n (a ∷ s ∷ e ∷ z ∷ []) w is single = only_cell _ _ n a s e z single (subst (λ c. z < c) is w.1.1.1.0)
only_cell_of p states observations n (a ∷ s ∷ e ∷ z ∷ x ∷ xs) w is single = absurd w.1.1.1.1

pub single_reward : (p : Preamble) (entries : List Entry) (rewards : RewardRules) (indices : List ℕ) (b : RewardBody)
    → AreRewardsOf p entries rewards
    → AreWithin (map count_of (dimensions p Reward)) indices → IsSingle rewards.shape.observations b.places
    → IsLastBody p.costs entries rewards.numbers indices (Some b)
    → reward p entries indices ≡ get_or rewards.numbers (b.start + 0) (pos 0)
single_reward p entries rewards indices b are within single last =
    sym (body_reward p _ _ _ b are (all_open p _ within) last)
    ∙ ap (λ k. get_or rewards.numbers (b.start + k) (pos 0))
    (only_cell_of p _ _ _ _ within are.shape.observations single)

-- ---- indices
pub small_indices : (m : ℕ) (indices : List ℕ) → AreIndices m indices → All (λ i. i < key_base) indices
small_indices m [] a = All-nil (λ i. i < key_base)
small_indices zero (i ∷ indices) a = absurd a
small_indices (suc m) (i ∷ indices) a = All-cons (λ i. i < key_base) i indices (omega arith) (small_indices m indices a.1)

-- ---- a list of numbers, one for each observation
pub next_cell : (states observations n a s e z : ℕ) → (n ≡ 0 → ⊥) → n < 4
    → cell_in states observations (drop n (a ∷ s ∷ e ∷ 0 ∷ [])) + z ≡ cell_in states observations (drop n (a ∷ s ∷ e ∷ z ∷ []))
next_cell states observations zero a s e z some few = absurd (some refl)
next_cell states observations (suc zero) a s e z some few = omega arith
next_cell states observations (suc (suc zero)) a s e z some few = omega arith
next_cell states observations (suc (suc (suc zero))) a s e z some few = omega arith
next_cell states observations (suc (suc (suc (suc n)))) a s e z some few = absurd (omega (arith, few))

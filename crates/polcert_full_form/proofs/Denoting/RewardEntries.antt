-- The entry of a row of rewards as it is printed gives the row's rewards back.
use Rattle.std.proofs.Common.{◌≡◌, ℕ, ◌<◌, ◌==◌, ⊎_elim, Bool, true, false, ◌&&◌, cond, Some, List, [], ◌∷◌, ◌++◌, ℤ, pos, refl, arith}
use Rattle.polcert_full_form.proofs.Common.{get_or-map-range_with_len, Table, Reward, Only, Rewards, Entry, Preamble, is_mdp, is_table}
use Rattle.polcert_full_form.proofs.Common.{covers, reward, for_each, values, all_below, is_zero, written}
use Rattle.polcert_cells.specs.Cells.{reward_of}
use Rattle.polcert_cells.proofs.Basics.{true≢false}
use Rattle.polcert_cells.proofs.CellLaws.{uncovered_reward}
use Rattle.polcert_full_form.proofs.Denoting.Covering.{last_of, none_of, last_after, none_both, none_of_each, last_of_each}
use Rattle.polcert_full_form.proofs.Denoting.RowEntries.{IsOtherRow, test_below, test_same}

abbrev pub reward_row : Bool → ℕ → ℕ → ℕ → ℕ → (ℕ → ℤ) → Entry
reward_row costs a s e n r = record {
  table = Reward;
  places = Only a ∷ Only s ∷ Only e ∷ [];
  body = Rewards (values n (λ z. written costs (r z)));
}

abbrev pub reward_entries : Bool → ℕ → ℕ → ℕ → ℕ → (ℕ → ℤ) → List Entry
reward_entries costs a s e n r = cond (all_below n (λ z. is_zero (r z))) [] (reward_row costs a s e n r ∷ [])

-- in an MDP a number for each end state
abbrev pub end_row : Bool → ℕ → ℕ → ℕ → (ℕ → ℤ) → Entry
end_row costs a s n r = record { table = Reward; places = Only a ∷ Only s ∷ []; body = Rewards (values n (λ e. written costs (r e))) }

abbrev pub end_entries : Bool → ℕ → ℕ → ℕ → (ℕ → ℤ) → List Entry
end_entries costs a s n r = cond (all_below n (λ e. is_zero (r e))) [] (end_row costs a s n r ∷ [])

-- the entries of an action in a state
abbrev pub entries_from : Bool → Bool → ℕ → ℕ → ℕ → ℕ → (ℕ → ℕ → ℤ) → List Entry
entries_from mdp costs a s k n r = cond mdp (end_entries costs a s k (λ e. r e 0)) (for_each k (λ e. reward_entries costs a s e n (r e)))

pub zero_is : (h : ℤ) → is_zero h ≡ true → h ≡ pos 0
zero_is h h1 = grind arith

-- the row of another place or table
abbrev pub IsElsewhere : ℕ → ℕ → ℕ → Table → ℕ → ℕ → ℕ → Type 0
IsElsewhere a s e asked i j k = (is_table Reward asked && ((a == i) && ((s == j) && (e == k)))) ≡ false

pub rewards_elsewhere : (costs : Bool) (a s e n : ℕ) (r : ℕ → ℤ) (asked : Table) (i j k : ℕ) (more : List ℕ) → IsElsewhere a s e asked i j k
    → none_of (covers asked (i ∷ j ∷ k ∷ more)) (reward_entries costs a s e n r) ≡ false
rewards_elsewhere costs a s e n r asked i j k more apart = grind arith

-- the entries of another action or state, or of another table
pub from_elsewhere : (mdp costs : Bool) (a s k n : ℕ) (r : ℕ → ℕ → ℤ) (asked : Table) (i j e : ℕ) (more : List ℕ)
    → IsOtherRow Reward a s asked i j
    → none_of (covers asked (i ∷ j ∷ e ∷ more)) (entries_from mdp costs a s k n r) ≡ false
from_elsewhere mdp costs a s k n r asked i j e more h1 = grind (arith, none_of_each)

-- ---- what entries give a cell
-- no entry covers the cell and the reward is 0, or the last that does gives this reward
pub data IsGiven (p : Preamble) (indices : List ℕ) (es : List Entry) (h : ℤ) : Type 0 where
  nothing : none_of (covers Reward indices) es ≡ false → h ≡ pos 0 → IsGiven p indices es h
  entry : (e : Entry) → last_of (covers Reward indices) es ≡ Some e → reward_of p indices e ≡ h → IsGiven p indices es h

module _ (p : Preamble) (indices : List ℕ) (h : ℤ) where
  pub given_is : (es : List Entry) → IsGiven p indices es h → reward p es indices ≡ h
  given_is es h1 = grind (arith, uncovered_reward)

  pub given_after : (before es : List Entry) → none_of (covers Reward indices) before ≡ false → IsGiven p indices es h
      → IsGiven p indices (before ++ es) h
  given_after before es clear (nothing none unpaid) = nothing (none_both _ before es clear none) unpaid
  given_after before es clear (entry e last same) = entry e (last_after _ before es e last) same

  pub given_each : (n i : ℕ) (f : ℕ → List Entry) → i < n → IsGiven p indices (f i) h
      → ((j : ℕ) → j < n → (i ≡ j → ⊥) → none_of (covers Reward indices) (f j) ≡ false)
      → IsGiven p indices (for_each n f) h
  given_each n i f l (nothing none unpaid) apart = grind (arith, ⊎_elim, true≢false, none_of, none_of_each, test_same)
  given_each n i f l (entry e last same) apart = entry e (last_of_each _ n i f e l last apart) same

found_alone : (test : Entry → Bool) (x : Entry) → test x ≡ true → last_of test (x ∷ []) ≡ Some x
found_alone test x h = simp h

-- ---- a row of observations
module _ (p : Preamble) (a s e n z : ℕ) (r : ℕ → ℤ) (l : z < n) where
  row_given : IsGiven p (a ∷ s ∷ e ∷ z ∷ []) (reward_entries p.costs a s e n r) (r z)
  row_given = at (all_below n _) refl
    where
      at : (b : Bool) → all_below n (λ z. is_zero (r z)) ≡ b
          → IsGiven p (a ∷ s ∷ e ∷ z ∷ []) (cond b [] (reward_row p.costs a s e n r ∷ [])) (r z)
      at true all = nothing refl (zero_is _ (test_below n z _ all l))
      at false some = entry (reward_row _ a s e n r) (found_alone (covers Reward (a ∷ s ∷ e ∷ z ∷ [])) _ (grind arith))
          (grind (arith, get_or-map-range_with_len))

-- ---- a row of end states, in an MDP
module _ (p : Preamble) (a s n e : ℕ) (r : ℕ → ℤ) (mdp : is_mdp p ≡ true) (l : e < n) where
  end_given : IsGiven p (a ∷ s ∷ e ∷ 0 ∷ []) (end_entries p.costs a s n r) (r e)
  end_given = at (all_below n _) refl
    where
      at : (b : Bool) → all_below n (λ e. is_zero (r e)) ≡ b
          → IsGiven p (a ∷ s ∷ e ∷ 0 ∷ []) (cond b [] (end_row p.costs a s n r ∷ [])) (r e)
      at true all = nothing refl (zero_is _ (test_below n e _ all l))
      at false some = entry (end_row _ a s n r) (found_alone (covers Reward (a ∷ s ∷ e ∷ 0 ∷ [])) _ (grind arith))
          (grind (arith, get_or-map-range_with_len))

-- ---- the entries of an action in a state
pub from_given : (p : Preamble) (mdp : Bool) (a s k n e z : ℕ) (r : ℕ → ℕ → ℤ) → is_mdp p ≡ mdp → e < k → z < n
    → IsGiven p (a ∷ s ∷ e ∷ cond mdp 0 z ∷ []) (entries_from mdp p.costs a s k n r) (r e (cond mdp 0 z))
from_given p true a s k n e z r mdp d l = end_given p a s k e _ mdp d
from_given p false a s k n e z r mdp d l =
    given_each p _ _ k e _ d (row_given p a s e n z _ l)
    (λ b m apart. rewards_elsewhere _ a s b n _ _ a s e _ (grind arith))

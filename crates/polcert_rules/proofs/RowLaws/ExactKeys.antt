-- Keys that name an action, a state and a column: none is of each action or each state. A key that covers a whole row names no column.
use Rattle.std.proofs.Common.{◌≡◌, ℕ, ◌+◌, ◌*◌, ◌/◌, ◌%◌, ◌^◌, ◌<◌, ◌⊎◌, inl, inr, ⊎_elim, false, Option, List, [], ◌∷◌, Contains}
use Rattle.std.proofs.Common.{subst, sym, arith}
use Rattle.polcert_rules.proofs.Common.{nat_tests, IsNewest, Rule, key_base, most_places, names_column, no_column, wholes_of}
use Rattle.polcert_rules.specs.Keys.{FitsKey}
use Rattle.polcert_rules.specs.Steps.Rows.{AreExact, IsColumnRule, start_of}
use Rattle.polcert_rules.proofs.Indexes.Building.{Among, among_from, contains_from}
use Rattle.polcert_rules.proofs.Indexes.Newer.{newest_of_part}
use Rattle.polcert_rules.proofs.Keyed.Fitting.{fits_next, fits_end}

-- the digit of the third place is none, `*` or that of no column
abbrev IsOfRow : ℕ → Type 0
IsOfRow key = ((key / key_base) % key_base < 2) ⊎ ((key / key_base) % key_base ≡ no_column + 2)

in_no_column : (low x : ℕ) → low ≡ x * key_base ^ 2 → (key : ℕ) → FitsKey 2 low (no_column ∷ []) key → IsOfRow key
in_no_column low x is key f =
    ⊎_elim (λ e. inl (omega arith)) (λ o. ⊎_elim
    (λ g. let e = fits_end 1 _ key g in inl (omega arith))
    (λ g. let e = fits_end 1 _ key g in inr (omega arith)) o) (fits_next 1 low _ [] key f)

of_no_state : (low x s : ℕ) → low ≡ x * key_base ^ 3 → (key : ℕ) → FitsKey 3 low (s ∷ no_column ∷ []) key → IsOfRow key
of_no_state low x s is key f =
    ⊎_elim (λ e. inl (omega arith)) (λ o. ⊎_elim
    (in_no_column _ (x * key_base + 1) (omega arith) key)
    (in_no_column _ (x * key_base + (s + 2)) (omega arith) key) o) (fits_next 2 low s _ key f)

of_row : (low d a s : ℕ) → low ≡ d * key_base ^ 4 → (key : ℕ) → FitsKey most_places low (a ∷ s ∷ no_column ∷ []) key → IsOfRow key
of_row low d a s is key f =
    ⊎_elim (λ e. inl (omega arith)) (λ o. ⊎_elim
    (of_no_state _ (d * key_base + 1) s (omega arith) key)
    (of_no_state _ (d * key_base + (a + 2)) s (omega arith) key) o) (fits_next 3 low a _ key f)

-- such a key names no column
pub names_none : (low d a s : ℕ) → low ≡ d * key_base ^ 4 → (key : ℕ) → FitsKey most_places low (a ∷ s ∷ no_column ∷ []) key
    → names_column key ≡ false
names_none low d a s is key f = ⊎_elim (λ e. grind (arith, nat_tests, e)) (λ e. grind (arith, nat_tests, e)) (of_row low d a s is key f)

-- the newest of the rules that name no column is the newest of all
pub newest_whole : (rules wholes : List Rule) (low d a s : ℕ) (x : Option ℕ) → low ≡ d * key_base ^ 4 → wholes ≡ wholes_of rules
    → IsNewest wholes (FitsKey most_places low (a ∷ s ∷ no_column ∷ [])) x
    → IsNewest rules (FitsKey most_places low (a ∷ s ∷ no_column ∷ [])) x
newest_whole rules wholes low d a s x is same = newest_of_part _ _ _ x (λ r c. old _ r (subst (λ xs. Contains xs r) same c))
    (λ r c f. subst (λ xs. Contains xs r) (sym same) (kept _ r (names_none low d a s is _ f) c))
  where
    old : (rs : List Rule) (q : Rule) → Contains (wholes_of rs) q → Contains rs q
    old rs q c = contains_from rs q (old_among rs q (among_from _ q c))
      where
        old_among : (rs : List Rule) (q : Rule) → Among q (wholes_of rs) → Among q rs
        old_among [] q a = absurd a
        old_among (r ∷ rs) q a = grind (arith, ⊎_elim, old_among rs q)

    kept : (rs : List Rule) (q : Rule) → names_column q.key ≡ false → Contains rs q → Contains (wholes_of rs) q
    kept rs q none c = contains_from _ q (kept_among rs q none (among_from rs q c))
      where
        kept_among : (rs : List Rule) (q : Rule) → names_column q.key ≡ false → Among q rs → Among q (wholes_of rs)
        kept_among [] q none a = absurd a
        kept_among (r ∷ rs) q none a = grind (arith, ⊎_elim, kept_among rs q)

-- no cell of each action or of each state is among rules with such keys
module _ (rules : List Rule) (low d : ℕ) (is : low ≡ d * key_base ^ 4) (exact : AreExact rules) where
  pub of_no_action : (second : ℕ) (x : Rule) → second < key_base → IsColumnRule rules (start_of low 1 second) x → ⊥
  of_no_action second x small c =
      let action = (exact c.rule c.among).action in
      let key = c.key_is in
      let column = c.column in
      absurd (omega arith)

  pub of_each_state : (first : ℕ) (x : Rule) → first < key_base → IsColumnRule rules (start_of low first 1) x → ⊥
  of_each_state first x small c =
      let state = (exact c.rule c.among).state in
      let key = c.key_is in
      let column = c.column in
      absurd (omega arith)

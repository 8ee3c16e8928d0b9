-- The zeros of a row, found by their keys.
use Rattle.std.proofs.Common.{◌≡◌, ◌∙◌, ℕ, ◌+◌, ◌*◌, ◌^◌, ◌/◌, ◌%◌, ◌<◌, ◌≤◌, ◌↔◌, ◌⊎◌, inl, inr, ⊎_elim, true, false, Option, None}
use Rattle.std.proofs.Common.{List, Contains, refl, ap, subst, arith}
use Rattle.std.specs.Prelude.{◌==◌}
use Rattle.polcert_rules.proofs.Common.{Place, Every, Only, fits_place, Rule, RowZeros, key_base, digit, IsNewest, IsSingleCellKey}
use Rattle.polcert_rules.proofs.Common.{nat_tests, newest_zero}
use Rattle.polcert_rules.specs.Steps.Zeros.{AreActionZeros, AreColumnsFrom, at_key, names_row, zero_in}
use Rattle.polcert_rules.specs.declared.zeros.ZeroColumns.{ZeroColumns}
use Rattle.polcert_rules.proofs.Keyed.Fitting.{same_number, equal_numbers}
use Rattle.polcert_rules.proofs.Indexes.Newer.{newest_among, newest_of_part, newest_of_two}
use Rattle.polcert_rules.proofs.Indexes.Matching.{newest_by_is, one_newest}
use Rattle.polcert_rules.proofs.RowLaws.Cells.{two_digits}
use Rattle.polcert_rules.specs.Steps.Rows.{IsTableKey, start_of}

-- ---- one key
key_is : (rules : List Rule) (key : ℕ) → IsNewest rules (λ k. k ≡ key) (at_key rules key)
key_is rules key = newest_by_is _ _ _ (λ k. same_number k key) (λ k e. ap (λ x. x == key) e ∙ equal_numbers key)

pub found_at : (rules part : List Rule) (key : ℕ) (found : Option ℕ) → ((r : Rule) → Contains part r ↔ (Contains rules r × (key ≤ r.key)))
    → IsNewest part (λ k. k ≡ key) found → found ≡ at_key rules key
found_at rules part key found kept n =
    one_newest _ _ _ _
    (newest_of_part _ part _ _ (λ r c. ((kept r).0 c).0) (λ r c e. (kept r).1 (c, omega (arith, e))) n)
    (key_is _ key)

-- ---- one column
in_columns : (rules : List Rule) (start c : ℕ) (z : ZeroColumns) → AreColumnsFrom rules start z → c + 2 < key_base
    → IsNewest rules (λ k. k ≡ start + c * key_base) (zero_in z c)
in_columns rules start c z f small =
    newest_of_part _ _ _ _ (λ r m. ((f.kept r).0 m).0)
    (λ r m e. (f.kept r).1 (m, omega (arith, e), omega (arith, e, small)))
    (subst (λ at. IsNewest z.rules.now (λ k. k ≡ at + c * key_base) (at_key z.rules.now (z.start + c * key_base))) f.is
    (key_is z.rules.now (z.start + c * key_base)))

single_from : (low action state c start k : ℕ) (p q : Place) → start ≡ start_of low (digit p) (digit q) → fits_place p action ≡ true
    → fits_place q state ≡ true → k ≡ start + c * key_base
    → IsSingleCellKey low action state c k
single_from low action state c start k p q is a s e = record { first = p; second = q; fits_action = a; fits_state = s; is = omega arith }

pub single_to : (low action state c start a b k : ℕ) (i : IsSingleCellKey low action state c k) → start ≡ start_of low a b
    → digit i.first ≡ a
    → digit i.second ≡ b → k ≡ start + c * key_base
single_to low action state c start a b k i is e f = omega arith

-- a key of an action and a state names a row
of_row : (low d a s c k : ℕ) → low ≡ d * key_base ^ 4 → a + 2 < key_base → s + 2 < key_base → c + 2 < key_base
    → k ≡ start_of low (a + 2) (s + 2) + c * key_base → names_row k ≡ false → ⊥
of_row low d a s c k is la ls lc e none =
    let first : (k / key_base ^ 3) % key_base ≡ a + 2 = omega arith in
    let second : (k / key_base ^ 2) % key_base ≡ s + 2 = omega arith in
    absurd (grind (arith, nat_tests))

pub row_newest : (rules : List Rule) (low action state s : ℕ) (z : RowZeros) → IsTableKey low → state + 2 < key_base
    → ((r : Rule) → Contains rules r → names_row r.key ≡ false) → AreActionZeros rules low action z.of_each → s ≡ start_of low 1 (state + 2)
    → AreColumnsFrom rules s z.of_state
    → (c : ℕ) → c + 2 < key_base → IsNewest rules (IsSingleCellKey low action state c) (newest_zero z c)
row_newest rules low action state s z table ls shared each is of_state c small =
    newest_among rules (λ k. ((k ≡ all + c * key_base) ⊎ (k ≡ one + c * key_base)) ⊎ (k ≡ s + c * key_base))
    (IsSingleCellKey low action state c) _ (λ r among. forth r.key) back
    (newest_of_two rules _ _ _ _ (newest_of_two rules _ _ _ _ (in_columns rules all c z.of_each.of_all each.of_all small)
    (in_columns rules one c z.of_each.of_action each.of_action small)) (in_columns rules s c z.of_state of_state small))
  where
    all : ℕ
    all = start_of low 1 1

    one : ℕ
    one = start_of low (action + 2) 1

    forth : (k : ℕ) → ((k ≡ all + c * key_base) ⊎ (k ≡ one + c * key_base)) ⊎ (k ≡ s + c * key_base)
        → IsSingleCellKey low action state c k
    forth k e = ⊎_elim (λ shared. ⊎_elim (single_from low action state c all k Every Every refl refl refl)
        (single_from low action state c one k (Only action) Every refl (equal_numbers action) refl) shared)
        (single_from low action state c s k Every (Only state) is refl (equal_numbers state)) e

    back : (r : Rule) → Contains rules r → IsSingleCellKey low action state c r.key
        → ((r.key ≡ all + c * key_base) ⊎ (r.key ≡ one + c * key_base)) ⊎ (r.key ≡ s + c * key_base)
    back r among i = ⊎_elim
        (λ every. ⊎_elim (λ f. inl (inl (single_to low action state c all 1 1 r.key i refl every f)))
        (λ f. inr (single_to low action state c s 1 (state + 2) r.key i is every f)) second)
        (λ only. ⊎_elim (λ f. inl (inr (single_to low action state c one (action + 2) 1 r.key i refl only f)))
        (λ f. absurd (of_row low table.0 action state c r.key table.2 each.room ls small
        (single_to low action state c (start_of low (action + 2) (state + 2)) (action + 2) (state + 2) r.key i refl only f)
        (shared r among))) second)
        (two_digits i.first action i.fits_action)
      where
        second : (digit i.second ≡ 1) ⊎ (digit i.second ≡ state + 2)
        second = two_digits i.second state i.fits_state

pub none_newest : (rules : List Rule) (P : ℕ → Type 0) (x : Option ℕ) → x ≡ None → IsNewest rules P x → IsNewest rules P None
none_newest rules P x e n = subst (IsNewest rules P) e n

-- The single cells of a row.
use Rattle.std.proofs.Common.{◌≡◌, ◌∙◌, ℕ, ◌+◌, ◌-◌, ◌*◌, ◌/◌, ◌%◌, ◌<◌, ◌≤◌, ◌↔◌, ◌⊎◌, inl, inr, ⊎_elim, Bool, true, false, cond, eqb}
use Rattle.std.proofs.Common.{Option, Some, None, List, [], ◌∷◌, ◌++◌, get_or, Contains, All, refl, sym, ap, subst, arith}
use Rattle.std.specs.List.Sorted.{IsPermutation}
use Rattle.polcert_rules.proofs.Common.{cases_lt, nat_tests, get_or_default, Contains-permutation, IsPermutation-sym, Contains-append_left}
use Rattle.polcert_rules.proofs.Common.{Contains-append_right, Contains-append_cases, Contains-get_or, Place, Every, Only, fits_place, Rule}
use Rattle.polcert_rules.proofs.Common.{key_base, digit, IsRising, IsNewest, newest_of_each, IsSingleCellKey, IsCell, columns_of, at_column}
use Rattle.polcert_rules.specs.Steps.Rows.{HasSharedColumns, IsColumnRule, start_of}
use Rattle.polcert_rules.proofs.Keyed.Fitting.{equal_numbers}
use Rattle.polcert_rules.proofs.Indexes.Building.{Among, Stands, among_from, contains_from, each_old, each_kept, rule_of}

pub all_of : (P : Rule → Type 0) (xs : List Rule) → ((r : Rule) → Contains xs r → P r) → All P xs
all_of P xs h k d l = h _ (Contains-get_or xs k d l)

-- ---- the columns of a part
columns_old : (start : ℕ) (part : List Rule) (x : Rule) → ((r : Rule) → Among r part → start ≤ r.key) → Among x (columns_of start part)
    → (r : Rule) × Among r part × (r.key ≡ start + x.key * key_base) × (r.number ≡ x.number)
columns_old start [] x low a = absurd a
columns_old start (r ∷ rs) x low a = at (eqb ((r.key - start) % key_base) 0) refl (columns_old start rs x (λ q b. low q (inr b))) a
  where
    at : (b : Bool) → eqb ((r.key - start) % key_base) 0 ≡ b
        → (Among x (columns_of start rs) → (r : Rule) × Among r rs × (r.key ≡ start + x.key * key_base) × (r.number ≡ x.number))
        → Among x (cond b (rule_of ((r.key - start) / key_base) r.number ∷ columns_of start rs) (columns_of start rs))
        → (q : Rule) × Among q (r ∷ rs) × (q.key ≡ start + x.key * key_base) × (q.number ≡ x.number)
    at true e ih a = ⊎_elim (λ is.
        let none_left : (r.key - start) % key_base ≡ 0 = grind (arith, nat_tests) in
        let from : start ≤ r.key = low r (inl refl) in
        let column : (r.key - start) / key_base ≡ x.key = ap (λ (y : Rule). y.key) is in
        (r, inl refl, omega arith, ap (λ (y : Rule). y.number) is))
        (λ b. let i = ih b in (i.0, inr i.1, i.2, i.3)) a
    at false e ih a = let i = ih a in (i.0, inr i.1, i.2, i.3)

columns_new : (start : ℕ) (part : List Rule) (r : Rule) (c : ℕ) → Among r part → r.key ≡ start + c * key_base
    → Among (rule_of c r.number) (columns_of start part)
columns_new start [] r c a is = absurd a
columns_new start (x ∷ xs) r c a is = at (eqb ((x.key - start) % key_base) 0) refl (λ b. columns_new _ xs r c b is) a
  where
    at : (b : Bool) → eqb ((x.key - start) % key_base) 0 ≡ b → (Among r xs → Among (rule_of c r.number) (columns_of start xs)) → (x ≡ r)
        ⊎ Among r xs
        → Among (rule_of c r.number) (cond b (rule_of ((x.key - start) / key_base) x.number ∷ columns_of start xs) (columns_of start xs))
    at b h1 h2 h3 = grind (arith, ⊎_elim, nat_tests, rule_of)

abbrev pub IsBetween : List Rule → List Rule → ℕ → ℕ → Type 0
IsBetween rules part low high = (r : Rule) → Contains part r ↔ (Contains rules r × (low ≤ r.key) × (r.key < high))

pub columns_are : (rules part : List Rule) (start : ℕ) → IsBetween rules part start (start + (key_base - 2) * key_base) → (x : Rule)
    → Contains (columns_of start part) x ↔ IsColumnRule rules start x
columns_are rules part start between x = (forth, back)
  where
    forth : Contains (columns_of start part) x → IsColumnRule rules start x
    forth c =
        let old = columns_old _ part x (λ r a. ((between r).0 (contains_from part r a)).1) (among_from _ x c) in
        let r = (between _).0 (contains_from part _ old.1) in
        record { rule = old.0; among = r.0; key_is = old.2; column = omega arith; number_is = old.3 }

    back : IsColumnRule rules start x → Contains (columns_of start part) x
    back c =
        let found = columns_new _ part _ _ (among_from part _ ((between c.rule).1 (c.among, omega arith, omega arith))) c.key_is in
        contains_from _ x (subst (λ n. Among (rule_of x.key n) (columns_of start part)) c.number_is found)

-- with those that stand in front
pub with_columns : (rules part old new : List Rule) (start : ℕ) → IsBetween rules part start (start + (key_base - 2) * key_base)
    → new ≡ old ++ columns_of start part
    → (x : Rule) → Contains new x ↔ (Contains old x ⊎ IsColumnRule rules start x)
with_columns rules part old new start between is x = (
  (λ c. ⊎_elim inl (λ b. inr ((columns_are _ part _ between x).0 b)) (Contains-append_cases old _ x (subst (λ xs. Contains xs x) is c))),
  (λ e. subst (λ xs. Contains xs x) (sym is) (⊎_elim (Contains-append_left old _ x)
      (λ c. Contains-append_right old _ x ((columns_are _ part _ between x).1 c)) e)),
)

-- ---- the four kinds of single cells
cell_from : (rules : List Rule) (low action state start : ℕ) (p q : Place) (x : Rule) → start ≡ start_of low (digit p) (digit q)
    → fits_place p action ≡ true → fits_place q state ≡ true
    → IsColumnRule rules start x → IsCell rules low action state x
cell_from rs0 low action state start p q x is a s c = grind arith

cell_to : (rules : List Rule) (low action state start : ℕ) (x : Rule) → (c : IsCell rules low action state x)
    → start ≡ start_of low (digit c.single.first) (digit c.single.second) → IsColumnRule rules start x
cell_to rs0 low action state start x c is = grind arith

-- a place that fits an index has one of two digits
pub two_digits : (p : Place) (i : ℕ) → fits_place p i ≡ true → (digit p ≡ 1) ⊎ (digit p ≡ i + 2)
two_digits p i h1 = grind arith

abbrev pub IsStep : List Rule → List Rule → List Rule → ℕ → Type 0
IsStep rules old new start = (x : Rule) → Contains new x ↔ (Contains old x ⊎ IsColumnRule rules start x)

pub gathered_are : (rules v0 v3 v4 : List Rule) (low action state s4 : ℕ) → v0 ≡ [] → s4 ≡ start_of low (action + 2) (state + 2)
    → HasSharedColumns rules low action state v0 v3 → IsStep rules v3 v4 s4 → (x : Rule) → Contains v4 x ↔ IsCell rules low action state x
gathered_are rules v0 v3 v4 low action state s4 empty i4 shared step4 x = (forth, back)
  where
    fit : (i : ℕ) → fits_place (Only i) i ≡ true
    fit i = equal_numbers i

    nothing : Contains v0 x → IsCell rules low action state x
    nothing c = absurd (among_from [] x (subst (λ xs. Contains xs x) empty c))

    forth : Contains v4 x → IsCell rules low action state x
    forth c4 =
        ⊎_elim (λ c3. ⊎_elim (⊎_elim (⊎_elim nothing
        (cell_from rules low action state (start_of low 1 1) Every Every x refl refl refl))
        (cell_from rules low action state (start_of low 1 (state + 2)) Every (Only state) x refl refl (fit state)))
        (cell_from rules low action state (start_of low (action + 2) 1) (Only action) Every x refl (fit action) refl) ((shared x).0 c3))
        (cell_from rules low action state s4 (Only action) (Only state) x i4 (fit action) (fit state)) ((step4 x).0 c4)

    to : (c : IsCell rules low action state x) (start a b : ℕ) → start ≡ start_of low a b → digit c.single.first ≡ a
        → digit c.single.second ≡ b → IsColumnRule rules start x
    to c start a b i e f = cell_to rules low action state start x c
        (i ∙ ap (λ d. start_of low d b) (sym e) ∙ ap (start_of low (digit c.single.first)) (sym f))

    back : IsCell rules low action state x → Contains v4 x
    back c =
        let second = two_digits c.single.second state c.single.fits_state in
        ⊎_elim
        (λ every. ⊎_elim
        (λ all. (step4 x).1 (inl ((shared x).1 (inl (inl (inr (to c (start_of low 1 1) 1 1 refl every all)))))))
        (λ one. (step4 x).1 (inl ((shared x).1 (inl (inr (to c (start_of low 1 (state + 2)) 1 (state + 2) refl every one)))))) second)
        (λ only. ⊎_elim
        (λ all. (step4 x).1 (inl ((shared x).1 (inr (to c (start_of low (action + 2) 1) (action + 2) 1 refl only all)))))
        (λ one. (step4 x).1 (inr (to c s4 (action + 2) (state + 2) i4 only one))) second)
        (two_digits c.single.first action c.single.fits_action)

-- ---- the newest in each column
pub same_key : (xs : List Rule) (x y : Rule) → IsRising xs → Contains xs x → Contains xs y → x.key ≡ y.key → x.number ≡ y.number
same_key xs x y up (k, kl, ke) (l, ll, le) e = ⊎_elim (λ less. absurd (apart (get_or xs k x) (get_or xs l x) (up k l x less ll)
    (ap (λ (r : Rule). r.key) ke, ap (λ (r : Rule). r.key) (other ∙ le) ∙ sym e)))
    (λ ge. ⊎_elim
    (λ less. absurd (apart (get_or xs l x) (get_or xs k x) (up l k x less kl)
    (ap (λ (r : Rule). r.key) (other ∙ le) ∙ sym e, ap (λ (r : Rule). r.key) ke)))
    (λ le2. ap (λ (r : Rule). r.number) (sym ke ∙ ap (λ i. get_or xs i x) (omega arith) ∙ other ∙ le)) (cases_lt l k))
    (cases_lt k l)
  where
    other : get_or xs l x ≡ get_or xs l y
    other = get_or_default xs l x y ll

    apart : (a b : Rule) → a.key < b.key → (a.key ≡ x.key) × (b.key ≡ x.key) → ⊥
    apart a b h s = omega arith

pub column_found : (xs : List Rule) (c n : ℕ) → at_column xs c ≡ Some n → Among (rule_of c n) xs
column_found [] c n e = cc
column_found (x ∷ xs) c n e = at (eqb x.key c) refl (column_found xs c n) e
  where
    at : (b : Bool) → eqb x.key c ≡ b → (at_column xs c ≡ Some n → Among (rule_of c n) xs)
        → cond b (Some x.number) (at_column xs c) ≡ Some n → (x ≡ rule_of c n) ⊎ Among (rule_of c n) xs
    at b h1 h2 h3 = grind (arith, nat_tests, rule_of)

pub column_missed : (xs : List Rule) (c : ℕ) (r : Rule) → at_column xs c ≡ None → Among r xs → r.key ≡ c → ⊥
column_missed [] c r e a k = a
column_missed (x ∷ xs) c r e a k = at (eqb x.key c) refl (λ f b. column_missed xs c r f b k) e a
  where
    at : (b : Bool) → eqb x.key c ≡ b → (at_column xs c ≡ None → Among r xs → ⊥) → cond b (Some x.number) (at_column xs c) ≡ None → (x ≡ r)
        ⊎ Among r xs → ⊥
    at b h1 h2 h3 h4 = grind (arith, ⊎_elim, nat_tests)

pub newest_at : (rules gathered sorted : List Rule) (low action state : ℕ)
    → ((x : Rule) → Contains gathered x ↔ IsCell rules low action state x) → IsPermutation gathered sorted
    → IsRising (newest_of_each sorted) → (c : ℕ) → c + 2 < key_base
    → IsNewest rules (IsSingleCellKey low action state c) (at_column (newest_of_each sorted) c)
newest_at rules gathered sorted low action state are p up c small = at (at_column (newest_of_each sorted) c) refl
  where
    -- a rule of the column has a cell that stands for it
    stands : (r : Rule) → Contains rules r → IsSingleCellKey low action state c r.key → Stands (newest_of_each sorted) (rule_of c r.number)
    stands r among single =
        let cell : IsCell rules low action state (rule_of c r.number) =
        record { rule = r; among = among; single = single; column = small; number_is = refl } in
        let inside : Contains sorted (rule_of c r.number) = Contains-permutation gathered sorted _ p ((are (rule_of c r.number)).1 cell) in
        each_kept sorted (rule_of c r.number) (among_from sorted _ inside)

    at : (o : Option ℕ) → at_column (newest_of_each sorted) c ≡ o → IsNewest rules (IsSingleCellKey low action state c) o
    at None e = λ r among single. let s = stands r among single in column_missed (newest_of_each sorted) c s.rule e s.among s.key
    at (Some n) e =
        let found : Among (rule_of c n) (newest_of_each sorted) = column_found (newest_of_each sorted) c n e in
        let old : Contains sorted (rule_of c n) = contains_from sorted _ (each_old sorted (rule_of c n) found) in
        let cell = (are (rule_of c n)).0 (Contains-permutation sorted gathered _ (IsPermutation-sym gathered sorted p) old) in (
          record { rule = cell.rule; among = cell.among; passes = cell.single; is = cell.number_is },
          λ r among single.
              let s = stands r among single in
              let same : s.rule.number ≡ n = same_key (newest_of_each sorted) s.rule (rule_of c n) up
              (contains_from (newest_of_each sorted) s.rule s.among) (contains_from (newest_of_each sorted) _ found) s.key in
              let high = s.number in
              omega arith,
        )

-- each cell that is kept is one of the row's
pub each_cell : (rules gathered sorted : List Rule) (low action state : ℕ)
    → ((x : Rule) → Contains gathered x ↔ IsCell rules low action state x) → IsPermutation gathered sorted
    → All (IsCell rules low action state) (newest_of_each sorted)
each_cell rules gathered sorted low action state are p = all_of _ _ (λ x c. (are x).0 (Contains-permutation _ _ x (IsPermutation-sym _ _ p)
    (contains_from _ x (each_old _ x (among_from _ x c)))))

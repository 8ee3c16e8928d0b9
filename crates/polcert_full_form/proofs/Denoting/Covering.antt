-- Which entry covers a cell last, where entries stand in groups.
use Rattle.std.proofs.Common.{◌≡◌, ◌∙◌, ℕ, zero, suc, ◌<◌, ◌⊎◌, ⊎_elim, Bool, false, cond, Option, Some, List, [], ◌∷◌, ◌++◌, reverse, refl}
use Rattle.std.proofs.Common.{ap, arith}
use Rattle.polcert_full_form.proofs.Common.{list_any, Entry, for_each}
use Rattle.std.specs.List.{find}
use Rattle.std.proofs.lemmas.List.{reverse-append, append_assoc}
use Rattle.std.proofs.lemmas.List.Folds.{list_any-append}
use Rattle.polcert_cells.proofs.Basics.{or_false, or_false_from}

module _ (p : Entry → Bool) where
  -- the last of the entries that passes the test
  abbrev pub last_of : List Entry → Option Entry
  last_of es = find p (reverse es)

  abbrev pub none_of : List Entry → Bool
  none_of es = list_any p es

  found_first : (xs ys : List Entry) (e : Entry) → find p xs ≡ Some e → find p (xs ++ ys) ≡ Some e
  found_first [] ys e h = absurd (cc)
  found_first (x ∷ xs) ys e h = grind (arith, found_first xs ys e)

  passed_over : (xs ys : List Entry) → list_any p xs ≡ false → find p (reverse xs ++ ys) ≡ find p ys
  passed_over [] ys e = refl
  passed_over (x ∷ xs) ys e =
      let both = or_false _ _ e in
      ap (find p) (ap (λ (l : List _). l ++ ys) (reverse-append (x ∷ []) xs) ∙ append_assoc _ (x ∷ []) ys) ∙ passed_over xs _ both.1
      ∙ ap (λ b. cond b (Some x) (find p ys)) both.0

  -- after, the last is the last
  pub last_after : (xs ys : List Entry) (e : Entry) → last_of ys ≡ Some e → last_of (xs ++ ys) ≡ Some e
  last_after xs ys e h = ap (find p) (reverse-append xs ys) ∙ found_first _ _ e h

  -- what is after doesn't count, if none passes there
  pub last_before : (xs ys : List Entry) → none_of ys ≡ false → last_of (xs ++ ys) ≡ last_of xs
  last_before xs ys h = ap (find p) (reverse-append xs ys) ∙ passed_over ys _ h

  pub none_both : (xs ys : List Entry) → none_of xs ≡ false → none_of ys ≡ false → none_of (xs ++ ys) ≡ false
  none_both xs ys a b = list_any-append p xs ys ∙ or_false_from _ _ a b

  pub none_of_each : (n : ℕ) (f : ℕ → List Entry) → ((i : ℕ) → i < n → none_of (f i) ≡ false) → none_of (for_each n f) ≡ false
  none_of_each zero f h = refl
  none_of_each (suc n) f h = none_both _ _ (none_of_each n f (λ i l. h i (omega arith))) (h n (omega arith))

  here_or_before : (i n : ℕ) → i < suc n → (i ≡ n) ⊎ (i < n)
  here_or_before i n l = grind arith

  -- of groups, just one passes
  pub last_of_each : (n i : ℕ) (f : ℕ → List Entry) (e : Entry) → i < n → last_of (f i) ≡ Some e
      → ((j : ℕ) → j < n → (i ≡ j → ⊥) → none_of (f j) ≡ false) → last_of (for_each n f) ≡ Some e
  last_of_each zero i f e l h others = grind arith
  last_of_each (suc n) i f e l h others = ⊎_elim (λ same. last_after (for_each n f) _ e (cc))
      (λ less. last_before (for_each n f) _ (grind arith)
      ∙ last_of_each n i f e less h (λ j m. others j (omega arith)))
      (here_or_before i n l)

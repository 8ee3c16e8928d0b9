-- The newest rules of cells that have all indices but the last in common, step by step.
use Rattle.std.proofs.Common.{◌≡◌, ◌∙◌, ℕ, zero, suc, ◌+◌, ◌-◌, ◌*◌, ◌^◌, ◌<◌, ◌≤◌, ◌↔◌, ◌⊎◌, inl, inr, ⊎_elim, Option, Some, None, List}
use Rattle.std.proofs.Common.{[], ◌∷◌, ◌++◌, Contains, length, refl, sym, ap, subst, arith}
use Rattle.polcert_rules.proofs.Common.{Contains-append_left, Contains-append_right, Contains-append_cases, Rule, key_base, AreIndices}
use Rattle.polcert_rules.proofs.Common.{IsNewest, max_option, IsNoted, IsLastPlace}
use Rattle.polcert_rules.specs.Keys.{FitsKey}
use Rattle.polcert_rules.proofs.Keyed.Fitting.{fits_next, fits_here, fits_end, fits_every, fits_only}
use Rattle.polcert_rules.proofs.Indexes.Greatest.{greatest_as, greatest_of, newest_of, greatest_of_two, greatest_itself}
use Rattle.polcert_rules.proofs.Indexes.Newer.{newest_as, newest_of_part, newest_of_two, newest_deeper, is_deeper, IsSpan}

-- ---- the later of two numbers
pub later_none : (x : Option ℕ) → max_option x None ≡ x
later_none x = grind arith

-- as a greatest: this is what it does
pub later_left : (m n : ℕ) → n ≤ m → max_option (Some m) (Some n) ≡ Some m
later_left m n l = grind arith

pub later_right : (m n : ℕ) → m ≤ n → max_option (Some m) (Some n) ≡ Some n
later_right m n l = grind arith

pub later_of_later : (x y z : Option ℕ) → max_option (max_option x y) z ≡ max_option x (max_option y z)
later_of_later x y z = grind arith

-- ---- rule after rule
pub only_one : (r y : Rule) → Contains (r ∷ []) y → r ≡ y
only_one r y h1 = grind arith

newest_skip : (xs : List Rule) (r : Rule) (P : ℕ → Type 0) (x : Option ℕ) → IsNewest xs P x → (P r.key → ⊥) → IsNewest (xs ++ r ∷ []) P x
newest_skip xs r P x n d = newest_of_part _ xs P x (Contains-append_left xs (r ∷ []))
    (λ y c p. ⊎_elim (λ old. old) (λ new. absurd (d (subst (λ z. P z.key) (sym (only_one r y new)) p)))
    (Contains-append_cases xs _ y c)) n

newest_hit : (xs : List Rule) (r : Rule) (P : ℕ → Type 0) (x : Option ℕ) → IsNewest xs P x → P r.key
    → IsNewest (xs ++ r ∷ []) P (max_option x (Some r.number))
newest_hit xs r P x n h =
    newest_of _ P _
    (greatest_as _ _ _
    (λ y e. ⊎_elim (λ old. (Contains-append_left xs _ y old.0, old.1))
    (λ same. subst (λ (z : Rule). Contains (xs ++ r ∷ []) z × P z.key) same (Contains-append_right xs _ r (0, omega arith, refl), h))
    e)
    (λ y f. ⊎_elim (λ old. inl (old, f.1)) (λ new. inr (only_one r y new)) (Contains-append_cases xs _ y f.0))
    (greatest_of_two _ _ x _ (greatest_of xs P x n) (greatest_itself r)))

pub noted_skip : (xs : List Rule) (r : Rule) (P : ℕ → Type 0) (before old new : Option ℕ) → IsNoted xs P before old → (P r.key → ⊥)
    → new ≡ old → IsNoted (xs ++ r ∷ []) P before new
noted_skip xs r P before old new n d e = record { found = _; newest = newest_skip xs r P _ n.newest d; is = e ∙ n.is }

pub noted_hit : (xs : List Rule) (r : Rule) (P : ℕ → Type 0) (before old new : Option ℕ) → IsNoted xs P before old → P r.key
    → new ≡ max_option old (Some r.number) → IsNoted (xs ++ r ∷ []) P before new
noted_hit xs r P before old new n h e = grind (arith, later_of_later, newest_hit)

-- whether two numbers are the same
pub same_or_not : (a b : ℕ) → (a ≡ b) ⊎ (a ≡ b → ⊥)
same_or_not a b = grind arith

-- ---- place after place
pub one_more_index : (m : ℕ) (indices : List ℕ) (z : ℕ) → AreIndices m indices → m ≡ length indices + 1 → z + 2 < key_base
    → AreIndices m (indices ++ z ∷ [])
one_more_index zero [] z a e l = absurd (omega arith)
one_more_index zero (i ∷ indices) z a e l = absurd a
one_more_index (suc m) [] z a e l = (l, tt)
one_more_index (suc m) (i ∷ indices) z a e l = (a.0, one_more_index m _ z a.1 (omega arith) l)

-- the last place: `*`, or the number itself, as the rules from their keys on have it
pub noted_last : (rules following named : List Rule) (low first count i start : ℕ) (here before between after : Option ℕ) → i < count
    → start ≡ low + 2 + first
    → ((r : Rule) → Contains following r ↔ (Contains rules r × (low + 1 ≤ r.key))) → IsNewest following (λ k. k ≡ low + 1) here
    → between ≡ max_option before here
    → IsSpan rules named start count → IsNoted named (λ k. k ≡ start + i) between after
    → IsNoted rules (IsLastPlace low (first + i)) before after
noted_last rules following named low first count i start here before between after l is from h e span n = record {
  found = _;
  newest = newest_as _ _ _ _ (λ k f. ⊎_elim inl (λ only. inr (omega arith)) f) (λ k f. ⊎_elim inl (λ only. inr (omega arith)) f)
      (newest_of_two _ _ _ here _
      (newest_of_part _ _ _ here (λ r c. ((from r).0 c).0) (λ r c f. (from r).1 (c, omega arith)) h)
      (newest_of_part _ _ _ _ (λ r c. ((span r).0 c).0) (λ r c f. (span r).1 (c, omega arith, omega arith))
      n.newest));
  is = n.is ∙ ap (λ x. max_option x n.found) e ∙ later_of_later _ here _;
}

pub noted_end : (rules : List Rule) (low z : ℕ) (here before between after : Option ℕ) → IsNewest rules (λ k. k ≡ low) here
    → between ≡ max_option before here
    → IsNoted rules (IsLastPlace low z) between after → IsNoted rules (FitsKey 1 low (z ∷ [])) before after
noted_end rules low z here before between after h e n = record {
  found = _;
  newest = newest_as _ _ _ _ (λ k f. ⊎_elim (fits_here 1 low k _) (λ g. ⊎_elim (λ i. fits_every 0 low z [] k (fits_here 0 _ k [] i))
      (λ i. fits_only 0 low z [] k (fits_here 0 _ k [] (omega arith))) g) f)
      (λ k f. ⊎_elim inl (λ g. inr (⊎_elim (λ i. inl (fits_end 0 _ k i))
      (λ i. inr (let j = fits_end 0 _ k i in omega arith)) g)) (fits_next 0 low z [] k f))
      (newest_of_two _ _ _ here _ h n.newest);
  is = n.is ∙ ap (λ x. max_option x n.found) e ∙ later_of_later _ here _;
}

pub noted_deeper : (rules evens onlys : List Rule) (m low i : ℕ) (rest : List ℕ) (z step : ℕ) (here before first second after : Option ℕ)
    → AreIndices m (i ∷ rest) → m ≡ length (i ∷ rest) + 1 → z + 2 < key_base → step ≡ key_base ^ (m - 1)
    → IsNewest rules (λ k. k ≡ low) here → first ≡ max_option before here
    → IsSpan rules evens (low + step) step → IsNoted evens (FitsKey (m - 1) (low + step) (rest ++ z ∷ [])) first second
    → IsSpan rules onlys (low + (i + 2) * step) step → IsNoted onlys (FitsKey (m - 1) (low + (i + 2) * step) (rest ++ z ∷ [])) second after
    → IsNoted rules (FitsKey m low (i ∷ (rest ++ z ∷ []))) before after
noted_deeper rules evens onlys m low i rest z step here before first second after a size l is h e spanned n spanned_only o =
    let d = is_deeper m low i _ step (one_more_index m (i ∷ rest) z a size l) is in
    record {
      found = _;
      newest = newest_deeper _ _ _ m low i _ step here _ _ d h spanned n.newest spanned_only o.newest;
      is = o.is ∙ ap (λ x. max_option x o.found) (n.is ∙ ap (λ x. max_option x n.found) e)
          ∙ later_of_later (max_option before here) n.found o.found ∙ later_of_later _ here _;
    }

-- where nothing was noted before, the newest is noted
pub noted_first : (rules : List Rule) (P : ℕ → Type 0) (before after : Option ℕ) → before ≡ None → IsNoted rules P before after
    → IsNewest rules P after
noted_first rules P before after none n = subst (IsNewest rules P) (sym (n.is ∙ ap (λ x. max_option x n.found) none)) n.newest

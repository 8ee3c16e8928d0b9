-- The rules that fit an action and a start state: what is found in the parts is found in all.
use Rattle.std.proofs.Common.{◌≡◌, ◌∙◌, ⊎_elim, ℕ, ◌+◌, ◌*◌, ◌^◌, ◌<◌, ◌≤◌, ◌⊎◌, ◌↔◌, inl, inr, Bool, true, false, Option}
use Rattle.std.proofs.Common.{Some, None, List, [], ◌∷◌, Contains, length, sym, ap, subst, arith, refl}
use Rattle.std.specs.Prelude.{◌==◌, not, is_some}
use Rattle.polcert_cells.proofs.Basics.{true≢false}
use Rattle.polcert_rules.proofs.Common.{nat_tests, Reward, Rule, IsNewest, IsNoted, IsSearchAnswer, max_option, key_base, table_key}
use Rattle.polcert_rules.proofs.Common.{most_places}
use Rattle.polcert_rules.proofs.Common.{AreEndRules, IsEndKey}
use Rattle.polcert_rules.proofs.Common.{AreIndices, RulePart, FittingRules, IsPartOf, AreFitting, HasTwo, HasFront, key_of_two}
use Rattle.polcert_rules.specs.Keys.{FitsKey}
use Rattle.polcert_rules.specs.Steps.RewardSearch.{NamesStart}
use Rattle.polcert_rules.proofs.Keyed.Fitting.{fits_low, fits_high, fits_end, fits_here, fits_next, fits_every, fits_only}
use Rattle.polcert_rules.proofs.Indexes.Newer.{newest_as, newest_of_span, newest_of_two}
use Rattle.polcert_rules.proofs.Indexes.NotedLaws.{later_of_later}

-- ---- keys
-- what fits after two places
abbrev FitsTwo : ℕ → ℕ → List ℕ → ℕ → Type 0
FitsTwo first second rest = FitsKey 2 (key_of_two first second) rest

abbrev FitsParts : ℕ → ℕ → List ℕ → ℕ → Type 0
FitsParts a s rest key =
    (FitsTwo 1 1 rest key ⊎ FitsTwo 1 (s + 2) rest key) ⊎ (FitsTwo (a + 2) 1 rest key ⊎ FitsTwo (a + 2) (s + 2) rest key)

-- what a key that fits the action and the start state may be
abbrev FitsFront : ℕ → ℕ → List ℕ → ℕ → Type 0
FitsFront a s rest key = FitsKey most_places (table_key Reward) (a ∷ []) key ⊎ FitsParts a s rest key

module _ (a s : ℕ) (rest : List ℕ) (key : ℕ) where
  front_of : FitsKey most_places (table_key Reward) (a ∷ s ∷ rest) key → FitsFront a s rest key
  front_of f = ⊎_elim (λ here. inl (fits_here 4 _ key _ here)) (⊎_elim (λ every. ⊎_elim
      (λ here. inl (fits_every 3 _ a [] key (fits_here 3 _ key [] here)))
      (⊎_elim (λ x. inr (inl (inl x))) (λ x. inr (inl (inr x))))
      (fits_next 2 _ s rest key every))
      (λ only. ⊎_elim
      (λ here. inl (fits_only 3 _ a [] key (fits_here 3 _ key [] here)))
      (⊎_elim (λ x. inr (inr (inl x))) (λ x. inr (inr (inr x))))
      (fits_next 2 _ s rest key only)))
      (fits_next 3 _ a _ key f)

  of_whole : FitsKey most_places (table_key Reward) (a ∷ []) key → FitsKey most_places (table_key Reward) (a ∷ s ∷ rest) key
  of_whole f = ⊎_elim (fits_here 4 _ key _) (⊎_elim (λ every. fits_every 3 _ a _ key (fits_here 3 _ key _ (fits_end 3 _ key every)))
      (λ only. fits_only 3 _ a _ key
      (fits_here 3 _ key _
      (fits_end 3 _ key only))))
      (fits_next 3 _ a [] key f)

  of_front : FitsFront a s rest key → FitsKey most_places (table_key Reward) (a ∷ s ∷ rest) key
  of_front f = ⊎_elim of_whole (⊎_elim (λ every. fits_every 3 _ a _ key
      (⊎_elim (fits_every 2 _ s rest key) (fits_only 2 _ s rest key) every))
      (λ only. fits_only 3 _ a _ key
      (⊎_elim (fits_every 2 _ s rest key)
      (fits_only 2 _ s rest key) only))) f

-- ---- keys that tell no end states apart
-- a key that does not name an end state fits the cells of another as it fits the first's
other_end : (low i j z key : ℕ) → (key < low + (i + 2) * key_base) ⊎ (low + (i + 2) * key_base + key_base ≤ key) → z + 2 < key_base
    → FitsKey 2 low (i ∷ z ∷ []) key → FitsKey 2 low (j ∷ z ∷ []) key
other_end low i j z key gap zl fits = ⊎_elim (fits_here 2 low key _) (⊎_elim (fits_every 1 low j _ key)
    (λ only. let from = fits_low 1 _ _ key only in
    let to = fits_high 1 _ _ key (zl, tt) only in
    absurd (⊎_elim (λ l. omega (arith, l, from)) (λ l. omega (arith, l, to)) gap)))
    (fits_next 1 low i _ key fits)

pub end_key : (low e until key : ℕ) → (key < low + (e + 2) * key_base) ⊎ (low + (until + 2) * key_base ≤ key) → IsEndKey low e until key
end_key low e until key gap f z from to zl = (
  other_end low e f z key (⊎_elim (λ l. inl l) (λ l. inr (omega (arith, l, from, to))) gap) zl,
  other_end low f e z key (⊎_elim (λ l. inl (omega (arith, l, from))) (λ l. inr (omega (arith, l, to))) gap) zl,
)

pub end_alone : (low e until key : ℕ) → until ≤ e + 1 → IsEndKey low e until key
end_alone low e until key few f z from to zl =
    let same : e ≡ f = omega (arith, from, to, few) in (
      subst (λ n. FitsKey 2 low (n ∷ z ∷ []) key) same,
      subst (λ n. FitsKey 2 low (n ∷ z ∷ []) key) (sym same),
    )

-- ---- answers
some_whole : (rules : List Rule) (P : ℕ → Type 0) (whole : Option ℕ) → IsNewest rules P whole → true ≡ is_some whole
    → (r : Rule) × Contains rules r × P r.key
some_whole rules P None n some = absurd (true≢false refl some)
some_whole rules P (Some k) n some = (n.0.rule, n.0.among, n.0.passes)

pub none_whole : (rules : List Rule) (P : ℕ → Type 0) (whole : Option ℕ) → IsNewest rules P whole → false ≡ is_some whole
    → (r : Rule) → Contains rules r → P r.key → ⊥
none_whole rules P None n none = n
none_whole rules P (Some k) n none = absurd (true≢false none refl)

module _ (rules : List Rule) (first second : ℕ) (part : RulePart) (is : IsPartOf rules (key_of_two first second) part) where
  pub some_in : (empty : Bool) → empty ≡ (length part.rules.now == 0) → empty ≡ false
      → (r : Rule) × Contains rules r × HasTwo first second r.key
  some_in empty size full = at part.rules.now (λ r. (is.kept r).0) (sym size ∙ full)
    where
      at : (rs : List Rule) → ((r : Rule) → Contains rs r
          → Contains rules r × (key_of_two first second ≤ r.key) × (r.key < key_of_two first second + key_base ^ 2))
          → (length rs == 0) ≡ false → (r : Rule) × Contains rules r × HasTwo first second r.key
      at [] within full = absurd (true≢false refl full)
      at (x ∷ xs) within full = let k = within x (0, omega arith, refl) in (x, k.0, (k.1, k.2))

  pub none_in : (empty : Bool) → empty ≡ (length part.rules.now == 0) → empty ≡ true
      → (r : Rule) → Contains rules r → HasTwo first second r.key → ⊥
  none_in empty size none r among two = at part.rules.now ((is.kept r).1 (among, two.0, two.1)) (sym size ∙ none)
    where
      at : (rs : List Rule) → Contains rs r → (length rs == 0) ≡ true → ⊥
      at [] c none = omega (arith, c.1)
      at (x ∷ xs) c none = grind (arith, nat_tests, true≢false)

-- ---- the parts have all
module _ (rules : List Rule) (a s : ℕ) (x : FittingRules) (is : AreFitting rules a s x) where
  part_newest : (low : ℕ) (part : RulePart) (rest : List ℕ) (n : Option ℕ) → IsPartOf rules low part → AreIndices 2 rest
      → IsNewest part.rules.now (FitsKey 2 part.low rest) n → IsNewest rules (FitsKey 2 low rest) n
  part_newest low part rest n p small found = newest_of_span _ _ 2 low rest n small p.kept
      (subst (λ l. IsNewest part.rules.now (FitsKey 2 l rest) n) p.low_is found)

  pub newest_of_parts : (rest : List ℕ) (n p q t : Option ℕ) → AreIndices 2 rest
      → IsNewest x.of_all.rules.now (FitsKey 2 x.of_all.low rest) n → IsNewest x.of_state.rules.now (FitsKey 2 x.of_state.low rest) p
      → IsNewest x.of_action.rules.now (FitsKey 2 x.of_action.low rest) q → IsNewest x.of_row.rules.now (FitsKey 2 x.of_row.low rest) t
      → IsNewest rules (FitsKey most_places (table_key Reward) (a ∷ s ∷ rest))
      (max_option x.whole (max_option (max_option n p) (max_option q t)))
  newest_of_parts rest n p q t small of_all of_state of_action of_row =
      let every = newest_of_two _ _ _ n p
      (part_newest _ _ rest n is.of_all small of_all)
      (part_newest _ _ rest p is.of_state small of_state) in
      let only = newest_of_two _ _ _ q t
      (part_newest _ _ rest q is.of_action small of_action)
      (part_newest _ _ rest t is.of_row small of_row) in
      newest_as _ _ _ _
      (of_front a s rest) (front_of a s rest)
      (newest_of_two _ _ _ _
      _ is.whole
      (newest_of_two _ _
      _ _ _ every only))

  pub noted_of_parts : (rest : List ℕ) (before u v w y after : Option ℕ) → AreIndices 2 rest → u ≡ max_option before x.whole
      → IsNoted x.of_all.rules.now (FitsKey 2 x.of_all.low rest) u v → IsNoted x.of_state.rules.now (FitsKey 2 x.of_state.low rest) v w
      → IsNoted x.of_action.rules.now (FitsKey 2 x.of_action.low rest) w y
      → IsNoted x.of_row.rules.now (FitsKey 2 x.of_row.low rest) y after
      → IsNoted rules (FitsKey most_places (table_key Reward) (a ∷ s ∷ rest)) before after
  noted_of_parts rest before u v w y after small e of_all of_state of_action of_row = record {
    found = _;
    newest = newest_of_parts rest of_all.found of_state.found of_action.found of_row.found small of_all.newest of_state.newest
        of_action.newest of_row.newest;
    is = of_row.is ∙ ap (λ k. max_option k of_row.found) (of_action.is ∙ ap (λ k. max_option k of_action.found)
        (of_state.is ∙ ap (λ k. max_option k of_state.found) (of_all.is ∙ ap (λ k. max_option k of_all.found) e)))
        ∙ in_turn before x.whole of_all.found of_state.found of_action.found of_row.found;
  }
    where
      in_turn : (b m n p q t : Option ℕ) → max_option (max_option (max_option (max_option (max_option b m) n) p) q) t
          ≡ max_option b (max_option m (max_option (max_option n p) (max_option q t)))
      in_turn b m n p q t =
          later_of_later _ q t
          ∙ later_of_later _ p _
          ∙ later_of_later _ n _
          ∙ later_of_later b m _
          ∙ ap (λ k. max_option b (max_option m k)) (sym (later_of_later n p _))

  -- ---- the rules tell no end states apart
  end_part : (low e until n : ℕ) (part : RulePart) (r : Rule) (f z : ℕ) → IsPartOf rules low part
      → ((q : Rule) → Contains part.rules.now q → IsEndKey part.low e n q.key) → until ≤ n → Contains rules r → e + 2 < key_base → e ≤ f
      → f < until → f + 2 < key_base → z + 2 < key_base → FitsKey 2 low (e ∷ z ∷ []) r.key ↔ FitsKey 2 low (f ∷ z ∷ []) r.key
  end_part low e until n part r f z p ends few among el from to fl zl = (
    (λ g. (at (inside e el g)).0 g),
    (λ g. (at (inside f fl g)).1 g),
  )
    where
      inside : (i : ℕ) → i + 2 < key_base → FitsKey 2 low (i ∷ z ∷ []) r.key → Contains part.rules.now r
      inside i il g = (p.kept r).1 (
        among,
        fits_low 2 low (i ∷ z ∷ []) r.key g,
        fits_high 2 low (i ∷ z ∷ []) r.key (il, (zl, tt)) g,
      )

      at : Contains part.rules.now r → FitsKey 2 low (e ∷ z ∷ []) r.key ↔ FitsKey 2 low (f ∷ z ∷ []) r.key
      at c = subst (λ l. FitsKey 2 l (e ∷ z ∷ []) r.key ↔ FitsKey 2 l (f ∷ z ∷ []) r.key) p.low_is
          (ends r c f z from (omega (arith, to, few)) zl)

  abbrev AreEndParts : ℕ → ℕ → RulePart → Type 0
  AreEndParts e until part = (q : Rule) → Contains part.rules.now q → IsEndKey part.low e until q.key

  pub ends_of_parts : (e until n p q t : ℕ) → until ≤ n → until ≤ p → until ≤ q → until ≤ t → AreEndParts e n x.of_all
      → AreEndParts e p x.of_state → AreEndParts e q x.of_action → AreEndParts e t x.of_row → AreEndRules rules a s e until
  ends_of_parts e until n p q t ln lp lq lt of_all of_state of_action of_row r among f z el from to fl zl =
      let all = end_part _ e _ n x.of_all r f z is.of_all of_all ln among el from to fl zl in
      let state = end_part _ e _ p x.of_state r f z is.of_state of_state lp among el from to fl zl in
      let action = end_part _ e _ q x.of_action r f z is.of_action of_action lq among el from to fl zl in
      let row = end_part _ e _ t x.of_row r f z is.of_row of_row lt among el from to fl zl in (
        (λ g. of_front a s _ _ (⊎_elim inl (⊎_elim (⊎_elim (λ h. inr (inl (inl (all.0 h)))) (λ h. inr (inl (inr (state.0 h)))))
            (⊎_elim (λ h. inr (inr (inl (action.0 h)))) (λ h. inr (inr (inr (row.0 h)))))) (front_of a s _ _ g))),
        (λ g. of_front a s _ _ (⊎_elim inl (⊎_elim (⊎_elim (λ h. inr (inl (inl (all.1 h)))) (λ h. inr (inl (inr (state.1 h)))))
            (⊎_elim (λ h. inr (inr (inl (action.1 h)))) (λ h. inr (inr (inr (row.1 h)))))) (front_of a s _ _ g))),
      )

  -- ---- no rule has no place for the start state, or names it
  pub starts_unnamed : false ≡ is_some x.whole → (b c : Bool) → b ≡ (length x.of_state.rules.now == 0) → b ≡ true
      → c ≡ (length x.of_row.rules.now == 0) → c ≡ true → (r : Rule) → Contains rules r → NamesStart a s r.key → ⊥
  starts_unnamed none b c of_state no_state of_row no_row r among = ⊎_elim (λ here. unfit (fits_here 4 _ _ _ here)) (⊎_elim
      (⊎_elim (λ here. unfit (fits_every 3 _ a [] r.key (fits_here 3 _ _ [] here)))
      (none_in _ 1 _ _ is.of_state b of_state no_state r among))
      (⊎_elim (λ here. unfit (fits_only 3 _ a [] r.key
      (fits_here 3 _ _ [] here)))
      (none_in _ _ _ _ is.of_row c of_row no_row r among)))
    where
      unfit : FitsKey most_places (table_key Reward) (a ∷ []) r.key → ⊥
      unfit f = none_whole _ _ _ is.whole none r among f

  -- ---- whether there are any
  pub some_fits : true ≡ is_some x.whole → IsSearchAnswer rules (HasFront a s) true
  some_fits some =
      let found = some_whole _ _ _ is.whole some in
      (found.0, found.1, inl found.2)

  pub last_fits : false ≡ is_some x.whole → (b c d e : Bool) → b ≡ (length x.of_all.rules.now == 0) → b ≡ true
      → c ≡ (length x.of_state.rules.now == 0) → c ≡ true → d ≡ (length x.of_action.rules.now == 0) → d ≡ true
      → e ≡ (length x.of_row.rules.now == 0) → IsSearchAnswer rules (HasFront a s) (not e)
  last_fits none b c d true of_all no_all of_state no_state of_action no_action of_row = λ r among. ⊎_elim
      (none_whole _ _ _ is.whole none r among)
      (⊎_elim
      (⊎_elim (none_in _ 1 1 _ is.of_all b of_all no_all r among)
      (none_in _ 1 _ _ is.of_state c of_state no_state r among))
      (⊎_elim (none_in _ _ 1 _ is.of_action d of_action no_action r among)
      (none_in _ _ _ _ is.of_row true of_row refl r among)))
  last_fits none b c d false of_all no_all of_state no_state of_action no_action of_row =
      let found = some_in _ _ _ _ is.of_row false of_row refl in
      (found.0, found.1, inr (inr (inr found.2)))

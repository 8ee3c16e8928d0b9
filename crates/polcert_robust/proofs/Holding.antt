-- The weights above 0 of a row, gathered in a list, and the worst row that the list shows.
use Rattle.std.proofs.Common.{◌≡◌, ℕ, suc, ◌+◌, ◌-◌, ◌<◌, ◌≤◌, ◌==◌, if◌then◌else◌, ◌⊎◌, inl, inr, ⊎_elim, ℤ, pos, ◌+ℤ◌, ◌*ℤ◌, ◌≤ℤ◌, List}
use Rattle.std.proofs.Common.{length, set, unsigned_abs, refl, sym, ap, subst, ◌∙◌, arith}
use Rattle.std.proofs.lemmas.Bool.{cases_lt, cases_eq}
use Rattle.std.proofs.lemmas.Grind.{get_or-set_at}
use Rattle.std.proofs.lemmas.List.{get_or-set_other}
use Rattle.std.proofs.lemmas.Int.{by_lt_z}
use Rattle.std.proofs.Math.IntN.{zero-*ℤ}
use Rattle.polcert_cells.specs.Meaning.{sum_below}
use Rattle.polcert_check.specs.Horizon.{total_below}
use Rattle.polcert_check.proofs.Sums.Gaps.{gap}
use Rattle.polcert_check.proofs.Sums.Ring.{linear, ≤ℤ_from_eq}
use Rattle.polcert_check.proofs.Sums.SumLaws.{sum_below_same}
use Rattle.polcert_robust.specs.Steps.Holding.{HoldsRow, IsWorstMean}
use Rattle.polcert_robust.specs.Steps.Rows.{AreLevels, IsLevelMean, end_until, ends_until, listed_value, listed_weight}
use Rattle.polcert_robust.proofs.Levels.{end_above, end_at_most, level_mean_is, level_row_is_worst}
use Rattle.polcert_robust.proofs.Means.{total_pos}
use Rattle.polcert_robust.proofs.Refuting.{at_same, at_other}
use Rattle.polcert_robust.specs.declared.distance.Spread.{Spread}

-- ---- gathering
pub holds_none : (P : ℕ → ℤ → Type 0) (f : ℕ → ℕ) (bound : ℕ) (weights : List ℕ) (values : List ℤ) → HoldsRow P f 0 bound weights values 0
holds_none P f bound weights values = record {
  x = λ j. pos 0;
  each = λ j l some. absurd (omega arith);
  place = λ j l some. absurd (omega arith);
  sums = λ g none. refl;
  few = omega arith;
  small = λ k l. absurd (omega arith);
}

value_here : (vs : List ℤ) (k : ℕ) (v : ℤ) → k < length vs → listed_value (set vs k v) k ≡ v
value_here vs k v room = get_or-set_at vs k k v _ refl room

value_other : (vs : List ℤ) (k j : ℕ) (v : ℤ) → (j ≡ k → ⊥) → listed_value (set vs k v) j ≡ listed_value vs j
value_other vs k j v other = get_or-set_other vs k j v _ other

two_same : (g : ℕ → ℤ → ℤ) (a b : ℕ) (x y : ℤ) → a ≡ b → x ≡ y → g a x ≡ g b y
two_same g a b x y e d = rw (e, d) refl

-- one value changed
abbrev pub updated : ℕ → ℤ → (ℕ → ℤ) → ℕ → ℤ
updated z v x j = if j == z then v else x j

module _ (P : ℕ → ℤ → Type 0) (f : ℕ → ℕ) (from bound : ℕ) (weights : List ℕ) (values : List ℤ) (count : ℕ)
    (held : HoldsRow P f from bound weights values count) where
  -- up to a later column, before which there is no weight
  pub holds_on : (z : ℕ) → from ≤ z → ((k : ℕ) → from ≤ k → k < z → f k ≡ 0) → HoldsRow P f z bound weights values count
  holds_on z l none = record {
    x = _;
    each = λ j jl some. ⊎_elim (λ (h : j < from). held.each j h some) (λ (h : from ≤ j). absurd (omega arith)) (cases_lt j from);
    place = λ j jl some. ⊎_elim (λ (h : j < from). held.place j h some) (λ (h : from ≤ j). absurd (omega arith)) (cases_lt j from);
    sums = λ g nothing. held.sums g nothing ∙ sym (gap _ from z l (λ k a b. two_same g (f k) 0 _ _ (none k a b) refl ∙ nothing _));
    few = omega arith;
    small = held.small;
  }

  -- one weight more
  pub holds_more : (z w : ℕ) (v : ℤ) → from ≤ z → ((k : ℕ) → from ≤ k → k < z → f k ≡ 0) → w ≡ f z → P z v → unsigned_abs v ≤ bound
      → count < length weights → count < length values
      → HoldsRow P f (z + 1) bound (set weights count w) (set values count v) (count + 1)
  unfolding holds_on
  holds_more z w v l none is here small room more_room = record {
    x = _;
    each = λ j jl some. ⊎_elim (λ (h : j ≡ z). subst (P j) (sym (at_same j z v _ h)) (rw h here))
        (λ (h : j ≡ z → ⊥). subst (P j) (sym (at_other j z v _ h)) (before.each j (below j jl h) some))
        (cases_eq j z);
    place = λ j jl some. ⊎_elim (λ (h : j ≡ z). (count, omega arith, value_here _ count v more_room ∙ sym (at_same j z v _ h)))
        (λ (h : j ≡ z → ⊥). at_place j h (before.place j (below j jl h) some))
        (cases_eq j z);
    sums = λ g nothing. rw (add_one count, add_one z) (two_sums g nothing);
    few = omega arith;
    small = λ k kl. ⊎_elim (λ (h : k ≡ count). rw (h, value_here _ count v more_room) small)
        (λ (h : k ≡ count → ⊥). rw (value_other _ count k v h) (held.small k (below_count k kl h)))
        (cases_eq k count);
  }
    where
      before : HoldsRow P f z bound weights values count
      before = holds_on z l none

      add_one : (k : ℕ) → k + 1 ≡ suc k
      add_one k = omega arith

      below : (j : ℕ) → j < z + 1 → (j ≡ z → ⊥) → j < z
      below j jl ne = ⊎_elim (λ (h : j < z). h) (omega arith) (cases_lt j z)

      below_count : (j : ℕ) → j < count + 1 → (j ≡ count → ⊥) → j < count
      below_count j jl ne = ⊎_elim (λ (h : j < count). h) (omega arith) (cases_lt j count)

      at_place : (j : ℕ) → (j ≡ z → ⊥) → (k : ℕ) × (k < count) × (listed_value values k ≡ held.x j) → (k : ℕ) × (k < count + 1)
          × (listed_value (set values count v) k ≡ updated z v held.x j)
      at_place j ne (k, kl, e) = (
        k,
        omega arith,
        value_other _ count k v (λ (same : k ≡ count). omega arith) ∙ e ∙ sym (at_other j z v _ ne),
      )

      two_sums : (g : ℕ → ℤ → ℤ) → ((u : ℤ) → g 0 u ≡ pos 0)
          → total_below (λ k. g (listed_weight (set weights count w) k) (listed_value (set values count v) k)) (suc count)
          ≡ total_below (λ j. g (f j) (updated z v held.x j)) (suc z)
      two_sums g nothing =
          ap (λ (s : ℤ). s +ℤ g (listed_weight (set weights count w) count) (listed_value (set values count v) count))
          (sum_below_same _
          _ count
          (λ k kl. two_same g _ _ _ _ (get_or-set_other weights count k w 0 (λ (same : k ≡ count). omega (arith, same, kl)))
          (value_other _ count k v (λ (same : k ≡ count). omega arith)))
          ∙ before.sums g nothing
          ∙ sum_below_same _ _ z
          (λ j jl. two_same g (f j) (f j) _ _ refl
          (sym (at_other j z v _ (λ (same : j ≡ z). omega arith)))))
          ∙ ap (λ (s : ℤ). total_below (λ j. g (f j) (updated z v held.x j)) z +ℤ s)
          (two_same g _ _ _ _ (get_or-set_at weights count count w 0 refl room ∙ is)
          (value_here _ count v more_room ∙ sym (at_same z z v _ refl)))

-- ---- the worst row
end_of_none : (by : Spread) (level v : ℤ) → end_until by level 0 v ≡ 0
end_of_none by level v =
    by_lt_z level v
    (λ l. end_above by level 0 v l ∙ none _)
    (end_at_most by level 0 v)
  where
    none : (k : ℕ) → 0 - k ≡ 0
    none k = omega arith

same_pos : (a b : ℕ) → pos a ≡ pos b → a ≡ b
same_pos a b e = omega (arith, linear, e)

module _ (P : ℕ → ℤ → Type 0) (f : ℕ → ℕ) (n bound : ℕ) (weights : List ℕ) (values : List ℤ) (count : ℕ)
    (held : HoldsRow P f n bound weights values count) where
  -- with a value that no level splits where the weight is 0
  abbrev leveled : ℤ → ℕ → ℤ
  leveled high j = if f j == 0 then high else held.x j

  leveled_some : (high : ℤ) (j : ℕ) → 0 < f j → leveled high j ≡ held.x j
  leveled_some high j some = at_other (f j) 0 high _ (λ (none : f j ≡ 0). omega arith)

  none_or_some : (j : ℕ) → (f j ≡ 0) ⊎ (0 < f j)
  none_or_some j = ⊎_elim (λ (h : 0 < f j). inr h) (λ (h : f j ≤ 0). inl (omega arith)) (cases_lt 0 (f j))

  sums_leveled : (high : ℤ) (g : ℕ → ℤ → ℤ) → ((v : ℤ) → g 0 v ≡ pos 0)
      → total_below (λ k. g (listed_weight weights k) (listed_value values k)) count ≡ total_below (λ j. g (f j) (leveled high j)) n
  sums_leveled high g nothing =
      held.sums g nothing
      ∙ sum_below_same _ _ n (λ j jl. ⊎_elim
      (λ (none : f j ≡ 0). cc (two_same g (f j) 0 _ _ none refl, nothing _))
      (λ (some : 0 < f j). two_same g (f j) (f j) _ _ refl (sym (leveled_some high j some)))
      (none_or_some j))

  ends_same : (by : Spread) (high level : ℤ) → sum_below (ends_until by level (listed_weight weights) (listed_value values)) count
      ≡ sum_below (ends_until by level f (leveled high)) n
  ends_same by high level =
      same_pos _ _ (sym (total_pos _ count)
      ∙ sums_leveled high (λ w v. pos (end_until by level w v)) (λ v. ap pos (end_of_none by level v))
      ∙ total_pos _ n)

  levels_same : (by : Spread) (scale : ℕ) (low high : ℤ) → AreLevels by scale count (listed_weight weights) (listed_value values) low high
      → AreLevels by scale n f (leveled high) low high
  levels_same by scale low high are = record {
    order = are.order;
    from = rw (← ends_same by high low) are.from;
    to = rw (← ends_same by high high) are.to;
    between = λ j jl. ⊎_elim (λ (none : f j ≡ 0). inr (≤ℤ_from_eq high _ (cc)))
        (λ (some : 0 < f j). rw (leveled_some high j some) (found (held.place j jl some)))
        (none_or_some j);
  }
    where
      found : {v : ℤ} → (k : ℕ) × (k < count) × (listed_value values k ≡ v) → (v ≤ℤ low) ⊎ (high ≤ℤ v)
      found (k, kl, e) = rw (← e) (are.between k kl)

  pub worst_mean_of : (by : Spread) (scale : ℕ) (value : ℤ) → IsLevelMean by scale count (listed_weight weights) (listed_value values) value
      → IsWorstMean P f by scale n value
  worst_mean_of by scale value at =
      let are = levels_same by scale _ _ at.levels in
      record {
        x = _;
        each = λ j jl some. subst (P j) (sym (leveled_some _ j some)) (held.each j jl some);
        row = _;
        worst = level_row_is_worst by scale n f _ _ _ are;
        is = at.is ∙ cc (
          sums_leveled at.high (λ w v. pos (end_until by at.low w v) *ℤ v) (λ v. cc (end_of_none by at.low v, zero-*ℤ v)),
          ends_same by at.high at.low,
        ) ∙ level_mean_is by scale n f _ _ _ are;
      }

  -- the weights sum to the scale
  pub held_sum : (scale : ℕ) → sum_below f n ≡ scale → sum_below (listed_weight weights) count ≡ scale
  held_sum scale sums = same_pos _ _ (sym (total_pos _ count) ∙ held.sums (λ w v. pos w) (λ v. refl) ∙ total_pos f n) ∙ sums

-- The least mean at an end state, without the rewards and with them.
use Rattle.std.proofs.Common.{◌≡◌, ◌∙◌, ℕ, ◌+◌, ◌*◌, ◌^◌, ◌<◌, ◌≤◌, ◌⊎◌, inl, inr, ⊎_elim, ℤ, pos, ◌+ℤ◌, ◌-ℤ◌, ◌*ℤ◌, Option, Some, None}
use Rattle.std.proofs.Common.{unsigned_abs}
use Rattle.std.proofs.Common.{Bool, true, false, is_some, refl, sym, ap, subst, arith}
use Rattle.std.proofs.lemmas.Bool.{cases_lt, cases_eq}
use Rattle.std.proofs.lemmas.Int.{ints}
use Rattle.polcert_text.specs.Numbers.{largest}
use Rattle.polcert_cells.specs.Tables.{CellTable, IsWithinLimits}
use Rattle.polcert_policy.specs.Graphs.{IsProperGraph, PolicyGraph, nodes}
use Rattle.polcert_policy.specs.Vectors.{AreProperVectors, PolicyVectors}
use Rattle.polcert_check.specs.Horizon.{Controller, Fits, controller_of, one}
use Rattle.polcert_check.specs.Shortfall.{at_node}
use Rattle.polcert_check.specs.Steps.Factored.{IsLeastOf, Misses}
use Rattle.polcert_check.specs.Steps.Ranges.{IsClosed, ValuesAreWithin}
use Rattle.polcert_check.proofs.Certificates.{closed_is, values_are_within}
use Rattle.polcert_check.proofs.Sums.Bounds.{abs-*ℤ_le}
use Rattle.polcert_check.proofs.Sums.Ring.{linear}
use Rattle.polcert_robust.specs.Intervals.{IntervalTable, around}
use Rattle.polcert_robust.specs.Worst.{mean, least_step_worth}
use Rattle.polcert_robust.specs.Steps.Pairs.{IsEndMean, most_part, most_worth, sided_table, sided_values}
use Rattle.polcert_robust.specs.Steps.EndMeans.{AreKept, AreReady, IsChangedAt, IsNotedAt, IsReadyAt, IsReadyMean}
use Rattle.polcert_robust.specs.Steps.EndMeans.{IsSharedReward, reward_part}
use Rattle.polcert_robust.specs.Steps.Rewards.{HasSameRewards}
use Rattle.polcert_robust.specs.Steps.Sides.{least_end, turned}
use Rattle.polcert_robust.specs.declared.distance.Spread.{Spread}
use Rattle.polcert_robust.specs.declared.end_means.EndMean.{EndMean}
use Rattle.polcert_robust.specs.declared.end_means.EndMeans.{EndMeans}
use Rattle.polcert_robust.specs.declared.side.Side.{Side}
use Rattle.polcert_robust.specs.declared.side.Side.TheVariants.{Below, Above}
use Rattle.polcert_robust.proofs.Backings.{high_none, mean_for, worst_for}
use Rattle.polcert_robust.proofs.Lowered.{AreLowered, lowered_mean, lowered_row, none_or_some}
use Rattle.polcert_robust.proofs.Means.{part_small}
use Rattle.polcert_robust.proofs.Rows.{times_less}
use Rattle.polcert_robust.proofs.Worths.{least_turned, worth_small}

-- ---- other rewards
module _ (side : Side) (c : Controller) (t_by o_by : Spread) (r_by n e : ℕ)
    (complete : IsLeastOf (Misses c n e c.cells.observations) None) where
  abbrev table : IntervalTable
  table = sided_table side (around c.cells t_by o_by r_by)

  -- where no node follows there is no weight
  lowered : (s t : ℕ) (g h : ℤ) → IsSharedReward table c n s e g → IsSharedReward table c n t e h
      → AreLowered (table.o_high (c.action n) e) c.cells.observations (least_step_worth table c n s e) (pos one *ℤ g -ℤ pos one *ℤ h)
      (least_step_worth table c n t e)
  lowered s t g h here there z zl =
      none_or_some
      (λ at. c.next n z ≡ at
      → (at_node (λ k. pos one *ℤ table.r_low (c.action n) t e z +ℤ pos c.cells.discount *ℤ c.value k e) at
      ≡ at_node (λ k. pos one *ℤ table.r_low (c.action n) s e z +ℤ pos c.cells.discount *ℤ c.value k e) at
      -ℤ (pos one *ℤ g -ℤ pos one *ℤ h)) ⊎ (table.o_high (c.action n) e z ≡ 0))
      _
      (λ none. inr (high_none o_by _ (no_weight none)))
      (λ k is. inl (rw (here z zl, there z zl) (omega (arith, linear))))
      refl
    where
      no_weight : c.next n z ≡ None → c.cells.o (c.action n) e z ≡ 0
      no_weight none = ⊎_elim (λ (some : 0 < c.cells.o _ e z). absurd (complete z (zl, none, some))) (omega arith) (cases_lt 0 _)

  -- the mean that is found from one state, without its reward and with that of another
  pub mean_without : (s : ℕ) (g m : ℤ) → IsSharedReward table c n s e g → IsEndMean table c n s e m
      → (t : ℕ) (h : ℤ) → IsSharedReward table c n t e h → IsEndMean table c n t e ((m -ℤ reward_part table g) +ℤ reward_part table h)
  mean_without s g m here (row, worst, is) t h there = (
    row,
    lowered_row _ _ _ _ _ row worst _ _ (lowered s t g h here there),
    sym (lowered_mean _ _ _ _ _ row worst _ _ (lowered s t g h here there)
        ∙ ap (λ (x : ℤ). x -ℤ pos c.cells.o_scale *ℤ (pos one *ℤ g -ℤ pos one *ℤ h)) (sym is)
        ∙ omega (arith, linear, times_less (pos c.cells.o_scale) (pos one *ℤ g) (pos one *ℤ h))),
  )

-- the same mean from a state with the same rewards
module _ (side : Side) (c : Controller) (t_by o_by : Spread) (r_by n e : ℕ) (el : e < c.cells.states)
    (same : HasSameRewards c.cells (c.action n)) where
  abbrev near : IntervalTable
  near = sided_table side (around c.cells t_by o_by r_by)

  same_worth : (s t : ℕ) → s < c.cells.states → t < c.cells.states → (z : ℕ) → z < c.cells.observations
      → least_step_worth near c n t e z ≡ least_step_worth near c n s e z
  same_worth s t sl tl z zl = simp (same t e z tl el zl, same s e z sl el zl)

  pub mean_from : (s : ℕ) (m : ℤ) → s < c.cells.states → IsEndMean near c n s e m → (t : ℕ) → t < c.cells.states → IsEndMean near c n t e m
  mean_from s m sl (row, worst, is) t tl = (
    row,
    worst_for _ o_by _ _ _ _ row worst (λ z zl _. same_worth s t sl tl z zl),
    is ∙ mean_for _ o_by _ _ _ _ row worst (λ z zl _. same_worth s t sl tl z zl),
  )

-- ---- how large it gets
step_small : (at : Option ℕ) (f : ℕ → ℤ) → ((m : ℕ) → at ≡ Some m → unsigned_abs (f m) ≤ most_worth)
    → unsigned_abs (at_node f at) ≤ most_worth
step_small None f each = omega arith
step_small (Some m) f each = each m refl

turned_small : (side : Side) (x : ℤ) (b : ℕ) → unsigned_abs x ≤ b → unsigned_abs (turned side x) ≤ b
turned_small Below x b small = small
turned_small Above x b small = omega (arith, ints)

least_small : (side : Side) (r : ℤ) (by : ℕ) → unsigned_abs r ≤ largest → by ≤ 1000000000000
    → unsigned_abs (least_end side (r -ℤ pos by) (r +ℤ pos by)) ≤ 11000000000000
least_small Below r by small near = omega (arith, ints, near)
least_small Above r by small near = omega (arith, ints, near)

worth_within : (least value : ℤ) (d : ℕ) → unsigned_abs least ≤ 11000000000000 → d ≤ one → unsigned_abs value ≤ largest
    → unsigned_abs (pos one *ℤ least +ℤ pos d *ℤ value) ≤ most_worth
unfolding one
worth_within least value d small few low = worth_small least value _ _ d small few low refl refl

module _ (side : Side) (c : Controller) (t_by o_by : Spread) (r_by n s e : ℕ) (limits : IsWithinLimits c.cells) (closed : IsClosed c)
    (within : ValuesAreWithin c) (near : r_by ≤ 1000000000000) (nl : n < c.nodes) (sl : s < c.cells.states) (el : e < c.cells.states) where
  step_within : (z : ℕ) → z < c.cells.observations
      → unsigned_abs (least_step_worth (sided_table side (around c.cells t_by o_by r_by)) (sided_values side c) n s e z) ≤ most_worth
  unfolding one
  step_within z zl =
      step_small _
      _
      (λ m is. worth_within (least_end side _ _)
      _ _
      (least_small side _ r_by (limits.r _ s e z (closed.actions_in_range n nl) sl el zl) near)
      limits.discount
      (turned_small side _ _ (within m e (closed.next_in_range n z m nl zl is) el)))

  pub end_mean_small : (m : ℤ) → IsEndMean (sided_table side (around c.cells t_by o_by r_by)) (sided_values side c) n s e m
      → unsigned_abs m ≤ c.cells.o_scale * most_worth
  end_mean_small m (row, worst, is) =
      rw is (subst
      (λ (k : ℕ). unsigned_abs (mean row (least_step_worth (sided_table side (around c.cells t_by o_by r_by)) (sided_values side c) n s e)
      c.cells.observations)
      ≤ k * most_worth)
      worst.sums
      (part_small row _ _
      _ c.cells.observations step_within (omega arith)))

pub near_mean_small : (side : Side) (t : CellTable) (g : PolicyGraph) (v : PolicyVectors) → Fits t g v → IsProperGraph g
    → AreProperVectors v
    → IsWithinLimits t → (t_by o_by : Spread) (r_by n s e : ℕ) → r_by ≤ 1000000000000 → n < nodes g → s < t.states → e < t.states → (m : ℤ)
    → IsEndMean (sided_table side (around t t_by o_by r_by)) (sided_values side (controller_of t g v)) n s e m
    → unsigned_abs m ≤ t.o_scale * most_worth
near_mean_small side t g v fits is_graph are_proper limits t_by o_by r_by n s e near nl sl el m =
    end_mean_small side _ t_by o_by r_by n s e limits (closed_is t g v fits is_graph)
    (values_are_within t g v fits are_proper) near nl sl el m

-- ---- the part of a reward
pub shared_of : (side : Side) (r reward : ℤ) (by : ℕ) → r ≡ reward
    → least_end side (r -ℤ pos by) (r +ℤ pos by) ≡ turned side reward -ℤ pos by
shared_of side r reward by e = rw e (sym (least_turned side _ by))

pub difference_fits : (a b : ℤ) (k : ℕ) → k ≤ 10000000000 → unsigned_abs a ≤ k * most_worth → unsigned_abs b ≤ most_part
    → unsigned_abs (a -ℤ b) < 2 ^ 127
difference_fits a b k few h j = omega (arith, ints, h, j)

pub part_is : (k : ℕ) (least earned whole : ℤ) → earned ≡ pos 1000000 *ℤ least → whole ≡ pos k *ℤ earned
    → whole ≡ pos k *ℤ (pos one *ℤ least)
unfolding one
part_is k least earned whole h is = rw (is, h) refl

pub part_within : (k : ℕ) (least earned whole : ℤ) → k ≤ 10000000000 → unsigned_abs least ≤ 11000000000000 → earned ≡ pos 1000000 *ℤ least
    → whole ≡ pos k *ℤ earned → unsigned_abs whole ≤ most_part
part_within k least earned whole few small h is =
    rw is (omega (
      arith,
      abs-*ℤ_le (pos k) earned 10000000000 11000000000000000000 few
          (rw h (abs-*ℤ_le (pos 1000000) least 1000000 11000000000000 (omega arith) small)),
    ))

-- ---- one mean noted
pub both : (b : Bool) → b ≡ true → b ≡ false → ⊥
both b is is_not = grind arith

pub none_of : (o : Option ℕ) → is_some o ≡ false → o ≡ None
none_of None e = refl
none_of (Some x) e = absurd (both true refl e)

pub some_of : (o : Option ℤ) → is_some o ≡ true → (h : ℤ) × (o ≡ Some h)
some_of None e = absurd (both false e refl)
some_of (Some h) e = (h, refl)

module _ (i : IntervalTable) where
  pub ready_here : (c : Controller) (n s e : ℕ) (end : EndMean) (old new : EndMeans) → IsNotedAt e end old new
      → IsReadyMean i c n s e end.mean end.is_kept old.have_rewards → IsReadyAt i c n s e new
  ready_here c n s e end old new noted ready = rw (noted.mean, noted.mark, noted.others.rewards) ready

  -- unless a reward is added to it
  pub ready_mean : (c : Controller) (n s e : ℕ) (mean : ℤ) (is_kept have_rewards : Bool)
      → IsReadyMean i c n s e mean is_kept have_rewards → (have_rewards ≡ false → is_kept ≡ false) → IsEndMean i c n s e mean
  ready_mean c n s e mean is_kept true ready h = ready.full refl
  ready_mean c n s e mean is_kept false ready h = ready.found (h refl)

  pub ready_still : (c : Controller) (n s e j : ℕ) (old new : EndMeans) → IsChangedAt e old new → (j ≡ e → ⊥)
      → IsReadyAt i c n s j old → IsReadyAt i c n s j new
  ready_still c n s e j old new changed ne ready = rw (changed.means j ne, changed.marks j ne, changed.rewards) ready

  pub kept_still : (c : Controller) (n s e : ℕ) (old new : EndMeans) → AreKept i c n old → IsChangedAt e old new
      → IsReadyAt i c n s e new → AreKept i c n new
  kept_still c n s e old new kept changed ready = record {
    same = λ is. kept.same (cc);
    each = λ j jl is. ⊎_elim (λ (h : j ≡ e). rw h (ready.kept (cc)))
        (λ (ne : j ≡ e → ⊥). rw (changed.means j ne, changed.rewards) (kept.each j jl (sym (changed.marks j ne) ∙ is)))
        (cases_eq j e);
  }

  -- no weight lies between two places
  pub ready_more : (c : Controller) (n s from e : ℕ) (old new : EndMeans)
      → ((k : ℕ) → from ≤ k → k < e → c.cells.t (c.action n) s k ≡ 0) → AreReady i c n s from old → IsChangedAt e old new
      → IsReadyAt i c n s e new → AreReady i c n s (e + 1) new
  ready_more c n s from e old new none before changed here j jl some =
      ⊎_elim
      (λ (h : j ≡ e). rw h here)
      (λ (ne : j ≡ e → ⊥). ready_still c n s e j old new changed ne (earlier ne (cases_lt j from)))
      (cases_eq j e)
    where
      below : (j ≡ e → ⊥) → j < e
      below ne = ⊎_elim (λ (h : j < e). h) (omega arith) (cases_lt j e)

      earlier : (j ≡ e → ⊥) → (j < from) ⊎ (from ≤ j) → IsReadyAt i c n s j old
      earlier ne (inl h) = before j h some
      earlier ne (inr h) = absurd (omega arith)

  -- up to a later place, before which there is no weight
  pub ready_on : (c : Controller) (n s from to : ℕ) (ends : EndMeans)
      → ((k : ℕ) → from ≤ k → k < to → c.cells.t (c.action n) s k ≡ 0) → AreReady i c n s from ends → AreReady i c n s to ends
  ready_on c n s from to ends none before j jl some =
      ⊎_elim (λ (h : j < from). before j h some) (λ (h : from ≤ j). absurd (omega arith)) (cases_lt j from)

-- Models that are the same in range have the same models near them.
use Rattle.std.proofs.Common.{◌≡◌, ◌∙◌, ℕ, ◌<◌, ℤ, pos, ◌+ℤ◌, ◌-ℤ◌, ◌*ℤ◌, ◌≤ℤ◌, sym, subst}
use Rattle.polcert_cells.specs.SameCells.{HasSameCells}
use Rattle.polcert_robust.specs.Intervals.{IsBetween, high_of, low_of}
use Rattle.polcert_robust.specs.declared.distance.Spread.{Spread}
use Rattle.polcert_robust_answer.specs.Near.{spread_within}
use Rattle.polcert_robust_answer.proofs.Common.{CellTable, LiesWithin, around, Within, models_near}

between_same : (by : Spread) (v w scale scale' p q : ℕ) → v ≡ w → scale ≡ scale' → IsBetween (low_of by v) (high_of by v) scale p q
    → IsBetween (low_of by w) (high_of by w) scale' p q
between_same by v w scale scale' p q e f h = subst (λ k. IsBetween (low_of by k) (high_of by k) scale' p q) e
    (subst (λ k. IsBetween (low_of by v) (high_of by v) k p q) f h)

reward_same : (parts by : ℕ) (r : ℤ) (v w : ℤ) → v ≡ w → ((pos parts *ℤ (v -ℤ pos by)) ≤ℤ r) × (r ≤ℤ (pos parts *ℤ (v +ℤ pos by)))
    → ((pos parts *ℤ (w -ℤ pos by)) ≤ℤ r) × (r ≤ℤ (pos parts *ℤ (w +ℤ pos by)))
reward_same parts by r v w e h = subst (λ k. ((pos parts *ℤ (k -ℤ pos by)) ≤ℤ r) × (r ≤ℤ (pos parts *ℤ (k +ℤ pos by)))) e h

below_same : (a j k : ℕ) → j ≡ k → a < k → a < j
below_same a j k e l = subst (λ i. a < i) (sym e) l

module _ (x y : CellTable) (same : HasSameCells x y) where
  pub sym_same : HasSameCells y x
  sym_same = record {
    states = sym same.states;
    actions = sym same.actions;
    observations = sym same.observations;
    discount = sym same.discount;
    t_scale = sym same.t_scale;
    o_scale = sym same.o_scale;
    t = λ a s e al sl el. sym (same.t a s e (below_same a x.actions y.actions same.actions al)
        (below_same s x.states y.states same.states sl) (below_same e x.states y.states same.states el));
    o = λ a e z al el zl. sym (same.o a e z (below_same a x.actions y.actions same.actions al)
        (below_same e x.states y.states same.states el) (below_same z x.observations y.observations same.observations zl));
    r = λ a s e z al sl el zl. sym (same.r a s e z (below_same a x.actions y.actions same.actions al)
        (below_same s x.states y.states same.states sl) (below_same e x.states y.states same.states el)
        (below_same z x.observations y.observations same.observations zl));
  }

  module _ (parts : ℕ) (m : CellTable) where
    lies_around_same : (t_by o_by : Spread) (r_by : ℕ) → LiesWithin (around x t_by o_by r_by) parts m
        → LiesWithin (around y t_by o_by r_by) parts m
    lies_around_same t_by o_by r_by lies = record {
      states = lies.states ∙ same.states;
      actions = lies.actions ∙ same.actions;
      observations = lies.observations ∙ same.observations;
      discount = lies.discount ∙ same.discount;
      rows = lies.rows;
      t = λ a s e al sl el.
          let a_in = below_same a x.actions y.actions same.actions al in
          let s_in = below_same s x.states y.states same.states sl in
          let e_in = below_same e x.states y.states same.states el in
          between_same t_by (x.t a s e) (y.t a s e) x.t_scale y.t_scale (m.t a s e) m.t_scale (same.t a s e a_in s_in e_in) same.t_scale
          (lies.t a s e a_in s_in e_in);
      o = λ a e z al el zl.
          let a_in = below_same a x.actions y.actions same.actions al in
          let e_in = below_same e x.states y.states same.states el in
          let z_in = below_same z x.observations y.observations same.observations zl in
          between_same o_by (x.o a e z) (y.o a e z) x.o_scale y.o_scale (m.o a e z) m.o_scale (same.o a e z a_in e_in z_in) same.o_scale
          (lies.o a e z a_in e_in z_in);
      r = λ a s e z al sl el zl.
          let a_in = below_same a x.actions y.actions same.actions al in
          let s_in = below_same s x.states y.states same.states sl in
          let e_in = below_same e x.states y.states same.states el in
          let z_in = below_same z x.observations y.observations same.observations zl in
          reward_same parts r_by (m.r a s e z) (x.r a s e z) (y.r a s e z) (same.r a s e z a_in s_in e_in z_in)
          (lies.r a s e z a_in s_in e_in z_in);
    }

    pub lies_same : (w : Within) → LiesWithin (models_near w x) parts m → LiesWithin (models_near w y) parts m
    lies_same w lies =
        subst (λ k. LiesWithin (around y (spread_within w k) (spread_within w y.observations) w.rewards_by) parts m) same.states
        (subst (λ k. LiesWithin (around y (spread_within w x.states) (spread_within w k) w.rewards_by) parts m) same.observations
        (lies_around_same (spread_within w x.states) (spread_within w x.observations) w.rewards_by lies))

-- A check of every model within intervals has one verdict.
use Rattle.std.proofs.Common.{◌≡◌, ℕ, ◌<◌, ℤ, Some, None, sym, refl, subst, arith}
use Rattle.polcert_check.specs.Horizon.{Controller}
use Rattle.polcert_check.specs.declared.survey.Verdict.{Verdict}
use Rattle.polcert_check.specs.declared.survey.Verdict.TheVariants.{Yes, Short, NoSuccessor}
use Rattle.polcert_check.proofs.Sums.Ring.{linear}
use Rattle.polcert_robust.specs.Intervals.{IntervalTable}
use Rattle.polcert_robust.specs.RobustVerdict.{IsLeastThatMayLack, IsRobustBefore, IsRobustShort, IsRobustVerdict}
use Rattle.polcert_robust.specs.Worst.{PairIsRobust}
use Rattle.polcert_robust.proofs.Backings.{not_robust}
use Rattle.polcert_robust.proofs.OneWorst.{one_worst}

module _ (i : IntervalTable) (c : Controller) (t_some : 0 < i.t_scale) (o_some : 0 < i.o_scale) where
  -- a pair that is not robust, before which all are
  abbrev IsFirst : ℕ → ℕ → Type 0
  IsFirst n s = (n < c.nodes) × (s < i.states) × IsRobustBefore i c n s × (PairIsRobust i c n s → ⊥)

  one_first : (n s m t : ℕ) → IsFirst n s → IsFirst m t → (n ≡ m) × (s ≡ t)
  one_first n s m t h g = grind arith

  one_amount : (n s : ℕ) (a b : ℤ) → IsRobustShort i c n s a → IsRobustShort i c n s b → a ≡ b
  one_amount n s a b h g = omega (arith, linear, g.is, one_worst i c n s t_some o_some h.seen h.ends h.worst g.seen g.ends g.worst)

  one_lack : (n s z y : ℕ) → IsLeastThatMayLack i c n s (Some z) → IsLeastThatMayLack i c n s (Some y) → z ≡ y
  one_lack n s z y h g = grind arith

  short_first : (n s : ℕ) (a : ℤ) → IsRobustVerdict i c (Short n s a) → IsFirst n s
  short_first n s a h = (
    h.0,
    h.1,
    h.2,
    λ p. omega (
      arith,
      linear,
      h.5,
      h.4.is,
      p.not_short,
      one_worst i c n s t_some o_some _ _ h.4.worst _ _ p.worst,
    ),
  )

  lack_first : (n s z : ℕ) → IsRobustVerdict i c (NoSuccessor n s z) → IsFirst n s
  lack_first n s z h = (h.0, h.1, h.2, λ p. p.lacks_none z h.3.0 h.3.1)

  not_both : (n s m t z : ℕ) (a : ℤ) → IsRobustVerdict i c (Short n s a) → IsRobustVerdict i c (NoSuccessor m t z) → ⊥
  not_both n s m t z a h g =
      let same = one_first n s m t (short_first n s a h) (lack_first m t z g) in
      subst (λ k. IsLeastThatMayLack i c m k None) same.1 (rw (← same.0) h.3) z g.3.0 g.3.1

  pub one_verdict : (u v : Verdict) → IsRobustVerdict i c u → IsRobustVerdict i c v → u ≡ v
  one_verdict Yes v h g = sym (not_robust i c v t_some o_some g h)
  one_verdict (Short n s a) Yes h g = not_robust i c _ t_some o_some h g
  one_verdict (NoSuccessor n s z) Yes h g = not_robust i c _ t_some o_some h g
  one_verdict (Short n s a) (NoSuccessor m t z) h g = absurd (not_both n s m t z a h g)
  one_verdict (NoSuccessor m t z) (Short n s a) h g = absurd (not_both n s m t z a g h)
  one_verdict (Short n s a) (Short m t b) h g =
      let same = one_first n s m t (short_first n s a h) (short_first m t b g) in
      let also = subst (λ k. IsRobustShort i c k s b) (sym same.0) (rw same.1 g.4) in
      rw (same.0, same.1, one_amount n s a b h.4 also) refl
  one_verdict (NoSuccessor n s z) (NoSuccessor m t y) h g =
      let same = one_first n s m t (lack_first n s z h) (lack_first m t y g) in
      rw (
        same.0,
        same.1,
        one_lack n s z y h.3 (rw same.0 (rw same.1 g.3)),
      ) refl

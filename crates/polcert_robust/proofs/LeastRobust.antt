-- The greatest robust shortfall, and the least constant that it gives.
use Rattle.std.proofs.Common.{◌≡◌, ℕ, ◌+◌, ◌-◌, ◌*◌, ◌<◌, ◌≤◌, ◌⊎◌, inl, ⊎_elim, ℤ, pos, ◌-ℤ◌, ◌*ℤ◌, ◌<ℤ◌}
use Rattle.std.proofs.Common.{None, ap, subst, arith}
use Rattle.polcert_check.specs.Horizon.{Controller, one}
use Rattle.polcert_check.specs.Lower.{lowered_by}
use Rattle.polcert_check.proofs.Sums.Ring.{linear}
use Rattle.polcert_robust.specs.Intervals.{IntervalTable}
use Rattle.polcert_check.specs.Steps.Findings.{IsLowerRefusal}
use Rattle.polcert_check.specs.declared.fault.LowerFault.{LowerFault}
use Rattle.polcert_check.specs.declared.survey.Verdict.{Verdict}
use Rattle.polcert_check.specs.declared.survey.Verdict.TheVariants.{Yes, Short, NoSuccessor}
use Rattle.polcert_robust.specs.declared.findings.RobustFindings.{RobustFindings}
use Rattle.polcert_robust.specs.RobustLower.{IsLeastRobust, IsNotMendedRobustly, NoneMayLack}
use Rattle.polcert_robust.proofs.Backings.{all_before}
use Rattle.polcert_robust.proofs.Surveying.{measured_if}
use Rattle.polcert_robust.specs.RobustVerdict.{IsLeastThatMayLack, IsRobustShort}
use Rattle.polcert_robust.specs.Worst.{IsRobust, PairIsRobust}
use Rattle.polcert_robust.specs.Steps.Surveys.{IsFirstBefore, IsPairMeasured, IsSurveyedBefore}
use Rattle.polcert_robust.proofs.Lowered.{lowered_step}
use Rattle.polcert_robust.proofs.OneWorst.{one_worst}
use Rattle.polcert_robust.proofs.Rows.{times_less}

-- ---- what a constant takes away from a shortfall
lowered_amount : (t o d by : ℕ) (v b b' amount : ℤ) → d ≤ one → amount ≡ pos (t * o * one) *ℤ v -ℤ b
    → b' ≡ b -ℤ pos t *ℤ (pos o *ℤ (pos d *ℤ pos by))
    → amount -ℤ pos (t * o * (one - d) * by) ≡ pos (t * o * one) *ℤ (v -ℤ pos by) -ℤ b'
lowered_amount t o d by v b b' amount l is is' =
    let e =
    ap (λ (k : ℕ). pos k) (let e : (one - d) + d ≡ one = omega arith in
    subst (λ (k : ℕ). t * o * k * by ≡ t * o * (one - d) * by + t * (o * (d * by))) e (omega arith)) in
    omega (arith, linear, is, e, times_less (pos (t * o * one)) v (pos by))

module _ (i : IntervalTable) (c : Controller) (few : i.discount ≤ one) where
  abbrev pub factor : ℕ
  factor = i.t_scale * i.o_scale * (one - i.discount)

  lowered_short : (n s by : ℕ) (amount : ℤ) → IsLeastThatMayLack i c n s None → IsRobustShort i c n s amount
      → IsRobustShort i (lowered_by c by) n s (amount -ℤ pos (factor * by))
  lowered_short n s by amount lacks short =
      let (seen, worst, is) = lowered_step i c n s by lacks _ _ short.worst in
      record {
        seen = seen;
        ends = _;
        worst = worst;
        is = lowered_amount _ _ _ by _ _ _ _ few short.is is;
      }

  pub robust_lowered : (n s worst by : ℕ) → IsPairMeasured i c n s worst → worst ≤ factor * by → PairIsRobust i (lowered_by c by) n s
  robust_lowered n s worst by m l =
      let low = lowered_short n s by _ m.lacks m.short in
      record {
        lacks_none = m.lacks;
        seen = _;
        ends = _;
        worst = low.worst;
        not_short = omega (arith, linear, m.most, l);
      }

  pub short_lowered : 0 < i.t_scale → 0 < i.o_scale → (n s d : ℕ) (amount : ℤ) → IsLeastThatMayLack i c n s None
      → IsRobustShort i c n s amount → pos (factor * d) <ℤ amount → PairIsRobust i (lowered_by c d) n s → ⊥
  short_lowered t_some o_some n s d amount lacks short more pair =
      let low = lowered_short n s d _ lacks short in
      absurd (omega (
        arith,
        linear,
        more,
        low.is,
        pair.not_short,
        one_worst i _ n s t_some o_some _ _ low.worst _ _ pair.worst,
      ))

  pub least_robust : 0 < i.t_scale → 0 < i.o_scale → (worst by : ℕ)
      → ((n s : ℕ) → n < c.nodes → s < i.states → IsPairMeasured i c n s worst)
      → (worst ≡ 0) ⊎ ((n : ℕ) × (s : ℕ) × (n < c.nodes) × (s < i.states) × IsRobustShort i c n s (pos worst))
      → worst ≤ factor * by → ((d : ℕ) → d < by → factor * d < worst) → IsLeastRobust i c by
  least_robust t_some o_some worst by measured is_reached enough less = (
    (λ n s nl sl. robust_lowered n s worst by (measured n s nl sl) enough),
    (λ d dl robust. ⊎_elim (λ (none : worst ≡ 0). absurd (omega (arith, less d dl)))
        (λ (at : (n : ℕ) × (s : ℕ) × (n < c.nodes) × (s < i.states) × IsRobustShort i c n s _). fails d dl at robust)
        is_reached),
  )
    where
      fails : (d : ℕ) → d < by → (n : ℕ) × (s : ℕ) × (n < c.nodes) × (s < i.states) × IsRobustShort i c n s (pos worst)
          → IsRobust i (lowered_by c d) → ⊥
      fails d dl (n, s, nl, sl, short) robust = short_lowered t_some o_some n s d _ (measured n s nl sl).lacks short
          (omega (arith, linear)) (robust n s nl sl)

-- ---- with a discount of one
no_factor : (t o d by : ℕ) → one ≤ d → t * o * (one - d) * by ≡ 0
no_factor t o d by l = let e : one - d ≡ 0 = omega arith in rw e (none _ by)
  where
    none : (k b : ℕ) → k * 0 * b ≡ 0
    none k b = omega arith

module _ (i : IntervalTable) (c : Controller) (few : i.discount ≤ one) where
  pub least_zero : IsRobust i c → ((n s : ℕ) → n < c.nodes → s < i.states → IsPairMeasured i c n s 0) → IsLeastRobust i c 0
  least_zero robust measured = (
    (λ n s nl sl. robust_lowered i c few n s 0 0 (measured n s nl sl) (omega arith)),
    (λ d dl h. absurd (omega arith)),
  )

  pub no_constant : 0 < i.t_scale → 0 < i.o_scale → one ≤ i.discount → (n s : ℕ) (amount : ℤ) → n < c.nodes → s < i.states
      → IsLeastThatMayLack i c n s None → IsRobustShort i c n s amount → pos 0 <ℤ amount → (by : ℕ) → IsRobust i (lowered_by c by) → ⊥
  no_constant t_some o_some all n s amount nl sl lacks short some by robust =
      short_lowered i c few t_some o_some n s by _ lacks short (rw (no_factor _ _ _ by all) some)
      (robust n s nl sl)

  -- ---- what is said of a survey
  pub none_lacks : (f : RobustFindings) → IsSurveyedBefore i c c.nodes 0 f → NoneMayLack i c
  none_lacks f is n s nl sl = (is.measured n s nl sl (inl nl)).lacks

  pub refused_robustly : 0 < i.t_scale → 0 < i.o_scale → one ≤ i.discount → (f : RobustFindings) → IsSurveyedBefore i c c.nodes 0 f
      → (fault : LowerFault) → IsLowerRefusal f.first fault → (Can : ℕ → Type 0) → IsNotMendedRobustly i c Can fault
  refused_robustly t_some o_some all f is fault refused Can = go _ is.first refused
    where
      go : (v : Verdict) → IsFirstBefore i c c.nodes 0 v → IsLowerRefusal v fault → IsNotMendedRobustly i c Can fault
      go Yes first e = absurd e
      go (Short n s amount) (nl, sl, short, some, before) e =
          rw e (
            none_lacks f is,
            no_constant t_some o_some all n s _ nl sl (none_lacks f is n s nl sl) short some,
            (nl, sl, short, some, before),
          )
      go (NoSuccessor n s z) first e = absurd first

  pub zero_robustly : (f : RobustFindings) → IsSurveyedBefore i c c.nodes 0 f → f.first ≡ Yes → IsLeastRobust i c 0
  zero_robustly f is is_yes =
      let robust = all_before i c _ (omega arith) (subst (IsFirstBefore i c _ 0) is_yes is.first) in
      least_zero robust (λ n s nl sl. measured_if i c n s 0 (robust n s nl sl))

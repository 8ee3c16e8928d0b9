-- What a walk over all pairs has found, with one pair more.
use Rattle.std.proofs.Common.{◌≡◌, ℕ, ◌+◌, ◌<◌, ◌≤◌, ◌⊎◌, inl, inr, ⊎_elim, ℤ, pos, ◌<ℤ◌, unsigned_abs}
use Rattle.std.proofs.Common.{refl, sym, subst, arith}
use Rattle.std.proofs.lemmas.Int.{ints}
use Rattle.polcert_check.specs.Horizon.{Controller}
use Rattle.polcert_check.specs.Verdict.{IsBefore}
use Rattle.polcert_check.specs.declared.fault.LowerFault.{LowerFault}
use Rattle.polcert_check.specs.declared.survey.Verdict.{Verdict}
use Rattle.polcert_check.specs.declared.survey.Verdict.TheVariants.{Yes, Short, NoSuccessor}
use Rattle.polcert_check.proofs.Sums.Ring.{linear}
use Rattle.polcert_robust.specs.Intervals.{IntervalTable}
use Rattle.polcert_robust.specs.RobustLower.{IsNotMendedRobustly}
use Rattle.polcert_robust.specs.RobustVerdict.{IsRobustShort}
use Rattle.polcert_robust.specs.Worst.{PairIsRobust}
use Rattle.polcert_robust.specs.Steps.Pairs.{IsRobustPair}
use Rattle.polcert_robust.specs.Steps.Surveys.{IsFirstNo, IsFirstBefore, IsLackFault, IsPairMeasured, IsSurveyedBefore}
use Rattle.polcert_robust.specs.declared.findings.RobustFindings.{RobustFindings}
use Rattle.polcert_robust.proofs.Backings.{next_node, none_before, one_more}

module _ (i : IntervalTable) (c : Controller) where
  pub nothing_surveyed : IsSurveyedBefore i c 0 0 (record { first = Yes; worst = 0 })
  nothing_surveyed = record { measured = λ m t ml tl b. absurd (none m t b); is_reached = inl refl; first = none_before i c }
    where
      none : (m t : ℕ) → IsBefore m t 0 0 → ⊥
      none m t b = grind arith

  pub measured_if : (n s worst : ℕ) → PairIsRobust i c n s → IsPairMeasured i c n s worst
  measured_if n s worst pair = record {
    lacks = pair.lacks_none;
    amount = _;
    short = record { seen = _; ends = _; worst = pair.worst; is = refl };
    most = omega (arith, linear);
  }

  first_yes : (n s : ℕ) (v : Verdict) → IsFirstBefore i c n s v → PairIsRobust i c n s → IsFirstBefore i c n (s + 1) v
  first_yes n s Yes is pair = one_more i c n s is pair
  first_yes n s _ is pair = is

  first_short : (n s : ℕ) (v : Verdict) (amount : ℤ) (r : Verdict) → IsFirstBefore i c n s v → (n < c.nodes) → (s < i.states)
      → IsRobustShort i c n s amount → pos 0 <ℤ amount → IsFirstNo v (Short n s amount) r → IsFirstBefore i c n (s + 1) r
  first_short n s Yes amount r is nl sl short some e = rw e (nl, sl, short, some, is)
  first_short n s (Short m t other) amount r is nl sl short some e = rw e is
  first_short n s (NoSuccessor m t z) amount r is nl sl short some e = absurd is

  module _ (n s : ℕ) (f : RobustFindings) (nl : n < c.nodes) (sl : s < i.states) (is : IsSurveyedBefore i c n s f) where
    more_measured : (worst : ℕ) → f.worst ≤ worst → IsPairMeasured i c n s worst → (m t : ℕ) → m < c.nodes → t < i.states
        → IsBefore m t n (s + 1) → IsPairMeasured i c m t worst
    more_measured worst l here m t ml tl b =
        ⊎_elim
        (λ (h : IsBefore m t n s). record {
          lacks = (is.measured m t ml tl h).lacks;
          amount = (is.measured m t ml tl h).amount;
          short = (is.measured m t ml tl h).short;
          most = omega (arith, linear, (is.measured m t ml tl h).most, l);
        })
        (λ (h : _ × (t ≡ s)). subst (λ (k : ℕ). IsPairMeasured i c k t worst) (sym h.0)
        (subst (λ (k : ℕ). IsPairMeasured i c n k worst) (sym h.1) here))
        (grind arith)

    pub yes_noted : PairIsRobust i c n s → IsSurveyedBefore i c n (s + 1) f
    yes_noted pair = record {
      measured = more_measured _ (omega arith) (measured_if n s _ pair);
      is_reached = is.is_reached;
      first = first_yes n s _ is.first pair;
    }

    pub short_noted : (m t : ℕ) (amount : ℤ) (r : Verdict) (size worst : ℕ) → IsRobustPair i c n s (Short m t amount)
        → IsFirstNo f.first (Short m t amount) r → size ≡ unsigned_abs amount → f.worst ≤ worst → size ≤ worst → (worst ≡ f.worst)
        ⊎ (worst ≡ size)
        → IsSurveyedBefore i c n (s + 1) (record { first = r; worst = worst })
    short_noted m t amount r size worst (me, te, lacks, short, some) earlier is_size left right is_one = record {
      measured = more_measured worst left (record {
        lacks = lacks;
        amount = _;
        short = short;
        most = omega (arith, ints);
      });
      is_reached = ⊎_elim (λ (e : worst ≡ f.worst). rw e is.is_reached)
          (λ (e : worst ≡ size). inr (n, s, nl, sl, subst (IsRobustShort i c n s) (sym (same e)) short))
          is_one;
      first = first_short n s _ _ r is.first nl sl short some (rw (me, te) at earlier);
    }
      where
        same : worst ≡ size → pos worst ≡ amount
        same e = rw (e, is_size) (omega (arith, ints))

    pub lack_noted : (v : Verdict) (fault : LowerFault) (Can : ℕ → Type 0) → IsRobustPair i c n s v → IsLackFault v fault
        → IsNotMendedRobustly i c Can fault
    lack_noted (NoSuccessor m t z) fault Can (me, te, lacks) e =
        rw (e, me, te) (nl, sl, lacks, λ x y xl yl b. (is.measured x y xl yl b).lacks)
    lack_noted _ fault Can pair e = absurd e

  pub node_surveyed : (n s : ℕ) (f : RobustFindings) → i.states ≤ s → IsSurveyedBefore i c n s f → IsSurveyedBefore i c (n + 1) 0 f
  node_surveyed n s f all is = record {
    measured = λ m t ml tl b. is.measured m t ml tl (grind arith);
    is_reached = is.is_reached;
    first = go _ is.first;
  }
    where
      go : (v : Verdict) → IsFirstBefore i c n s v → IsFirstBefore i c (n + 1) 0 v
      go Yes first = next_node i c n s all first
      go _ first = first

-- Every controller has a verdict, from below and from above, and one vector for each action has one: each pair passes or not, and so the
-- first that doesn't is found by a finite search.
use Rattle.std.proofs.Common.{◌≡◌, ◌⊎◌, inl, inr, ⊎_elim, ℕ, ◌<◌, ◌≤◌, ℤ, pos, ◌≤ℤ◌, ◌<ℤ◌, Option, Some, None, refl, arith}
use Rattle.polcert_cells.specs.Tables.{CellTable}
use Rattle.polcert_cells.proofs.Basics.{some≢none}
use Rattle.polcert_check.specs.declared.survey.Verdict.{Verdict}
use Rattle.polcert_check.specs.declared.survey.Verdict.TheVariants as verdicts
use Rattle.polcert_check.specs.declared.above.AboveVerdict.{AboveVerdict}
use Rattle.polcert_check.specs.Horizon.{Controller, step_weight}
use Rattle.polcert_check.specs.Shortfall.{Lacks, PairPasses, short}
use Rattle.polcert_check.specs.Verdict.{IsLeastLacking, IsVerdict}
use Rattle.polcert_check.specs.Above.{IsAboveVerdict}
use Rattle.polcert_check.specs.Steps.Mirrored.{above_of, mirrored}
use Rattle.polcert_check.proofs.Mirrors.FromAbove.{verdict_above}
use Rattle.polcert_check.proofs.Sums.Ring.{linear}
use Rattle.polcert_optimum.specs.declared.verdict.InformedVerdict.{InformedVerdict}
use Rattle.polcert_optimum.specs.declared.verdict.InformedVerdict.TheVariants as bounds
use Rattle.polcert_optimum.specs.Informed.{IsInformed, excess}
use Rattle.polcert_optimum.specs.InformedCheck.{IsInformedVerdict}
use Rattle.polcert_existence.proofs.Decisions.{below_or_not}
use Rattle.polcert_existence.proofs.FirstFailures.{all_or_first}
use Rattle.polcert_answers_exist.proofs.FirstPairs.{FirstPair, pairs_or_first}

at_most_or_above : (x : ℤ) → (x ≤ℤ pos 0) ⊎ (pos 0 <ℤ x)
at_most_or_above x = grind arith

not_both : (x : ℤ) → pos 0 <ℤ x → x ≤ℤ pos 0 → ⊥
not_both x h l = omega (arith, linear)

-- ---- a pair of a node and a state
module _ (c : Controller) (n s : ℕ) where
  -- some end state has a positive weight, or none has
  weighs_or_not : (z : ℕ) → ((e : ℕ) × (e < c.cells.states) × (0 < step_weight c n s e z))
      ⊎ ((e : ℕ) → e < c.cells.states → 0 < step_weight c n s e z → ⊥)
  weighs_or_not z = ⊎_elim inr
      (λ f. ⊎_elim (λ l. inl (f.at, f.inside, l)) (λ none. absurd (f.fails (λ l. not_below _ none l)))
      (below_or_not 0 (step_weight c n s f.at z)))
      (all_or_first (λ e. 0 < step_weight c n s e z → ⊥)
      (λ e. ⊎_elim (λ l. inr (λ none. none l)) (λ none. inl (not_below _ none)) (below_or_not 0 (step_weight c n s e z))) c.cells.states)
    where
      not_below : (w : ℕ) → w ≤ 0 → 0 < w → ⊥
      not_below w none l = omega arith

  lacks_or_not : (z : ℕ) → Lacks c n s z ⊎ (Lacks c n s z → ⊥)
  lacks_or_not z = at (c.next n z) refl
    where
      at : (o : Option ℕ) → c.next n z ≡ o → Lacks c n s z ⊎ (Lacks c n s z → ⊥)
      at (Some m) e = inr (λ lacks. some≢none e lacks.0)
      at None e = ⊎_elim (λ some. inl (e, some)) (λ none. inr (λ lacks. none lacks.1.0 lacks.1.1 lacks.1.2)) (weighs_or_not z)

  lacking : IsLeastLacking c n s None ⊎ ((z : ℕ) × IsLeastLacking c n s (Some z))
  lacking = ⊎_elim inl
      (λ f. ⊎_elim (λ lacks. inr (f.at, (f.inside, lacks, f.before))) (λ none. absurd (f.fails none)) (lacks_or_not f.at))
      (all_or_first (λ z. Lacks c n s z → ⊥) (λ z. ⊎_elim (λ lacks. inr (λ none. none lacks)) inl (lacks_or_not z)) c.cells.observations)

  passes_or_not : PairPasses c n s ⊎ (PairPasses c n s → ⊥)
  passes_or_not = ⊎_elim
      (λ none. ⊎_elim (λ l. inl (record { lacks_none = none; not_short = l }))
      (λ above. inr (λ p. not_both (short c n s) above p.not_short)) (at_most_or_above (short c n s)))
      (λ z. inr (λ p. p.lacks_none z.0 z.1.0 z.1.1)) lacking

-- ---- a controller
module _ (c : Controller) where
  -- why the first pair that doesn't pass fails
  failure : FirstPair (PairPasses c) c.nodes c.cells.states → (verdict : Verdict) × IsVerdict c verdict
  failure f = ⊎_elim
      (λ none. ⊎_elim (λ l. absurd (f.fails (record { lacks_none = none; not_short = l })))
      (λ above. (verdicts.Short f.node f.state (short c f.node f.state), (f.node_below, f.state_below, f.before, none, refl, above)))
      (at_most_or_above (short c f.node f.state)))
      (λ z. (verdicts.NoSuccessor f.node f.state z.0, (f.node_below, f.state_below, f.before, z.1)))
      (lacking c f.node f.state)

  pub has_verdict : (verdict : Verdict) × IsVerdict c verdict
  has_verdict = ⊎_elim (λ all. (verdicts.Yes, all)) failure (pairs_or_first (PairPasses c) (passes_or_not c) c.nodes c.cells.states)

pub has_verdict_above : (c : Controller) → (verdict : AboveVerdict) × IsAboveVerdict c verdict
has_verdict_above c = let below = has_verdict (mirrored c) in (above_of below.0, verdict_above c below.0 below.1)

-- ---- one vector for each action
module _ (t : CellTable) (vectors : ℕ → ℕ → ℤ) where
  informed_or_not : (a s : ℕ) → IsInformed t vectors a s ⊎ (IsInformed t vectors a s → ⊥)
  informed_or_not a s = ⊎_elim inl (λ above. inr (not_both (excess t vectors a s) above)) (at_most_or_above (excess t vectors a s))

  exceeded : FirstPair (IsInformed t vectors) t.actions t.states → (verdict : InformedVerdict) × IsInformedVerdict t vectors verdict
  exceeded f = ⊎_elim (λ l. absurd (f.fails l))
      (λ above. (bounds.Exceeded f.node f.state (excess t vectors f.node f.state), (f.node_below, f.state_below, f.before, refl, above)))
      (at_most_or_above (excess t vectors f.node f.state))

  pub has_informed_verdict : (verdict : InformedVerdict) × IsInformedVerdict t vectors verdict
  has_informed_verdict = ⊎_elim (λ all. (bounds.Yes, all)) exceeded
      (pairs_or_first (IsInformed t vectors) informed_or_not t.actions t.states)

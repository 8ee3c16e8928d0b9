-- A check of points has one verdict, and a start has one number. What both say of the bound.
use Rattle.std.proofs.Common.{◌≡◌, ℕ, ◌*◌, ◌<◌, ℤ, pos, ◌+ℤ◌, ◌-ℤ◌, ◌*ℤ◌, ◌≤ℤ◌, ◌<ℤ◌, refl, subst, arith, rules}
use Rattle.polcert_points.proofs.Common.{ints, one, CellTable, IsProper, Meaning, HasLimitedNumbers, start_total, table_of}
use Rattle.polcert_points.proofs.Common.{ObservationPolicy, as_policy, IsPolicyOf, AreInformed}
use Rattle.polcert_cells.specs.SameCells.{HasSameCells}
use Rattle.polcert_policy.specs.Graphs.{PolicyGraph, IsProperGraph, nodes}
use Rattle.polcert_policy.specs.Vectors.{PolicyVectors}
use Rattle.polcert_check.specs.Horizon.{Fits, controller_of}
use Rattle.polcert_check.specs.Shortfall.{Passes}
use Rattle.polcert_check.specs.StartWorth.{IsStartWorth}
use Rattle.polcert_check.specs.Verdict.{IsBefore}
use Rattle.polcert_check.proofs.Sums.Ring.{linear, below_cancel, *ℤ-+ℤ}
use Rattle.polcert_optimum.specs.Optimum.{EarnsAtMost, EncloseOptimum}
use Rattle.polcert_points.specs.Points.{Points, Covers, best_worth, IsPointBacked, PointsBoundEveryObservationPolicy}
use Rattle.polcert_points.specs.PointRaise.{point_excess}
use Rattle.polcert_points.specs.PointStart.{PointsBoundFromStart, PointsBoundMixturesFromStart}
use Rattle.polcert_points.specs.PointCheck.{IsRoundedUp}
use Rattle.polcert_points.specs.PointTable.{PointTable, IsProperPointTable, FitPoints, AreLeastCharges}
use Rattle.polcert_points.specs.PointVerdict.{IsVerdictWith, IsPointVerdict, MeetsPointPromise}
use Rattle.polcert_points.specs.PointStartMost.{start_times, scaled_start, IsPointStartMost, HasPointCertificate}
use Rattle.polcert_points.specs.declared.point_verdict.PointVerdict.{PointVerdict}
use Rattle.polcert_points.specs.declared.point_verdict.PointVerdict.TheVariants.{Yes, Exceeded}
use Rattle.polcert_points.proofs.PointBounds.{points_bound}
use Rattle.polcert_points.proofs.PointChecks.{one_cover, rounded_sign}
use Rattle.polcert_points.proofs.PointStartMosts.{certificate_of}
use Rattle.polcert_points.proofs.PointStarts.{from_start, mixtures, earns_at_most, graph_and_points}
use Rattle.polcert_points.proofs.SamePoints.{no_excess, best_there, found_there}

-- ---- one amount
at_most_other : (y x z : ℤ) → IsRoundedUp y x → IsRoundedUp y z → x ≤ℤ z
at_most_other y x z first second =
    omega (arith, linear, below_cancel one x (z +ℤ pos 1) (omega (arith, linear, first.1, second.0, *ℤ-+ℤ (pos one) z (pos 1))))

pub one_rounded : (y x z : ℤ) → IsRoundedUp y x → IsRoundedUp y z → x ≡ z
one_rounded y x z first second = omega (arith, ints, at_most_other y x z first second, at_most_other y z x second first)

-- ---- one verdict, with given charges and covers
one_place : (Good : ℕ → ℕ → Type 0) (i a j b : ℕ) → (Good i a → ⊥) → (Good j b → ⊥) → (IsBefore i a j b → Good i a)
    → (IsBefore j b i a → Good j b) → (i ≡ j) × (a ≡ b)
one_place Good i a j b here there before after = grind arith

not_above : (x : ℤ) → x ≤ℤ pos 0 → pos 0 <ℤ x → ⊥
not_above x l h = grind arith

module _ (t : CellTable) (charges : ℕ → ℕ → ℤ) (points : Points) (covers : Covers) where
  pub fails_there : (i a : ℕ) (amount : ℤ) → IsVerdictWith t charges points covers (Exceeded i a amount)
      → IsPointBacked t charges points covers i a → ⊥
  fails_there i a amount h backed = grind (arith, not_above, rounded_sign, no_excess)

  one_found : (x y : PointVerdict) → IsVerdictWith t charges points covers x → IsVerdictWith t charges points covers y → x ≡ y
  one_found Yes Yes h g = refl
  one_found Yes (Exceeded i a amount) h g = absurd (fails_there i a _ g (h i a g.0 g.1))
  one_found (Exceeded i a amount) Yes h g = absurd (fails_there i a amount h (g i a h.0 h.1))
  one_found (Exceeded i a amount) (Exceeded j b other) h g =
      let (points_same, actions_same) = one_place (IsPointBacked t charges points covers) i a j b (fails_there i a _ h)
      (fails_there j b other g) (g.2 i a h.0 h.1) (h.2 j b g.0 g.1) in
      let moved =
      subst (λ (n : ℕ). IsRoundedUp (point_excess t charges points covers j n) amount) actions_same
      (grind arith) in
      let amounts : amount ≡ other = one_rounded _ amount _ moved g.3 in
      λ k. Exceeded (points_same k) (actions_same k) (amounts k)

-- ---- charges and covers are determined
pub itself : (t : CellTable) → HasSameCells t t
itself t = grind arith

module _ (t : CellTable) (vectors : ℕ → ℕ → ℤ) where
  one_table_of_charges : (c d : ℕ → ℕ → ℤ) (p : PointTable) → FitPoints t p → AreLeastCharges p vectors c
      → AreLeastCharges p vectors d → (a s : ℕ) → a < t.actions → s < t.states → c a s ≡ d a s
  one_table_of_charges c d p fit first second a s al sl = grind arith

  pub one_point_verdict : (p : PointTable) → FitPoints t p → (x y : PointVerdict)
      → IsPointVerdict t vectors p x → IsPointVerdict t vectors p y → x ≡ y
  one_point_verdict p fit x y first second =
      one_found t first.charges p.points _ x y first.found
      (found_there t t (itself t) p.points _ _
      (one_table_of_charges second.charges first.charges p fit second.charged first.charged) _ _
      (λ i a z il al zl. one_cover t p.points _ _ _
      _ (second.covered i a z il al zl) (first.covered i a z il al zl))
      y second.found)

-- ---- one number from the start
below_next : (k : ℕ) (x y worth : ℤ) → (pos k *ℤ (x -ℤ pos 1)) <ℤ worth → worth ≤ℤ (pos k *ℤ y) → x ≤ℤ y
below_next k x y worth h g = omega (arith, linear, below_cancel k (x -ℤ pos 1) y (omega (arith, linear, h, g)))

most_le : (m : Meaning) (vectors : ℕ → ℕ → ℤ) (p : PointTable) → FitPoints (table_of m) p → (x y : ℤ) → IsPointStartMost m vectors p x
    → IsPointStartMost m vectors p y → x ≤ℤ y
most_le m vectors p fit x y first second =
    let cover = second.is_most.cover in
    below_next (start_times * start_total m) x y (best_worth (table_of m) first.charges p.points (scaled_start m) cover)
    (first.is_most.least second.is_most.named cover second.is_most.is_point second.is_most.covered)
    (subst (λ (v : ℤ). v ≤ℤ (pos (start_times * start_total m) *ℤ y))
    (best_there (table_of m) (table_of m) (itself (table_of m)) p.points second.charges first.charges
    (one_table_of_charges (table_of m) vectors second.charges first.charges p fit second.charged first.charged) cover (scaled_start m))
    second.is_most.at_most)

pub one_point_most : (m : Meaning) (vectors : ℕ → ℕ → ℤ) (p : PointTable) → FitPoints (table_of m) p → (x y : ℤ)
    → IsPointStartMost m vectors p x → IsPointStartMost m vectors p y → x ≡ y
one_point_most m vectors p fit x y first second = omega
    (arith, ints, most_le m _ p fit x y first second, most_le m _ p fit y x second first)

-- ---- what a verdict says
pub point_promise : (t : CellTable) (vectors : ℕ → ℕ → ℤ) (p : PointTable) → IsProper t → 0 < t.states → FitPoints t p
    → IsProperPointTable p
    → (verdict : PointVerdict) → IsPointVerdict t vectors p verdict → MeetsPointPromise t vectors p verdict
point_promise t vectors p proper some fit points Yes v =
    λ informed.
    points_bound t vectors v.charges p.points _ proper some informed (grind arith)
    (record { cover = grind arith; backed = v.found })
point_promise t vectors p proper some fit points (Exceeded i a amount) v = tt

-- a yes, with informed vectors
pub every_policy_at_points : (t : CellTable) (vectors : ℕ → ℕ → ℤ) (p : PointTable) → IsProper t → 0 < t.states → FitPoints t p
    → IsProperPointTable p → AreInformed t vectors → IsPointVerdict t vectors p Yes → PointsBoundEveryObservationPolicy t vectors p.points
every_policy_at_points t vectors p proper some fit points informed is_yes = point_promise t _ p proper some fit points Yes is_yes informed

-- and with the number from the start
module _ (m : Meaning) (vectors : ℕ → ℕ → ℤ) (p : PointTable) (most : ℤ) (limits : HasLimitedNumbers m) (proper : IsProper (table_of m))
    (fit : FitPoints (table_of m) p) (points : IsProperPointTable p)
    (is_most : IsPointStartMost m vectors p most) (informed : AreInformed (table_of m) vectors)
    (is_yes : IsPointVerdict (table_of m) vectors p Yes) where
  pub point_certificate : HasPointCertificate m vectors p most
  point_certificate = search (rules, certificate_of)

  pub policies_at_points : PointsBoundFromStart m vectors p.points most
  policies_at_points = let by = point_certificate in from_start m limits _ _ _ _ _ _ most proper by.certificate

  pub mixtures_at_points : PointsBoundMixturesFromStart m vectors p.points most
  mixtures_at_points = let by = point_certificate in mixtures m limits _ _ _ _ _ _ most proper by.certificate

  pub earns_at_most_by_points : m.preamble.discount < one → (policy : ObservationPolicy) → IsPolicyOf (table_of m) (as_policy policy)
      → EarnsAtMost m (as_policy policy) most
  earns_at_most_by_points = let by = point_certificate in
      earns_at_most m limits _ _ _ _ _ _ most proper by.certificate

  -- with a yes from below of any graph
  pub encloses_by_points : (graph : PolicyGraph) (low : PolicyVectors) → IsProperGraph graph → Fits (table_of m) graph low
      → Passes (controller_of (table_of m) graph low) → m.preamble.discount < one
      → (n : ℕ) (worth : ℤ) → n < nodes graph → IsStartWorth m low n worth → EncloseOptimum m worth most
  encloses_by_points graph low proper_graph fits passes less n worth nl is_worth =
      let by = point_certificate in graph_and_points m _ low _ _ _ _ _ _ limits proper
      proper_graph fits passes less n _ most nl is_worth by.certificate

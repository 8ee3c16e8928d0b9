-- What the start is worth at most, covered by one point or by none.
use Rattle.std.proofs.Common.{◌≡◌, inl, inr, ⊎_elim, ℕ, zero, suc, ◌+◌, ◌*◌, ◌<◌, ◌≤◌, ℤ, pos, ◌+ℤ◌, ◌-ℤ◌, ◌*ℤ◌, ◌≤ℤ◌, ◌<ℤ◌, neg_ℤ}
use Rattle.std.proofs.Common.{unsigned_abs, FitsSigned, to_z, of_z, w64, Option, Some, None, List, [], ◌∷◌, refl, sym, ap, subst, ◌∙◌}
use Rattle.std.proofs.Common.{arith}
use Rattle.std.specs.Int.{int_min, int_div_euclid}
use Rattle.std.proofs.lemmas.Int.{by_lt_z, fits_signed_from_abs, to_z-of_z, to_z_pos}
use Rattle.polcert_points.proofs.Common.{cases_lt, w128, ints, clamps, CellTable, Meaning, HasLimitedNumbers, states_of, start_weight}
use Rattle.polcert_points.proofs.Common.{start_total, table_of, greatest_below, AreInformed}
use Rattle.polcert_cells.specs.Meaning.{sum_below}
use Rattle.polcert_check.specs.StartWorth.{IsCeilQuotient, IsFloorQuotient}
use Rattle.polcert_check.proofs.Sums.Ring.{linear, ≤ℤ_from_eq, ≤ℤ_trans}
use Rattle.polcert_check.proofs.Sums.SumLaws.{sum_below_same}
use Rattle.polcert_points.specs.Belief.{Belief, mass}
use Rattle.polcert_points.specs.Points.{Points, point_worth, Cover, covered_worth, best_worth}
use Rattle.polcert_points.specs.PointCheck.{IsCoverBy}
use Rattle.polcert_points.specs.PointTable.{PointTable, IsProperPointTable, FitPoints, IsLeastCharge, AreLeastCharges}
use Rattle.polcert_points.specs.Steps.PointSums.{IsLeastWorth}
use Rattle.polcert_points.specs.PointVerdict.{IsPointVerdict}
use Rattle.polcert_points.specs.PointStartMost.{IsStartMostBy, HasPointCertificate, scaled_start, start_times}
use Rattle.polcert_points.specs.declared.point_verdict.PointVerdict.TheVariants.{Yes}
use Rattle.polcert_points.proofs.LeastCharges.{are_charges}
use Rattle.polcert_points.proofs.Laters.{known}
use Rattle.polcert_points.proofs.NamedCovers.{cover_of, is_cover_by}
use Rattle.polcert_points.proofs.PointChecks.{is_cover, are_covers}
use Rattle.polcert_points.proofs.PointSizes.{best_small}
use Rattle.polcert_points.specs.Steps.PointSums.{AreSmallCharges}
use Rattle.polcert_points.specs.PointTable.{charge_at}
use Rattle.polcert_points.proofs.BestWorths.{same_sum}
use Rattle.polcert_points.proofs.PointStarts.{start_mass}

-- ---- one point more
min_le : (x y v : ℤ) → x ≤ℤ v → int_min x y ≤ℤ v
min_le x y v h = grind arith

module _ (t : CellTable) (charges : ℕ → ℕ → ℤ) (points : Points) (b : Belief) where
  pub none_tried : (x : ℤ) → ((cover : Cover) → IsCoverBy t points b None cover → x ≡ best_worth t charges points b cover)
      → IsLeastWorth t charges points b 0 x
  none_tried x worth = grind arith

  pub one_tried : (n : ℕ) (x y : ℤ) → 1 ≤ mass t (points.belief n) → IsLeastWorth t charges points b n x
      → ((cover : Cover) → IsCoverBy t points b (Some n) cover → y ≡ best_worth t charges points b cover)
      → IsLeastWorth t charges points b (n + 1) (int_min x y)
  one_tried n x y some before worth = record {
    uncovered = λ cover by. min_le x y _ (before.uncovered cover by);
    covered = λ j cover l by. ⊎_elim (λ (k : j < n). min_le x y _ (before.covered j _ k by))
        (λ (k : n ≤ j). let e : j ≡ n = omega (arith, l, k) in
        ≤ℤ_trans _ _ _ (omega (arith, ints, clamps)) (≤ℤ_from_eq _ _
        (worth cover (subst (λ (i : ℕ). IsCoverBy t points b (Some i) cover) e by))))
        (cases_lt j n);
    is_reached = ⊎_elim
        (λ (e : int_min x y ≡ x). rw e ((
          before.is_reached.0,
          before.is_reached.1,
          λ j is. omega
              (arith, before.is_reached.2 j is),
          before.is_reached.3,
          before.is_reached.4,
        )))
        (λ (e : int_min x y ≡ y). (
          Some n,
          cover_of t points b (Some n),
          λ j is. let same : n ≡ j = cc in
              omega arith,
          is_cover_by t points b (Some n) (λ j is. let same : n ≡ j = cc in subst (λ (i : ℕ). 1 ≤ mass t (points.belief i)) same some),
          e ∙ worth _ (is_cover_by t points b (Some n)
              (λ j is. let same : n ≡ j = cc in subst (λ (i : ℕ). 1 ≤ mass t (points.belief i)) same some)),
        ))
        (by_lt_z x y (λ l. inl (omega (arith, ints, clamps, l))) (λ le. inr (omega (arith, ints, clamps, le))));
  }

-- ---- the quotient
pub floor_back : (a : ℤ) (k : ℕ) (q : ℤ) → 0 < k → k ≤ 1000000000000000000 → unsigned_abs a ≤ k * 10000000000000 → FitsSigned w128 a
    → q ≡ int_div_euclid (to_z w128 (of_z w128 a)) (to_z w128 k)
    → IsFloorQuotient a k (to_z w64 (of_z w64 (to_z w128 (of_z w128 q))))
    × (unsigned_abs (to_z w64 (of_z w64 (to_z w128 (of_z w128 q)))) ≤ 10000000000000)
floor_back a k q some few small fa is =
    let same = rw (to_z-of_z w128 a fa, to_z_pos w128 k (omega arith)) at is in
    let small_q : unsigned_abs q ≤ 10000000000000 = rw same (grind arith) in
    rw (to_z-of_z w128 q (grind arith), to_z-of_z w64 q (fits_signed_from_abs w64 q (omega (arith, small_q))))
    (grind arith)

pub negated_is : (k : ℕ) (a : ℤ) → k ≤ 1000000000000000000 → unsigned_abs a ≤ k * 10000000000000
    → to_z w128 (of_z w128 (pos 0 -ℤ to_z w128 (of_z w128 a))) ≡ neg_ℤ a
negated_is k a few small = grind arith

pub least_is : (x y m : ℤ) → FitsSigned w128 y → FitsSigned w128 m → m ≡ int_min x (to_z w128 (of_z w128 y))
    → to_z w128 (of_z w128 m) ≡ int_min x y
least_is x y m fy fm is = grind arith

-- ---- the start
scaled_sum : (k : ℕ) (f : ℕ → ℕ) (n : ℕ) → sum_below (λ s. k * f s) n ≡ k * sum_below f n
scaled_sum k f zero = omega arith
scaled_sum k f (suc n) = omega (arith, scaled_sum k f n)

-- a state outside of the start
pub not_started : (m : Meaning) (s : ℕ) → start_weight m s ≡ 0 → scaled_start m s ≡ 0
not_started m s none = cc

module _ (m : Meaning) (limits : HasLimitedNumbers m) where
  pub start_is : mass (table_of m) (scaled_start m) ≡ start_times * start_total m
  start_is =
      scaled_sum start_times (start_weight m) (states_of m) ∙ ap (λ (n : ℕ). start_times * n) (omega (arith, linear, start_mass m limits))

  pub start_few : (b : Belief) → ((s : ℕ) → s < states_of m → b s ≡ scaled_start m s) → mass (table_of m) b ≤ 5000000000000000000000000
  start_few b same = grind (arith, same_sum, states_of, start_is)

  module _ (p : PointTable) (fit : FitPoints (table_of m) p) (proper : IsProperPointTable p) (charges : List ℤ)
      (small : AreSmallCharges p charges) (x : ℤ) (least : IsLeastWorth (table_of m) (charge_at p charges) p.points (scaled_start m)
      p.points.count x) where
    pub least_small : unsigned_abs x ≤ start_times * start_total m * 10000000000000
    least_small =
        let r = least.is_reached in
        let t = table_of m in
        rw (← start_is)
        (rw r.4
        (best_small t (charge_at p _) p.points 10000000000000
        (λ c s cl sl. small c s (omega arith) (omega arith))
        (λ j c jl cl. proper.values j c jl (omega arith)) r.1 _ (omega arith)
        (grind arith)))

    worth_above : (other : Option ℕ) (its : Cover) → ((j : ℕ) → other ≡ Some j → j < p.points.count)
        → IsCoverBy (table_of m) p.points (scaled_start m) other its
        → x ≤ℤ best_worth (table_of m) (charge_at p charges) p.points (scaled_start m) its
    worth_above None its is_point by = grind arith
    worth_above (Some j) its is_point by = least.covered j its (is_point j refl) by

    pub most_is : (total : ℕ) (q : ℤ) → total ≡ start_times * start_total m → IsCeilQuotient x total q
        → IsStartMostBy m (charge_at p charges) p.points q
    most_is total q is ceil =
        let r = least.is_reached in
        let t = table_of m in
        record {
          named = r.0;
          cover = r.1;
          is_point = r.2;
          covered = r.3;
          at_most = grind arith;
          least = λ other its is_point by. rw (← is) (below_le _ x _ ceil.1 (worth_above _ its is_point by));
        }
      where
        below_le : (a b c : ℤ) → a <ℤ b → b ≤ℤ c → a <ℤ c
        below_le a b c h k = grind arith

-- ---- the certificate
pub same_charge : (p : PointTable) (vectors : ℕ → ℕ → ℤ) (a s n : ℕ) (x y : ℤ) → IsLeastCharge p vectors a s n x
    → IsLeastCharge p vectors a s n y → x ≡ y
same_charge p vectors a s n x y first second = grind arith

charged_same : (t : CellTable) (c d : ℕ → ℕ → ℤ) (points : Points) (a : ℕ) → ((s : ℕ) → s < t.states → c a s ≡ d a s)
    → (cover : Cover) (b : Belief) → covered_worth t c points a b cover ≡ covered_worth t d points a b cover
charged_same t c d points a same [] b = grind (arith, sum_below_same)
charged_same t c d points a same (x ∷ cover) b = ap (λ (y : ℤ). pos x.1 *ℤ point_worth t points x.0 a +ℤ y)
    (charged_same t c d points a same cover _)

greatest_same : (f g : ℕ → ℤ) (n : ℕ) → ((i : ℕ) → i < n → f i ≡ g i) → greatest_below f n ≡ greatest_below g n
greatest_same f g zero same = refl
greatest_same f g (suc zero) same = grind arith
greatest_same f g (suc (suc n)) same = cc (greatest_same f g (suc n) (λ i l. same i (omega arith)), same (suc n) (omega arith))

best_same : (t : CellTable) (c d : ℕ → ℕ → ℤ) (points : Points) (cover : Cover) (b : Belief)
    → ((a s : ℕ) → a < t.actions → s < t.states → c a s ≡ d a s) → best_worth t c points b cover ≡ best_worth t d points b cover
best_same t c d points cover b same = grind (arith, greatest_same, charged_same)

pub certificate_of : (m : Meaning) (limits : HasLimitedNumbers m) (vectors charges : ℕ → ℕ → ℤ) (p : PointTable)
    (fit : FitPoints (table_of m) p) (proper : IsProperPointTable p) (most : ℤ) → AreLeastCharges p vectors charges
    → IsStartMostBy m charges p.points most
    → AreInformed (table_of m) vectors → IsPointVerdict (table_of m) vectors p Yes → HasPointCertificate m vectors p most
certificate_of m limits vectors charges p fit proper most charged is informed v =
    let t = table_of m in
    let whole : mass t _ ≡ start_total m = omega (arith, linear, start_mass m limits) in
    let same =
    best_same t _ _ p.points _ _
    (λ a s al sl. same_charge p _ a s _ _ (v.charges a s)
    (charged a s (omega (arith, al, fit.actions)) (omega (arith, sl, fit.states)))
    (v.charged a s (omega (arith, al, fit.actions)) (omega (arith, sl, fit.states)))) in
    record {
      charges = v.charges;
      covers = v.covers;
      cover = is.cover;
      certificate = record {
        informed = informed;
        charged = are_charges t p vectors v.charges fit v.charged;
        backed = record { cover = are_covers t p.points p.next v.covers (known t p fit proper) v.covered; backed = v.found };
        start = record {
          some = omega arith;
          cover_is = is_cover t p.points (scaled_start m) is.named is.cover is.is_point is.covered;
          at_most = subst (λ (n : ℕ). best_worth t v.charges p.points (scaled_start m) is.cover ≤ℤ (pos (start_times * n) *ℤ most))
              (sym whole) (subst (λ (y : ℤ). y ≤ℤ (pos (start_times * start_total m) *ℤ most)) same is.at_most);
        };
      };
    }

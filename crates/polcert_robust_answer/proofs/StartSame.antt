-- What is worth so much from the start of one model near it is worth so much from that of each same model; and what that promises.
use Rattle.std.proofs.Common.{◌≡◌, ℕ, ◌*◌, ◌/◌, ℤ, List, get_or, subst}
use Rattle.polcert_text.specs.declared.number.Rounding.TheVariants.{Down, Up}
use Rattle.polcert_cells.specs.Elements.{count_of}
use Rattle.polcert_cells.specs.Preamble.{Preamble}
use Rattle.polcert_cells.specs.declared.elements.StartWeights.{StartWeights}
use Rattle.polcert_policy.specs.VectorText.{IsRoundedVectorsText}
use Rattle.polcert_check.specs.StartWorth.{IsCeilQuotient, IsFloorQuotient}
use Rattle.polcert_check.specs.declared.survey.Verdict.TheVariants.{Yes}
use Rattle.polcert_check.specs.declared.above.AboveVerdict.TheVariants as above
use Rattle.polcert_answer.specs.Headline.{Certificate}
use Rattle.polcert_answer.specs.HeadlineAbove.{CertificateAbove}
use Rattle.polcert_answer.proofs.Denoted.{of_each}
use Rattle.polcert_robust.specs.declared.distance.Spread.{Spread}
use Rattle.polcert_robust.specs.Intervals.{high_of, low_of}
use Rattle.polcert_robust.specs.Start.{IsGreatestFromStart, IsLeastFromStart, IsStartMostNear, IsStartWorthNear}
use Rattle.polcert_robust.specs.Worst.{IsWorstRow, mean}
use Rattle.polcert_robust.proofs.StartMeans.{best_with, most_promised, worth_promised}
use Rattle.polcert_robust_answer.specs.Distances.{parts_at}
use Rattle.polcert_robust_answer.specs.Lines.{IsNearAboveLine, IsNearLine, start_by}
use Rattle.polcert_robust_answer.specs.Near.{HasNearHorizon, HasStartAboveNear, HasStartNear, near_above, near_below}
use Rattle.polcert_robust_answer.proofs.Common.{HasGraph, IsSame, Meaning, PolicyGraph, PolicyVectors, Within, controller_of, states_of}
use Rattle.polcert_robust_answer.proofs.Common.{table_of}

-- a start, on the scale of starts near it
abbrev times : StartWeights → ℕ
times s = 10_000_000_000 / s.total

abbrev whole : StartWeights → ℕ
whole s = s.total * times s

abbrev share : StartWeights → ℕ → ℕ
share s i = get_or s.weights i 0 * times s

module _ (w : Within) (m n : Meaning) (same : IsSame m n) where
  abbrev spread : StartWeights → Spread
  spread s = record { parts = parts_at w.by (whole s); percent = w.percent }

  abbrev Worst : (ℕ → ℤ) → (ℕ → ℕ) → StartWeights → Preamble → Type 0
  Worst x row s p = IsWorstRow (λ i. low_of (spread s) (share s i)) (λ i. high_of (spread s) (share s i)) (whole s) (count_of p.states) x
      row

  least_same : (x : ℕ → ℤ) (value : ℤ) → IsLeastFromStart m (start_by w m) x value → IsLeastFromStart n (start_by w n) x value
  least_same x value h = record {
    start = h.start;
    worst = subst (λ s. Worst x h.start s n.preamble) same.start (subst (λ p. Worst x h.start m.start p) same.preamble h.worst);
    is = subst (λ (p : Preamble). value ≡ mean h.start x (count_of p.states)) same.preamble h.is;
  }

  worth_same : (v : PolicyVectors) (node : ℕ) (worth : ℤ) → IsStartWorthNear m (start_by w m) v node worth
      → IsStartWorthNear n (start_by w n) v node worth
  worth_same v node worth (value, best, floor) = (
    value,
    best_with (IsLeastFromStart m (start_by w m)) (IsLeastFromStart n (start_by w n)) least_same v v.nodes node value best,
    subst (λ s. IsFloorQuotient value (whole s) worth) same.start floor,
  )

  most_same : (v : PolicyVectors) (most : ℤ) → IsStartMostNear m (start_by w m) v most → IsStartMostNear n (start_by w n) v most
  most_same v most (node, value, best, ceil) = (
    node,
    value,
    best_with (IsGreatestFromStart m (start_by w m)) (IsGreatestFromStart n (start_by w n)) (λ x mean. least_same _ _) v v.nodes node value
        best,
    subst (λ s. IsCeilQuotient value (whole s) most) same.start ceil,
  )

module _ (w : Within) (model graph vectors : List ℕ) (m : Meaning) (g : PolicyGraph) (v : PolicyVectors) (has : HasGraph model graph m g)
    (line : List ℕ) where
  pub started_below : HasNearHorizon near_below w Yes model graph vectors → IsRoundedVectorsText Down g (states_of m) vectors v
      → IsNearLine w m (controller_of (table_of m) g v) v Yes line → HasStartNear w line model graph vectors
  started_below meets are (node, worth, is, spelled) =
      let worths : (c : Certificate model graph vectors) → IsStartWorthNear c.meaning (start_by w c.meaning) c.values node worth =
      of_each m g v has are (λ o h u. IsStartWorthNear o (start_by w o) u node worth) (λ o same. worth_same w m o same v node worth is) in
      record {
        node = node;
        worth = worth;
        is_line = spelled;
        is_worth = worths;
        promise = λ c parts t lies shares total near k. worth_promised c.meaning (start_by w c.meaning) (table_of c.meaning) c.policy
            c.values
            c.are_vectors.2.nodes_are parts t lies.states shares total near (meets c parts t lies) node worth (worths c) k;
      }

  pub started_above : HasNearHorizon near_above w above.Yes model graph vectors → IsRoundedVectorsText Up g (states_of m) vectors v
      → IsNearAboveLine w m (controller_of (table_of m) g v) v above.Yes line → HasStartAboveNear w line model graph vectors
  started_above meets are (most, is, spelled) =
      let mosts : (c : CertificateAbove model graph vectors) → IsStartMostNear c.meaning (start_by w c.meaning) c.values most =
      of_each m g v has are (λ o h u. IsStartMostNear o (start_by w o) u most) (λ o same. most_same w m o same v most is) in
      record {
        most = most;
        is_line = spelled;
        is_most = mosts;
        promise = λ c parts t lies shares total near k n nl. most_promised c.meaning (start_by w c.meaning) (table_of c.meaning) c.policy
            c.values c.are_vectors.2.nodes_are parts t lies.states shares total near (meets c parts t lies) most (mosts c) k n nl;
      }

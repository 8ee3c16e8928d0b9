-- The headline for every model near the text's: what a yes to three texts promises, over the very bytes of the texts, from either side.
use Rattle.std.specs.Prelude.{◌≡◌, ℕ, ◌<◌, ℤ, pos, ◌*ℤ◌, List}
use Rattle.polcert_text.specs.declared.number.Rounding.{Rounding}
use Rattle.polcert_text.specs.declared.number.Rounding.TheVariants.{Down, Up}
use Rattle.polcert_cells.specs.Meaning.{Meaning}
use Rattle.polcert_cells.specs.Tables.{CellTable, table_of}
use Rattle.polcert_policy.specs.Graphs.{nodes}
use Rattle.polcert_policy.specs.Vectors.{PolicyVectors}
use Rattle.polcert_check.specs.Above.{MeetsEveryHorizonAbove}
use Rattle.polcert_check.specs.Horizon.{Controller, MeetsEveryHorizon}
use Rattle.polcert_check.specs.declared.survey.Verdict.{Verdict}
use Rattle.polcert_check.specs.declared.survey.Verdict.TheVariants.{Yes}
use Rattle.polcert_check.specs.declared.above.AboveVerdict.{AboveVerdict}
use Rattle.polcert_check.specs.declared.above.AboveVerdict.TheVariants as above
use Rattle.polcert_answer.specs.Headline.{Certificate, RoundedCertificate, controller}
use Rattle.polcert_answer.specs.HeadlineAbove.{CertificateAbove}
use Rattle.polcert_robust.specs.declared.distance.Spread.{Spread}
use Rattle.polcert_robust.specs.Intervals.{IntervalTable, LiesWithin, around}
use Rattle.polcert_robust.specs.RobustVerdict.{IsRobustVerdict, MeetsHorizonInEveryModel}
use Rattle.polcert_robust.specs.RobustAbove.{IsRobustAboveVerdict, MeetsHorizonAboveInEveryModel}
use Rattle.polcert_robust.specs.Start.{IsAtMostFrom, IsStartMostNear, IsStartNear, IsStartWorthNear, IsWorthFrom}
use Rattle.polcert_robust.specs.Worst.{within_model}
use Rattle.polcert_robust_answer.specs.Distances.{parts_of_row}
use Rattle.polcert_robust_answer.specs.Lines.{IsNearAboveLine, IsNearLine, most_line, start_by, worth_line}
use Rattle.polcert_robust_answer.specs.declared.within.Within.{Within}

-- how far the weights of rows with this many columns may lie from their own, in whole parts of the scale and in percent
abbrev pub spread_within : Within → ℕ → Spread
spread_within w columns = record { parts = parts_of_row w.by columns; percent = w.percent }

-- Around a table: each probability above 0 and each reward within its distance. A probability of 0 and the discount are known.
abbrev pub models_near : Within → CellTable → IntervalTable
models_near w t = around t (spread_within w t.states) (spread_within w t.observations) w.rewards_by

-- Whatever controller the texts denote: in every model that lies within the distances of the text's, the promise holds for every number of
-- steps, from every node and state, with the vectors at the end and for the rewards alone.
abbrev pub IsCertifiedNear : Within → List ℕ → List ℕ → List ℕ → Type 0
IsCertifiedNear w model graph vectors = (c : Certificate model graph vectors) (parts : ℕ) (m : CellTable)
    → LiesWithin (models_near w (table_of c.meaning)) parts m
    → MeetsEveryHorizon (within_model (controller c) parts m)

-- the same from above, each value rounded up
abbrev pub IsCertifiedAboveNear : Within → List ℕ → List ℕ → List ℕ → Type 0
IsCertifiedAboveNear w model graph vectors = (c : CertificateAbove model graph vectors) (parts : ℕ) (m : CellTable)
    → LiesWithin (models_near w (table_of c.meaning)) parts m
    → MeetsEveryHorizonAbove (within_model (controller c) parts m)

-- What the line of a yes says of the start is promised. The line names a node and a worth; and of whatever controller the texts denote:
-- that
-- node is worth most from its worst start near the model's, this is its worth there, rounded down; and in every model within, from every
-- start near, for every number of steps, no less is expected of it. (That no run that is cut weighs anything, `IsCertifiedNear` says.)
pub record HasStartNear (w : Within) (line model graph vectors : List ℕ) : Type 0 where
  pub node : ℕ
  pub worth : ℤ
  pub is_line : line ≡ worth_line w node worth
  pub is_worth : (c : Certificate model graph vectors) → IsStartWorthNear c.meaning (start_by w c.meaning) c.values node worth
  pub promise : (c : Certificate model graph vectors) (parts : ℕ) (m : CellTable) → LiesWithin (models_near w (table_of c.meaning)) parts m
      → (shares : ℕ → ℕ) (total : ℕ) → IsStartNear c.meaning (start_by w c.meaning) shares total
      → (k : ℕ) → IsWorthFrom (within_model (controller c) parts m) shares total k node (pos parts *ℤ worth)

-- The same from above: the line names what no node is worth more than from any start near, rounded up; and in every model within, from
-- every
-- start near, for every number of steps, no more is expected of any node.
pub record HasStartAboveNear (w : Within) (line model graph vectors : List ℕ) : Type 0 where
  pub most : ℤ
  pub is_line : line ≡ most_line w most
  pub is_most : (c : CertificateAbove model graph vectors) → IsStartMostNear c.meaning (start_by w c.meaning) c.values most
  pub promise : (c : CertificateAbove model graph vectors) (parts : ℕ) (m : CellTable)
      → LiesWithin (models_near w (table_of c.meaning)) parts m
      → (shares : ℕ → ℕ) (total : ℕ) → IsStartNear c.meaning (start_by w c.meaning) shares total
      → (k n : ℕ) → n < nodes c.policy → IsAtMostFrom (within_model (controller c) parts m) shares total k n (pos parts *ℤ most)

-- All that differs between the sides, where `V` are the verdicts.
pub record NearSide (V : Type 0) : Type 1 where
  -- how each value of the vectors is rounded
  pub rounding : Rounding
  -- the verdict on a controller in every model within the intervals, which verdict is yes, what a verdict says of the promise, and its line
  pub Is : IntervalTable → Controller → V → Type 0
  pub yes : V
  pub Meets : IntervalTable → Controller → V → Type 0
  pub IsLine : Within → Meaning → Controller → PolicyVectors → V → List ℕ → Type 0
  -- what a yes to three texts promises, and what its line says of the start
  pub Promised : Within → List ℕ → List ℕ → List ℕ → Type 0
  pub StartPromised : Within → List ℕ → List ℕ → List ℕ → List ℕ → Type 0

-- from below
abbrev pub near_below : NearSide Verdict
near_below = record {
  rounding = Down;
  Is = IsRobustVerdict;
  yes = Yes;
  Meets = MeetsHorizonInEveryModel;
  IsLine = IsNearLine;
  Promised = IsCertifiedNear;
  StartPromised = HasStartNear;
}

-- from above
abbrev pub near_above : NearSide AboveVerdict
near_above = record {
  rounding = Up;
  Is = IsRobustAboveVerdict;
  yes = above.Yes;
  Meets = MeetsHorizonAboveInEveryModel;
  IsLine = IsNearAboveLine;
  Promised = IsCertifiedAboveNear;
  StartPromised = HasStartAboveNear;
}

-- ---- what is said of three texts
module _ {V : Type 0} (side : NearSide V) (w : Within) where
  -- They denote a controller of which this is the verdict, and this is its line.
  pub record HasNearVerdict (verdict : V) (line model graph vectors : List ℕ) : Type 0 where
    pub certificate : RoundedCertificate side.rounding model graph vectors
    pub verdict_is : side.Is (models_near w (table_of certificate.meaning)) (controller certificate) verdict
    pub line_is : side.IsLine w certificate.meaning (controller certificate) certificate.values verdict line

  -- Whatever controller they denote, this is what the verdict says of the promise: a yes, that it holds for every number of steps in every
  -- model within; a no, that the promise of one step fails at the pair that it names in one of them.
  abbrev pub HasNearHorizon : V → List ℕ → List ℕ → List ℕ → Type 0
  HasNearHorizon verdict model graph vectors = (c : RoundedCertificate side.rounding model graph vectors)
      → side.Meets (models_near w (table_of c.meaning)) (controller c) verdict

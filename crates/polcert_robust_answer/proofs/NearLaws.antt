-- The laws of both sides.
use Rattle.polcert_cells.specs.SameCells.{HasSameCells}
use Rattle.polcert_check.specs.declared.survey.Verdict.{Verdict}
use Rattle.polcert_check.specs.declared.survey.Verdict.TheVariants.{Yes, Short, NoSuccessor}
use Rattle.polcert_check.specs.declared.above.AboveVerdict.{AboveVerdict}
use Rattle.polcert_check.specs.declared.above.AboveVerdict.TheVariants as above
use Rattle.polcert_check.proofs.Agreements.SameModels.{same_cells}
use Rattle.polcert_robust.specs.RobustVerdict.{MeetsHorizonInEveryModel}
use Rattle.polcert_robust.specs.RobustAbove.{MeetsHorizonAboveInEveryModel}
use Rattle.polcert_robust_answer.specs.Near.{near_above, near_below}
use Rattle.polcert_robust_answer.specs.Steps.Nearby.{NearLaws}
use Rattle.polcert_robust_answer.proofs.Common.{CellTable, PolicyGraph, PolicyVectors, Within, controller_of, models_near, table_of}
use Rattle.polcert_robust_answer.proofs.NearSame.{lies_same, sym_same}
use Rattle.polcert_robust_answer.proofs.StartSame.{started_above, started_below}

module _ (w : Within) (x y : CellTable) (same : HasSameCells x y) (g : PolicyGraph) (v : PolicyVectors) where
  meets_same : (u : Verdict) → MeetsHorizonInEveryModel (models_near w x) (controller_of x g v) u
      → MeetsHorizonInEveryModel (models_near w y) (controller_of y g v) u
  meets_same Yes every = λ parts m lies. every parts m (lies_same y x (sym_same x y same) parts m w lies)
  meets_same (Short n s amount) (m, lies, fails) = (m, lies_same x y same 1 m w lies, fails)
  meets_same (NoSuccessor n s z) (m, lies, fails) = (m, lies_same x y same 1 m w lies, fails)

  meets_above_same : (u : AboveVerdict) → MeetsHorizonAboveInEveryModel (models_near w x) (controller_of x g v) u
      → MeetsHorizonAboveInEveryModel (models_near w y) (controller_of y g v) u
  meets_above_same above.Yes every = λ parts m lies. every parts m (lies_same y x (sym_same x y same) parts m w lies)
  meets_above_same (above.Long n s amount) (m, lies, fails) = (m, lies_same x y same 1 m w lies, fails)
  meets_above_same (above.NoSuccessor n s z) (m, lies, fails) = (m, lies_same x y same 1 m w lies, fails)

pub laws_below : NearLaws near_below
laws_below = record {
  same = λ w m n same g v u meets. meets_same w (table_of m) (table_of n) (same_cells m n same) g v u meets;
  promised = λ w model graph vectors meets. meets;
  started = λ w model graph vectors meets m g v has are line is. started_below w model graph vectors m g v has line meets are is;
}

pub laws_above : NearLaws near_above
laws_above = record {
  same = λ w m n same g v u meets. meets_above_same w (table_of m) (table_of n) (same_cells m n same) g v u meets;
  promised = λ w model graph vectors meets. meets;
  started = λ w model graph vectors meets m g v has are line is. started_above w model graph vectors m g v has line meets are is;
}

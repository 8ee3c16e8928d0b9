-- The laws of lowering and raising.
use Rattle.std.proofs.Common.{◌≡◌, ℕ, ℤ, List}
use Rattle.polcert_text.specs.declared.number.Rounding.{Rounding}
use Rattle.polcert_cells.specs.SameCells.{HasSameCells}
use Rattle.polcert_check.specs.Lower.{lowered_by}
use Rattle.polcert_check.specs.Raise.{raised_by}
use Rattle.polcert_check.specs.declared.fault.LowerFault.{LowerFault}
use Rattle.polcert_check.specs.declared.fault.RaiseFault.{RaiseFault}
use Rattle.polcert_check.proofs.Agreements.SameModels.{same_cells}
use Rattle.polcert_check.proofs.Horizons.EveryHorizon.{every_horizon}
use Rattle.polcert_check.proofs.Mirrors.FromAbove.{horizons_above}
use Rattle.polcert_check.specs.Steps.Ranges.{IsController}
use Rattle.polcert_answer.specs.Headline.{RoundedCertificate, controller}
use Rattle.polcert_answer.specs.declared.fault.RunFault.TheVariants.{Lower, Raise, Write}
use Rattle.polcert_answer.proofs.Denoted.{fits_is, graph_is, proper_graph}
use Rattle.polcert_answer.proofs.Passing.{read_in_lowering, read_in_raise}
use Rattle.polcert_robust.specs.RobustAbove.{PassesAboveInEveryModel}
use Rattle.polcert_robust.specs.RobustLower.{IsLeastLowering}
use Rattle.polcert_robust.specs.RobustRaise.{IsLeastRaising}
use Rattle.polcert_robust.specs.RobustVerdict.{PassesInEveryModel}
use Rattle.polcert_robust.specs.Worst.{within_model}
use Rattle.polcert_robust.proofs.Horizons.{controller_within, is_for_around}
use Rattle.polcert_robust_answer.specs.Near.{spread_within}
use Rattle.polcert_robust_answer.specs.Moves.{near_lowering, near_raising}
use Rattle.polcert_robust_answer.specs.Steps.Moving.{NearMoveLaws}
use Rattle.polcert_robust_answer.proofs.Common.{CellTable, LiesWithin, PolicyGraph, PolicyVectors, Within, controller_of, models_near}
use Rattle.polcert_robust_answer.proofs.Common.{table_of}
use Rattle.polcert_robust_answer.proofs.NearSame.{lies_same, sym_same}

module _ (w : Within) (x y : CellTable) (same : HasSameCells x y) (g : PolicyGraph) (v : PolicyVectors) where
  pass_same : PassesInEveryModel (models_near w x) (controller_of x g v) → PassesInEveryModel (models_near w y) (controller_of y g v)
  pass_same passes = λ parts m lies. passes parts m (lies_same y x (sym_same x y same) parts m w lies)

  pass_above_same : PassesAboveInEveryModel (models_near w x) (controller_of x g v)
      → PassesAboveInEveryModel (models_near w y) (controller_of y g v)
  pass_above_same passes = λ parts m lies. passes parts m (lies_same y x (sym_same x y same) parts m w lies)

  lowered_same : (by : ℕ) → PassesInEveryModel (models_near w x) (lowered_by (controller_of x g v) by)
      → PassesInEveryModel (models_near w y) (lowered_by (controller_of y g v) by)
  lowered_same by passes = λ parts m lies. passes parts m (lies_same y x (sym_same x y same) parts m w lies)

  raised_same : (by : ℕ) → PassesAboveInEveryModel (models_near w x) (raised_by (controller_of x g v) by)
      → PassesAboveInEveryModel (models_near w y) (raised_by (controller_of y g v) by)
  raised_same by passes = λ parts m lies. passes parts m (lies_same y x (sym_same x y same) parts m w lies)

module _ (w : Within) (x y : CellTable) (same : HasSameCells x y) (g : PolicyGraph) (v : PolicyVectors) where
  least_lowering_same : (by : ℤ) → IsLeastLowering (models_near w x) (controller_of x g v) v by
      → IsLeastLowering (models_near w y) (controller_of y g v) v by
  least_lowering_same by (d, is, (passes, less), can) =
      (d, is, (lowered_same w x y same g v d passes, λ e l p. less e l (lowered_same w y x (sym_same x y same) g v e p)), can)

  least_raising_same : (by : ℤ) → IsLeastRaising (models_near w x) (controller_of x g v) v by
      → IsLeastRaising (models_near w y) (controller_of y g v) v by
  least_raising_same by (d, is, (passes, less), can) =
      (d, is, (raised_same w x y same g v d passes, λ e l p. less e l (raised_same w y x (sym_same x y same) g v e p)), can)

-- what three texts denote, in a model within
module _ (w : Within) {rounding : Rounding} {model graph vectors : List ℕ} (c : RoundedCertificate rounding model graph vectors) where
  proper_within : (parts : ℕ) (m : CellTable) → LiesWithin (models_near w (table_of c.meaning)) parts m
      → IsController (within_model (controller c) parts m)
  proper_within parts m lies =
      let t : CellTable = table_of c.meaning in
      controller_within (models_near w t) (controller c)
      (is_for_around t c.policy c.values (spread_within w t.states) (spread_within w t.observations) w.rewards_by
      (proper_graph c.meaning c.policy (graph_is c)) (fits_is c)) parts m lies

one_lower : (x y : LowerFault) → Lower x ≡ Lower y → x ≡ y
one_lower x y same = cc

no_write_lower : (x : LowerFault) → Lower x ≡ Write → ⊥
no_write_lower x same = cc

one_raise : (x y : RaiseFault) → Raise x ≡ Raise y → x ≡ y
one_raise x y same = cc

no_write_raise : (x : RaiseFault) → Raise x ≡ Write → ⊥
no_write_raise x same = cc

pub laws_lowering : NearMoveLaws near_lowering
laws_lowering = record {
  same_least = λ w m n same g v. least_lowering_same w (table_of m) (table_of n) (same_cells m n same) g v;
  same_pass = λ w m n same g v. pass_same w (table_of m) (table_of n) (same_cells m n same) g v;
  promised = λ w model graph vectors passes c parts m lies.
      every_horizon (within_model (controller c) parts m) (proper_within w c parts m lies) (passes c parts m lies);
  one_fault = one_lower;
  no_write = no_write_lower;
  own_fault = λ x. (tt, tt);
  write_fault = tt;
  read_fault = read_in_lowering;
}

pub laws_raising : NearMoveLaws near_raising
laws_raising = record {
  same_least = λ w m n same g v. least_raising_same w (table_of m) (table_of n) (same_cells m n same) g v;
  same_pass = λ w m n same g v. pass_above_same w (table_of m) (table_of n) (same_cells m n same) g v;
  promised = λ w model graph vectors passes c parts m lies.
      horizons_above (within_model (controller c) parts m) (proper_within w c parts m lies) (passes c parts m lies);
  one_fault = one_raise;
  no_write = no_write_raise;
  own_fault = λ x. (tt, tt);
  write_fault = tt;
  read_fault = read_in_raise;
}

use Rattle.polcert_check.proofs.Common.{AboveVerdict, input_controller, Controller}
use Rattle.std.proofs.Common.{sym, subst}
use Rattle.polcert_check.proofs.Common.{value_of, controller_of, MeetsHorizon, IsVerdict}
use Rattle.polcert_check.proofs.Common.{NamesSmallAmount, IsAboveVerdict, MeetsHorizonAbove, NamesSmallAmountAbove, mirrored, IsController}
use Rattle.polcert_check.proofs.Walking.Answering.{surveyed}
use Rattle.polcert_check.proofs.Mirrors.FromAbove.{verdict_above, horizon_above, small_above}
use Rattle.polcert_check.proofs.Mirrors.Interval.{never_above}
use Rattle.polcert_check.proofs.Sums.Scales.{scales}
use Rattle.polcert_check.proofs.Walking.Verdicts.{positive_product}
use Rattle.polcert_check.proofs.above.check_above_watched.Goals as goal

pub returns : goal.returns
returns g c =
    let k = controller_of (g.C.Cells.table _) c.args.graph.now c.args.vectors.now in
    let input = c.new-input.result in
    let says : IsVerdict _ _ × MeetsHorizon _ _
    × NamesSmallAmount (mirrored k) c.survey.result.first =
    rw c.new-input.ensures.checked_controller at (surveyed _ _ input.proper
    (g.met.C.Cells.is_within_limits _) input.values _ c.survey.ensures.mode c.survey.ensures.found) in
    let verdict = subst (λ v. IsAboveVerdict k v) (sym c.above_of.ensures) (verdict_above k _ says.0)
    in
    record {
      verdict = verdict;
      horizon = subst (λ v. MeetsHorizonAbove k v) (sym c.above_of.ensures) (horizon_above k _ says.1);
      small = subst (λ v. NamesSmallAmountAbove k v) (sym c.above_of.ensures) (small_above k _ says.2);
      interval = λ yes less low fits_low below n s nl sl.
          let both = scales (g.C.Cells.table _) (g.met.C.Cells.is_within_limits _) in
          let proper : IsController k = rw c.new-input.ensures.controller at input.proper in
          let passes = subst (λ v. IsAboveVerdict k v) yes verdict in
          never_above k proper passes (value_of low) below less
          (positive_product (g.C.Cells.table _).t_scale (g.C.Cells.table _).o_scale both.0 both.1) n s nl
          sl;
    }

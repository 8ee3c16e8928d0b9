use Rattle.polcert_points_answer.proofs.Common.{meaning, IsPointReadFault}
use Rattle.polcert_answer.specs.declared.fault.RunFault.TheVariants.{Raise}
use Rattle.polcert_answer.proofs.OfSources.{wrote_mapped}
use Rattle.polcert_answer.proofs.Passing.{is_err, no_ok, of_fault, said}
use Rattle.polcert_bound_answer.proofs.Denoted.{fit_of}
use Rattle.polcert_points_form.proofs.WrittenPoints.{all_values_read}
use Rattle.polcert_points_answer.specs.Raise.{IsPointRaiseFault}
use Rattle.polcert_points_answer.proofs.Denoted.{fit_points_of}
use Rattle.polcert_points_answer.proofs.Passing.{nothing_written, stops_again}
use Rattle.polcert_points_answer.proofs.Raising.{has_raised, not_raisable, raised_in_raise, read_in_raise, stops_raised}
use Rattle.polcert_points_answer.proofs.raise.run_point_raise.Goals as goal

pub write_raised-requires : goal.write_raised-requires
write_raised-requires g c =
    let d = c.in_ok-read.ensures.accepted in
    let m = meaning c.in_ok-read.read.bound.model in
    record {
      vectors = fit_of m c.in_ok-read.read.bound.vectors d.bound.second d.bound.are_vectors;
      points = fit_points_of m c.in_ok-read.read.points d.third d.are_points;
      all_values = all_values_read _ _ _ d.third c.in_ok-read.read.points d.are_points;
    }

-- the fault of a read is handed on
pub returns-in_err-read : goal.returns-in_err-read
returns-in_err-read g c =
    let same = is_err _ _ c.from_residual.ensures.1 in
    let read = c.in_err-read.ensures in
    record {
      raised = nothing_written _ _ same read.of_reading _ _ _;
      small = no_ok _ _ same _;
      not_raised = λ fault is. absurd (said _ _ same IsPointReadFault read.of_reading (Raise fault) is);
      stops = stops_again _ _ same read.of_reading read.refused read.read read.in_order;
      of_a_raise = of_fault _ _ same IsPointRaiseFault (read_in_raise _ read.of_reading);
    }

-- all texts are accepted
pub returns : goal.returns
returns g c =
    let m = meaning c.in_ok-read.read.bound.model in
    let v = c.in_ok-read.read.bound.vectors in
    let p = c.in_ok-read.read.points in
    let d = c.in_ok-read.ensures.accepted in
    let wrote = c.write_raised.ensures in
    record {
      raised = wrote_mapped _ _ (has_raised _ _ _ m v p d) _ wrote.raised;
      small = wrote.small;
      not_raised = λ fault is. not_raisable _ _ _ m v p d fault (wrote.not_raised fault is);
      stops = stops_raised _ wrote.of_writing _ c.in_ok-read.ensures.read wrote.write wrote.untouched;
      of_a_raise = raised_in_raise _ wrote.of_writing;
    }

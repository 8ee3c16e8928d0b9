use Rattle.std.proofs.Common.{arith}
use Rattle.polcert_bound_answer.proofs.Common.{meaning, Yes, IsBoundCheckFault, IsBoundWriteFault}
use Rattle.polcert_answer.proofs.OfSources.{wrote_mapped, text_of_answer, answered_with}
use Rattle.polcert_answer.proofs.Passing.{is_err, not_ok, no_ok, of_fault, nothing_written, of_writing, is_write}
use Rattle.polcert_bound_answer.proofs.Denoted.{fit_of}
use Rattle.polcert_bound_answer.proofs.Answering.{has_verdict, has_promise, has_start_promise, has_horizon}
use Rattle.polcert_bound_answer.proofs.Passing.{is_read, read_in_check, stops_again, stops_after}
use Rattle.polcert_bound_answer.proofs.runs.run_bound_check.Goals as goal

pub write_bound_answer-requires : goal.write_bound_answer-requires
write_bound_answer-requires g c =
    let d = c.in_ok-read.ensures.accepted in
    record { fit = fit_of (meaning c.in_ok-read.read.model) c.in_ok-read.read.vectors d.second d.are_vectors }

-- the fault of a read is handed on
pub returns-in_err-read : goal.returns-in_err-read
returns-in_err-read g c = grind (arith, is_err, not_ok, no_ok, of_fault, nothing_written, is_read, read_in_check, stops_again)

-- both texts are accepted
pub returns : goal.returns
returns g c =
    let m = meaning c.in_ok-read.read.model in
    let v = c.in_ok-read.read.vectors in
    let d = c.in_ok-read.ensures.accepted in
    let wrote = c.write_bound_answer.ensures in
    record {
      answered = wrote_mapped _ _ (has_verdict _ _ m v d) _ wrote.answered;
      promise = λ yes. let (line, is, took) = text_of_answer _ _ Yes wrote.answered yes in has_promise _ _ m v d line is;
      start_promise = λ yes. let (line, is, took) = text_of_answer _ _ Yes wrote.answered yes in
          (line, has_start_promise _ _ m v d line is, took);
      horizon = answered_with _ _ (has_horizon _ _ m v d) _ wrote.answered;
      stops = stops_after _ (of_writing _ wrote.of_write IsBoundWriteFault tt) _ c.in_ok-read.ensures.read wrote.write
          (λ fault same other. absurd (other (is_write _ wrote.of_write fault same)));
      of_a_check = of_writing _ wrote.of_write IsBoundCheckFault tt;
    }

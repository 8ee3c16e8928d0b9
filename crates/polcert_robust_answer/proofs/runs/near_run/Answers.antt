use Rattle.std.proofs.Common.{arith}
use Rattle.polcert_answer.specs.Run.{IsCheckRunFault}
use Rattle.polcert_answer.proofs.Denoted.{fits_of}
use Rattle.polcert_answer.proofs.OfSources.{wrote_mapped, text_of_answer, answered_with}
use Rattle.polcert_answer.proofs.Passing.{is_err, not_ok, no_ok, of_fault, nothing_written, stops_again, stops_after, read_in_check}
use Rattle.polcert_answer.proofs.Passing.{of_writing, is_write}
use Rattle.polcert_robust_answer.proofs.Common.{meaning, IsNoReadFault}
use Rattle.polcert_robust_answer.proofs.NearTexts.{has_verdict, has_promise, has_start_promise, has_horizon}
use Rattle.polcert_robust_answer.proofs.runs.near_run.Goals as goal

pub write_near_answer-requires : goal.write_near_answer-requires
write_near_answer-requires g c = grind (arith, fits_of)

-- the fault of a read is handed on
pub returns-in_err-read : goal.returns-in_err-read
returns-in_err-read g c = grind (arith, is_err, not_ok, no_ok, of_fault, nothing_written, stops_again, read_in_check)

-- all three texts are accepted
pub returns : goal.returns
returns g c =
    let m = meaning c.in_ok-read.read.model in
    let graph = c.in_ok-read.read.graph in
    let v = c.in_ok-read.read.vectors in
    let d = rw c.rounding.ensures at c.in_ok-read.ensures.accepted in
    let w = c.args.within.now in
    let laws = c.laws.ensures in
    let wrote = c.write_near_answer.ensures in
    record {
      answered = wrote_mapped _ _ (has_verdict laws w m graph v d) _ wrote.answered;
      promise = λ yes. let (line, is, took) = text_of_answer _ _ _ wrote.answered yes in has_promise laws w m graph v d line is;
      start_promise = λ yes. let (line, is, took) = text_of_answer _ _ _ wrote.answered yes in
          (line, has_start_promise laws w m graph v d line is, took);
      horizon = answered_with _ _ (has_horizon laws w m graph v d) _ wrote.answered;
      stops = stops_after _ (of_writing _ wrote.of_write IsNoReadFault tt) _ c.in_ok-read.ensures.read wrote.write
          (λ fault same other. absurd (other (is_write _ wrote.of_write fault same)));
      of_a_check = of_writing _ wrote.of_write IsCheckRunFault tt;
    }

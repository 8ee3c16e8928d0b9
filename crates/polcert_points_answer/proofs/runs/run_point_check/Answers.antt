use Rattle.std.proofs.Common.{arith}
use Rattle.polcert_points_answer.proofs.Common.{meaning, Yes, IsPointCheckFault, table_of_set}
use Rattle.polcert_answer.proofs.OfSources.{wrote_mapped, text_of_answer}
use Rattle.polcert_answer.proofs.Passing.{is_err, not_ok, no_ok, of_fault}
use Rattle.polcert_bound_answer.proofs.Denoted.{fit_of}
use Rattle.polcert_bound_answer.proofs.Passing.{each_fault}
use Rattle.polcert_points_answer.proofs.Answering.{has_verdict, has_promise, has_start_promise, memory_of_source}
use Rattle.polcert_points_answer.proofs.Denoted.{fit_points_of}
use Rattle.polcert_points_answer.proofs.Passing.{nothing_written, read_in_check, stops_again, stops_after, write_in_check}
use Rattle.polcert_points_answer.proofs.runs.run_point_check.Goals as goal

pub write_point_answer-requires : goal.write_point_answer-requires
write_point_answer-requires g c =
    let d = c.in_ok-read.ensures.accepted in
    let m = meaning c.in_ok-read.read.bound.model in
    record {
      vectors = fit_of m c.in_ok-read.read.bound.vectors d.bound.second d.bound.are_vectors;
      points = fit_points_of m c.in_ok-read.read.points d.third d.are_points;
    }

-- the fault of a read is handed on
pub returns-in_err-read : goal.returns-in_err-read
returns-in_err-read g c = grind (arith, is_err, not_ok, no_ok, of_fault, nothing_written, read_in_check, stops_again)

-- all texts are accepted
pub returns : goal.returns
returns g c =
    let m = meaning c.in_ok-read.read.bound.model in
    let v = c.in_ok-read.read.bound.vectors in
    let p = c.in_ok-read.read.points in
    let d = c.in_ok-read.ensures.accepted in
    let wrote = c.write_point_answer.ensures in
    record {
      answered = wrote_mapped _ _ (has_verdict _ _ _ m v p d) _ wrote.answered;
      promise = λ yes. let (line, is, took) = text_of_answer _ _ Yes wrote.answered yes in has_promise _ _ _ m v p d line is;
      start_promise = λ yes. let (line, is, took) = text_of_answer _ _ Yes wrote.answered yes in
          (line, has_start_promise _ _ _ m v p d line is, took);
      stops = stops_after _ wrote.of_writing _ c.in_ok-read.ensures.read (memory_of_source m v p d) wrote.write wrote.untouched;
      of_a_check = each_fault _ IsPointCheckFault write_in_check _ wrote.of_writing;
    }

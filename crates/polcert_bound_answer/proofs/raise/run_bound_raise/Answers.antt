use Rattle.std.proofs.Common.{arith}
use Rattle.polcert_bound_answer.proofs.Common.{meaning}
use Rattle.polcert_answer.proofs.OfSources.{wrote_mapped}
use Rattle.polcert_answer.proofs.Passing.{is_err, of_fault, said, nothing_written}
use Rattle.polcert_bound_answer.proofs.Denoted.{fit_of}
use Rattle.polcert_bound_answer.proofs.Raising.{has_raised, not_raisable, read_in_raise, raised_in_raise}
use Rattle.polcert_bound_answer.proofs.Passing.{is_read, stops_again, stops_after}
use Rattle.polcert_bound_answer.proofs.raise.run_bound_raise.Goals as goal

pub write_raised_vectors-requires : goal.write_raised_vectors-requires
write_raised_vectors-requires g c =
    let d = c.in_ok-given.ensures.accepted in
    record { fit = fit_of (meaning c.in_ok-given.given.model) c.in_ok-given.given.vectors d.second d.are_vectors }

-- the fault of a read is handed on
pub returns-in_err-given : goal.returns-in_err-given
returns-in_err-given g c = grind (arith, is_err, of_fault, said, nothing_written, read_in_raise, is_read, stops_again)

-- both texts are accepted
pub returns : goal.returns
returns g c =
    let m = meaning c.in_ok-given.given.model in
    let v = c.in_ok-given.given.vectors in
    let d = c.in_ok-given.ensures.accepted in
    let wrote = c.write_raised_vectors.ensures in
    record {
      raised = wrote_mapped _ _ (has_raised _ _ m v d) _ wrote.raised;
      not_raised = λ fault is. not_raisable _ _ m v d fault (wrote.not_raised fault is);
      stops = stops_after _ wrote.of_writing _ c.in_ok-given.ensures.read wrote.write wrote.untouched;
      of_a_raise = raised_in_raise _ wrote.of_writing;
    }

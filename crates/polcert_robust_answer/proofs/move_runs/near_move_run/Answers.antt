use Rattle.std.proofs.Common.{arith}
use Rattle.polcert_answer.proofs.Denoted.{fits_of}
use Rattle.polcert_answer.proofs.OfSources.{wrote_mapped}
use Rattle.polcert_answer.proofs.Passing.{is_err, of_fault, said, no_read_fault, nothing_written, stops_again, stops_after}
use Rattle.polcert_robust_answer.proofs.Common.{meaning}
use Rattle.polcert_robust_answer.proofs.Moving.{has_moved, not_movable}
use Rattle.polcert_robust_answer.proofs.move_runs.near_move_run.Goals as goal

pub write_moved_near-requires : goal.write_moved_near-requires
write_moved_near-requires g c = grind (arith, fits_of)

-- the fault of a read is handed on
pub returns-in_err-read : goal.returns-in_err-read
returns-in_err-read g c = grind (arith, is_err, of_fault, said, no_read_fault, nothing_written, stops_again)

-- all three texts are accepted
pub returns : goal.returns
returns g c =
    let m = meaning c.in_ok-read.read.model in
    let graph = c.in_ok-read.read.graph in
    let v = c.in_ok-read.read.vectors in
    let d = rw c.rounding.ensures at c.in_ok-read.ensures.accepted in
    let w = c.args.within.now in
    let laws = c.laws.ensures in
    let wrote = c.write_moved_near.ensures in
    record {
      moved = wrote_mapped _ _ (has_moved laws w m graph v d) _ wrote.moved;
      not_moved = λ fault is. not_movable laws w m graph v d fault (wrote.not_moved fault is);
      stops = stops_after _ wrote.no_read _ c.in_ok-read.ensures.read wrote.write wrote.untouched;
      of_a_move = wrote.of_a_move;
    }

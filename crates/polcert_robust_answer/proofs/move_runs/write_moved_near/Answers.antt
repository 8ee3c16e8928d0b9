use Rattle.std.proofs.Common.{◌≡◌, rules, to_z, of_z, w64, to_z-of_z, FitsSigned, sym, arith}
use Rattle.polcert_answer.proofs.Passing.{same_err}
use Rattle.polcert_robust_answer.proofs.Common.{meaning}
use Rattle.polcert_robust_answer.proofs.Moving.{are_written}
use Rattle.polcert_robust_answer.proofs.move_runs.write_moved_near.Goals as goal

-- vectors are not moved
pub returns-in-Err : goal.returns-in-Err
returns-in-Err g c = grind (arith, same_err)

-- the moved vectors are written
pub returns-in-Ok-write_full_vectors-clause-moved : goal.returns-in-Ok-write_full_vectors-clause-moved
returns-in-Ok-write_full_vectors-clause-moved g c =
    let found = c.in-Ok.found in
    let fits : FitsSigned w64 found.0 = search rules in
    let back : to_z w64 (of_z w64 found.0) ≡ found.0 = to_z-of_z fits in
    let are = are_written g.B.NearMover.move_near c.args.within.now (meaning c.args.given.now.model) c.args.given.now.graph
    c.args.given.now.vectors found.0 found.1 c.in-Ok.ensures.moved
    (c.in-Ok-write_full_vectors.ensures.reads_back g.B.NearMover.move_near.rounding) in
    record { took = (_, rw back are, c.in-Ok-write_full_vectors.ensures.written.ok); begun = λ failed. absurd (cc) }

-- or a beginning of them is
pub returns-clause-moved : goal.returns-clause-moved
returns-clause-moved g c =
    let found = c.in-Ok.found in
    let are = are_written g.B.NearMover.move_near c.args.within.now (meaning c.args.given.now.model) c.args.given.now.graph
    c.args.given.now.vectors found.0 found.1 c.in-Ok.ensures.moved
    (c.write_full_vectors.ensures.reads_back g.B.NearMover.move_near.rounding) in
    record { took = tt; begun = λ failed. (found.0, _, are, c.in-Err-write_full_vectors.ensures.written.err) }

pub returns-clause-not_moved : goal.returns-clause-not_moved
returns-clause-not_moved g c = λ f same. absurd (c.laws.ensures.no_write f (sym (same_err _ _ same)))

pub returns-clause-of_a_move : goal.returns-clause-of_a_move
returns-clause-of_a_move g c = c.laws.ensures.write_fault

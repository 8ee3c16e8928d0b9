use Rattle.std.proofs.Common.{◌≡◌, rules, to_z, of_z, w64, to_z-of_z, FitsSigned, arith}
use Rattle.polcert_bound_answer.proofs.Common.{Up, meaning}
use Rattle.polcert_policy.proofs.ActionGraphs.{node_count}
use Rattle.polcert_bound_answer.proofs.Raising.{why_of, same_raise, raised_text}
use Rattle.polcert_bound_answer.proofs.raise.write_raised_vectors.Goals as goal

pub write_full_vectors-requires : goal.write_full_vectors-requires
write_full_vectors-requires g c = grind (arith, node_count)

pub returns-in-Err-clause-not_raised : goal.returns-in-Err-clause-not_raised
returns-in-Err-clause-not_raised g c = grind (arith, why_of, same_raise)

pub returns-in-Ok-write_full_vectors-clause-raised : goal.returns-in-Ok-write_full_vectors-clause-raised
returns-in-Ok-write_full_vectors-clause-raised g c =
    let by = c.in-Ok.by in
    let fits : FitsSigned w64 by = search rules in
    let back : to_z w64 (of_z w64 by) ≡ by = to_z-of_z fits in
    let raised = c.in-Ok-raised_for_writing.raised in
    let e = c.in-Ok-raised_for_writing.ensures in
    let are = raised_text (meaning c.args.given.now.model) c.args.given.now.vectors by raised.vectors raised.graph e.graph
    (rw back at e.shifted) c.requires.fit.states c.in-Ok.ensures.least e.informed (c.in-Ok-write_full_vectors.ensures.reads_back Up) in
    record { took = (_, rw back are, c.in-Ok-write_full_vectors.ensures.written.ok); begun = λ failed. absurd (cc) }

pub returns-clause-raised : goal.returns-clause-raised
returns-clause-raised g c =
    let by = c.in-Ok.by in
    let fits : FitsSigned w64 by = search rules in
    let back : to_z w64 (of_z w64 by) ≡ by = to_z-of_z fits in
    let raised = c.in-Ok-raised_for_writing.raised in
    let e = c.in-Ok-raised_for_writing.ensures in
    let are = raised_text (meaning c.args.given.now.model) c.args.given.now.vectors by raised.vectors raised.graph e.graph
    (rw back at e.shifted) c.requires.fit.states c.in-Ok.ensures.least e.informed (c.write_full_vectors.ensures.reads_back Up) in
    record { took = tt; begun = λ failed. (by, _, are, c.in-Err-write_full_vectors.ensures.written.err) }

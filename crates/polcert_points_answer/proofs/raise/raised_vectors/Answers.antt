use Rattle.std.proofs.Common.{◌≡◌, rules, to_z, of_z, w64, to_z-of_z, FitsSigned, subst, sym}
use Rattle.polcert_points_answer.proofs.Common.{meaning, table_of}
use Rattle.polcert_check.specs.declared.fault.RaiseFault.{RaiseFault}
use Rattle.polcert_bound_answer.specs.Raise.{IsWhyNotBoundRaised}
use Rattle.polcert_bound_answer.proofs.Raising.{can_shift, why_of}
use Rattle.polcert_points_answer.proofs.raise.raised_vectors.Goals as goal

pub shifted-requires : goal.shifted-requires
shifted-requires c =
    let by = c.in-Ok.by in
    let fits : FitsSigned w64 by = search rules in
    let back : to_z w64 (of_z w64 by) ≡ by = to_z-of_z fits in
    rw back (can_shift (table_of (meaning c.args.read.now.bound.model)) c.args.read.now.bound.vectors by c.in-Ok.ensures.least)

-- no constant serves
pub returns-in-Err-clause-refused : goal.returns-in-Err-clause-refused
returns-in-Err-clause-refused c =
    let t = table_of (meaning c.args.read.now.bound.model) in
    let v = c.args.read.now.bound.vectors in
    subst (λ (f : RaiseFault). IsWhyNotBoundRaised t v f) (sym c.raise_fault_of.ensures)
    (why_of t v c.in-Err.fault c.in-Err.ensures.refused)

pub returns-in-Ok-shifted-clause-raised : goal.returns-in-Ok-shifted-clause-raised
returns-in-Ok-shifted-clause-raised c =
    let by = c.in-Ok.by in
    let fits : FitsSigned w64 by = search rules in
    let back : to_z w64 (of_z w64 by) ≡ by = to_z-of_z fits in
    (by, c.in-Ok.ensures.least, rw back at c.in-Ok-shifted.ensures.shifted)

-- there is no memory for raised vectors
pub returns-in-Err-shifted-clause-refused : goal.returns-in-Err-shifted-clause-refused
returns-in-Err-shifted-clause-refused c = (c.in-Ok.by, c.in-Ok.ensures.least)

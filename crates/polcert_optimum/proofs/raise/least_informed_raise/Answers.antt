use Rattle.std.proofs.Common.{arith, pos, FitsSigned, w64, refl}
use Rattle.std.proofs.lemmas.Int.{to_z_pos}
use Rattle.polcert_optimum.proofs.Checking.Pairs.{constant_small}
use Rattle.polcert_optimum.proofs.raise.least_informed_raise.Goals as goal

pub overflow_cast-result : goal.overflow_cast-result
overflow_cast-result g c =
    let small = constant_small _ c.nodes-vectors.ensures.proper _
    (c.if-can_raise.ensures.0 refl) in
    record { sfits = omega arith }

pub returns-then-can_raise-clause-least : goal.returns-then-can_raise-clause-least
returns-then-can_raise-clause-least g c =
    let small = constant_small _ c.nodes-vectors.ensures.proper _
    (c.if-can_raise.ensures.0 refl) in
    let fits : FitsSigned w64 (pos _) = record { sfits = omega arith } in
    (_, to_z_pos w64 _ fits.sfits, c.in_ok-by.ensures.least, c.if-can_raise.ensures.0 refl)

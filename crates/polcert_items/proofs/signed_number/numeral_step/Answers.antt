use Rattle.std.proofs.Common.{rules, FitsSigned, w64, to_z-of_z}
use Rattle.polcert_items.proofs.Common.{lexeme_of, IsMillionths, is_minus_sign}
use Rattle.polcert_items.proofs.SignedNumbers.{refuses_range}
use Rattle.polcert_items.proofs.signed_number.numeral_step.Goals as goal

pub returns-in-Some-clause-refused : goal.returns-in-Some-clause-refused
returns-in-Some-clause-refused c =
    let h = c.in-Ok.value in
    let fits : FitsSigned w64 h = search rules in
    let out = simp to_z-of_z at c.in-Some.ensures in
    let value = rw c.is_negative.ensures at c.in-Ok.ensures.value in
    let is : IsMillionths (is_minus_sign c.args.sign) (lexeme_of c.args.token) h =
    record { kind = c.requires; readable = value.0; value = value.1 } in
    refuses_range c.args.range c.args.sign (lexeme_of c.args.token) h c.in-Some.kind _ is out.0 out.1 c.number_place-place.ensures

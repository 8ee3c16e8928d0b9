use Rattle.std.proofs.Common.{refl, subst, arith}
use Rattle.polcert_policy.proofs.Common.{IsRounded}
use Rattle.std.proofs.lemmas.Int.{to_z-of_z}
use mir.Syntax.{w64}
use Rattle.polcert_policy.proofs.VectorEndLaws.{rounded_in_range, in_range_fits}
use Rattle.polcert_policy.proofs.VectorReadLaws.{refuse_numeral, read_value}
use Rattle.polcert_policy.proofs.vectors_reading.VectorsReading.take_numeral.Goals as goal

pub returns-in-Err-clause-takes : goal.returns-in-Err-clause-takes
returns-in-Err-clause-takes c = grind (arith, refuse_numeral)

pub returns-in_ok-push-in-Ok-clause-takes : goal.returns-in_ok-push-in-Ok-clause-takes
returns-in_ok-push-in-Ok-clause-takes c = let v = c.in-Ok.value in λ graph seen h.
    let value = c.in-Ok.ensures.value in
    let fits = in_range_fits v (rounded_in_range c.args.rounding _ _ v value.0 value.1) in
    let pushed = rw (to_z-of_z w64 v fits) at c.in_ok-push-in-Ok.ensures in
    read_value graph c.args.self.now _ _ seen _ v c.requires.column c.requires.numeral value.0
    (subst (λ b. IsRounded c.args.rounding b c.args.token.bytes.now v) c.is_negative.ensures value.1)
    refl refl refl refl pushed c.advance.ensures h

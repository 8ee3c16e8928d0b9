use Rattle.std.proofs.Common.{◌≡◌, ◌∙◌, refl, sym, subst, false, arith}
use Rattle.polcert_policy.proofs.Common.{lexeme_of}
use Rattle.polcert_policy.specs.PointTokens.{is_joined_to}
use Rattle.polcert_policy.proofs.Places.{same_some}
use Rattle.polcert_policy.proofs.PointEndLaws.{minus_at, joined_as}
use Rattle.polcert_policy.proofs.points_reading.PointsReading.check_apart.Goals as goal

pub returns-then-is_joined : goal.returns-then-is_joined
returns-then-is_joined c =
    let m = c.in-Some.minus in
    record {
      sign = m;
      sign_is = c.in-Some.is;
      joined = sym (joined_as m (lexeme_of c.args.token)) ∙ sym (c.is_joined.ensures (minus_at m.stop) refl (omega arith))
          ∙ c.if-is_joined.true;
      fault_is = refl;
    }

pub returns-else-is_joined : goal.returns-else-is_joined
returns-else-is_joined c = λ m e.
    let old = c.in-Some.minus in
    let apart = sym (joined_as old (lexeme_of c.args.token)) ∙ sym (c.is_joined.ensures (minus_at old.stop) refl (omega arith))
    ∙ c.if-is_joined.false in
    let same : old ≡ m = same_some old m (sym c.in-Some.is ∙ e) in
    subst (λ s. is_joined_to s (lexeme_of c.args.token) ≡ false) same apart

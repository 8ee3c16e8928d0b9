use Rattle.std.proofs.Common.{sym, ap}
use Rattle.polcert_policy.proofs.Common.{lexeme_of, minus_kind, sign_kind}
use Rattle.polcert_policy.proofs.PointEndLaws.{sign_taken}
use Rattle.polcert_policy.proofs.points_reading.PointsReading.take_value.Goals as goal

pub returns-in-Plus-clause-takes : goal.returns-in-Plus-clause-takes
returns-in-Plus-clause-takes c =
    sign_taken _ _ _ _ _ (c.take_sign.ensures.takes (lexeme_of c.args.token) (ap sign_kind c.in-Plus.is)
    (λ i. record { place = c.args.token.place; is_negative = sym (ap minus_kind c.in-Plus.is) i }))

pub returns-in-Minus-clause-takes : goal.returns-in-Minus-clause-takes
returns-in-Minus-clause-takes c =
    sign_taken _ _ _ _ _ (c.take_sign-in-Minus.ensures.takes (lexeme_of c.args.token) (ap sign_kind c.in-Minus.is)
    (λ i. record { place = c.args.token.place; is_negative = sym (ap minus_kind c.in-Minus.is) i }))

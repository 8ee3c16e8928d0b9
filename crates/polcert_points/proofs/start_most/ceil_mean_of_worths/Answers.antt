use Rattle.std.proofs.Common.{ℤ, subst, sym}
use Rattle.polcert_check.specs.StartWorth.{IsCeilQuotient, IsFloorQuotient}
use Rattle.polcert_check.proofs.Mirrors.StartMosts.{ceil_is, neg_quotient_is}
use Rattle.polcert_points.proofs.PointStartMosts.{negated_is}
use Rattle.polcert_points.proofs.start_most.ceil_mean_of_worths.Goals as goal

pub returns : goal.returns
returns c =
    subst (λ (x : ℤ). IsCeilQuotient c.args.sum c.args.total x) (sym (neg_quotient_is c.quotient_down.result c.quotient_down.ensures.small))
    (ceil_is c.args.sum c.args.total c.quotient_down.result
    (subst (λ (x : ℤ). IsFloorQuotient x c.args.total c.quotient_down.result)
    (negated_is c.args.total c.args.sum c.requires.few c.requires.small) c.quotient_down.ensures.floor))

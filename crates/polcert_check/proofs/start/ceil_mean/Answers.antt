use Rattle.std.proofs.Common.{subst, sym}
use Rattle.polcert_check.proofs.Common.{IsFloorQuotient, IsCeilQuotient}
use Rattle.polcert_check.proofs.Mirrors.StartMosts.{ceil_is, neg_sum_is, neg_quotient_is}
use Rattle.polcert_check.proofs.start.ceil_mean.Goals as goal

pub returns : goal.returns
returns c =
    let sum = c.args.sum in
    let q = c.floor_quotient.result in
    subst (IsCeilQuotient sum _) (sym (neg_quotient_is q c.floor_quotient.ensures.small))
    (ceil_is sum _ q (subst (λ x. IsFloorQuotient x c.args.total q) (neg_sum_is _ sum c.requires.few c.requires.small)
    c.floor_quotient.ensures.floor))

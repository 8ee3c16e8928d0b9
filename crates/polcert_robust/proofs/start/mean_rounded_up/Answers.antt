use Rattle.std.proofs.Common.{subst, sym}
use Rattle.polcert_check.specs.StartWorth.{IsCeilQuotient}
use Rattle.polcert_check.proofs.Mirrors.StartMosts.{ceil_is, neg_quotient_is}
use Rattle.polcert_robust.proofs.StartMeans.{negated_mean_is}
use Rattle.polcert_robust.proofs.start.mean_rounded_up.Goals as goal

pub returns : goal.returns
returns c =
    let mean = c.args.mean in
    let q = c.mean_rounded_down.result in
    subst (IsCeilQuotient mean c.args.total) (sym (neg_quotient_is q c.mean_rounded_down.ensures.small))
    (ceil_is mean _ q (rw (← negated_mean_is _ mean c.requires.few c.requires.small) c.mean_rounded_down.ensures.floor))

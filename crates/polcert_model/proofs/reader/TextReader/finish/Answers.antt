use Rattle.std.proofs.Common.{subst}
use Rattle.polcert_model.proofs.Common.{err_from_is_err_and, Refuses}
use Rattle.polcert_model.proofs.TextReading.{refused_at_end, whole_refused}
use Rattle.polcert_model.proofs.reader.TextReader.finish.Goals as goal

pub returns-in_err-close : goal.returns-in_err-close
returns-in_err-close c = λ seen read.
    let p = err_from_is_err_and c.from_residual.result c.from_residual.ensures.1 in
    rw (p.1, p.2) (refused_at_end seen _ _ (c.in_err-close.ensures.items seen read))

pub returns-in-Some : goal.returns-in-Some
returns-in-Some c = λ seen read text ts tokens same clean stop. subst (Refuses ts) (cc)
    (whole_refused seen _ c.in-Some.kind _ (c.in_ok-close.ensures.items seen read)
    (cc) text ts tokens same clean stop)

pub returns-in-None : goal.returns-in-None
returns-in-None c = λ seen read. record {
  items = (c.in_ok-close.ensures.items seen read).items;
  complete = cc;
}

use Rattle.std.proofs.Common.{subst, arith}
use Rattle.polcert_answer.proofs.Common.{meaning, IsRoundedAnswer}
use Rattle.polcert_answer.proofs.OfTexts.{refused_answer}
use Rattle.polcert_answer.proofs.Denoted.{fits_of, answer_is, meets_each}
use Rattle.polcert_answer.proofs.answer.text_answer.Goals as goal

pub check-requires : goal.check-requires
check-requires g c = grind (arith, fits_of)

pub returns-in_err-read : goal.returns-in_err-read
returns-in_err-read g c = refused_answer g.B.Bound.side _ _ _ c.from_residual.result _ c.from_residual.ensures.1
    (rw c.rounding.ensures at c.in_err-read.ensures.refused)

pub returns : goal.returns
returns g c =
    let laws = c.laws.ensures in
    let m = meaning c.in_ok-read.read.model in
    let has = c.in_ok-read.ensures.graph_accepted in
    let are = rw c.rounding.ensures at c.in_ok-read.ensures.vectors_accepted in
    let is = c.check.ensures.verdict in
    let answer = answer_is laws m c.in_ok-read.read.graph c.in_ok-read.read.vectors has are c.check.result is in
    record {
      answer = answer;
      promise = λ yes. laws.promised _ _ _ (subst (λ r. IsRoundedAnswer g.B.Bound.side.rounding g.B.Bound.side.Is c.args.model.now
          c.args.graph.now c.args.vectors.now r) yes answer);
      horizon = meets_each laws m c.in_ok-read.read.graph c.in_ok-read.read.vectors has are c.check.result is;
    }

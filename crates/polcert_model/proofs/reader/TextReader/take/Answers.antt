use Rattle.std.proofs.Common.{◌∙◌, is_some, refl, sym, ap}
use Rattle.polcert_model.proofs.Common.{err_from_is_err_and}
use Rattle.polcert_model.proofs.TextReading.{refused_at_word}
use Rattle.polcert_model.proofs.reader.TextReader.take.Goals as goal

pub returns-in_err-close-in-Some-clause-read : goal.returns-in_err-close-in-Some-clause-read
returns-in_err-close-in-Some-clause-read c = λ seen read.
    let p = err_from_is_err_and c.from_residual.result c.from_residual.ensures.1 in
    rw (p.1, p.2) (refused_at_word seen _ c.in-Some.topic _ (cc)
    (c.in_err-close-in-Some.ensures.items seen read))

pub returns-in_ok-close-in-Some-clause-read : goal.returns-in_ok-close-in-Some-clause-read
returns-in_ok-close-in-Some-clause-read c = λ seen read. c.open.ensures.read seen _ (c.in_ok-close-in-Some.ensures.items seen read)
    (cc) refl

pub returns-in-None-clause-read : goal.returns-in-None-clause-read
returns-in-None-clause-read c = λ seen read. c.feed.ensures.read seen read (ap is_some (sym c.begun_topic.ensures ∙ c.in-None.is))

use Rattle.std.proofs.Common.{◌∙◌, ap, sym, subst}
use Rattle.polcert_text.proofs.Common.{EndsAsAnswered}
use Rattle.polcert_text.proofs.Streams.StreamStops.{stopped_answers}
use Rattle.polcert_text.proofs.stream_tokens.StreamTokens.advance.Goals as goal

pub returns-in-Some : goal.returns-in-Some
returns-in-Some g c =
    let stop_is = sym (ap (λ s. s.stop) c.self.view_is) ∙ c.in-Some.is in
    stopped_answers _ _ _ c.args.self.now c.args.source.now c.in-Some.stop c.answer.result c.answer.ensures stop_is
    (subst (λ s. EndsAsAnswered s.ahead s.stop) c.self.view_is c.self.invariant.1)

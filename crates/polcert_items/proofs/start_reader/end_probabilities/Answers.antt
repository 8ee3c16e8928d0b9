use Rattle.std.proofs.Common.{◌∙◌, sym, ap, sum}
use Rattle.polcert_items.proofs.Common.{Start}
use Rattle.polcert_items.proofs.StartNumbers.{shares_end}
use Rattle.polcert_items.proofs.StartSeen.{end_kind}
use Rattle.polcert_items.proofs.start_reader.end_probabilities.Goals as goal

pub returns-in-Some-clause-reason : goal.returns-in-Some-clause-reason
returns-in-Some-clause-reason c = λ body. end_kind c.in-Some.fault (c.in-Some.ensures.reason Start)

pub returns-clause-said : goal.returns-clause-said
returns-clause-said c = λ states.
    shares_end states c.args.numbers c.in_ok-shares_of.field-0 c.in_default.ensures.full
    (ap sum (sym c.as_slice.ensures) ∙ sym c.sum_of.ensures ∙ c.if-sum_of-ne-ONE.false) c.in_ok-shares_of.ensures

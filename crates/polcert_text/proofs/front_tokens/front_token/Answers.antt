use Rattle.std.proofs.Common.{arith}
use Rattle.polcert_text.proofs.Common.{take_rest}
use Rattle.polcert_text.proofs.Taken.BeginLaws.{word_begins}
use Rattle.polcert_text.proofs.front_tokens.front_token.Goals as goal

pub returns-in-Some : goal.returns-in-Some
returns-in-Some c = λ place.
    let bs = c.args.bytes.now in
    let gap = c.near_gap-start.result in
    word_begins place bs gap c.in-Some.front _ (take_rest bs gap) c.near_gap-start.ensures.gap c.in-Some.ensures.ends c.in-Some.ensures.word
    (omega arith)

use Rattle.std.proofs.Common.{rules}
use Rattle.polcert_text.proofs.Taken.BeginLaws.{if_some_map, numeral_begins, sign_begins}
use Rattle.polcert_text.proofs.front_tokens.number_at.Goals as goal

pub returns-in-None : goal.returns-in-None
returns-in-None c = search (rules, if_some_map, numeral_begins)

pub returns-in-Some : goal.returns-in-Some
returns-in-Some c =
    if_some_map c.number_from-in-Some.result _ _ (λ found v place. sign_begins place c.args.bytes.now c.args.start found
    c.requires.gap c.in-Some.is_negative c.in-Some.ensures v) c.number_from-in-Some.ensures

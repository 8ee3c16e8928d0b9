use Rattle.std.proofs.Common.{sym, subst}
use Rattle.polcert_items.proofs.AheadLaws.{if_ok_map}
use Rattle.polcert_model.proofs.Common.{TakesAhead, IsTextRead, TextReadsOn}
use Rattle.polcert_text.proofs.Taken.TakenAhead.{takes_none}
use Rattle.polcert_model.proofs.ReadingAhead.{item_ahead, within_item, same_item}
use Rattle.polcert_model.proofs.reader.TextReader.feed_item_ahead.Goals as goal

pub returns-in_default-clause-read : goal.returns-in_default-clause-read
returns-in_default-clause-read c = takes_none (λ (_ : Unit {0}). IsTextRead) _ _

pub returns-clause-read : goal.returns-clause-read
returns-clause-read c =
    let r = c.args.self.now in
    let new = within_item _ _ _ in
    if_ok_map _ _ _ (λ count fed. subst (λ o. TakesAhead (TextReadsOn o new) c.args.bytes.now count)
    (sym (same_item r c.in-Some.item c.in-Some.is)) (item_ahead r.known _ _ _ _
    _ fed)) c.feed_ahead.ensures

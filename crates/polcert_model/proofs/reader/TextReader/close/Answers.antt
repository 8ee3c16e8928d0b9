use Rattle.std.proofs.Common.{subst}
use Rattle.polcert_model.proofs.Common.{Refuses}
use Rattle.polcert_model.proofs.TextReading.{none_open, open_within, said_may_be_learned, item_ended, item_too_much, item_not_ended}
use Rattle.polcert_model.proofs.TextReading.{item_not_ended_before}
use Rattle.polcert_model.proofs.reader.TextReader.close.Goals as goal

pub returns-in_default-clause-items : goal.returns-in_default-clause-items
returns-in_default-clause-items c = λ seen read. none_open seen _ _ read (cc) c.take.ensures.after

pub end-requires : goal.end-requires
end-requires c = open_within _ _ _ c.requires.1 (cc)

pub add_item-requires-clause-next : goal.add_item-requires-clause-next
add_item-requires-clause-next c =
    said_may_be_learned _ _ _ _ c.requires.1 (cc)
    c.in-Ok.ensures.said c.in-Ok.ensures.topic

pub returns-in-Ok-add_item-clause-items : goal.returns-in-Ok-add_item-clause-items
returns-in-Ok-add_item-clause-items c = λ seen read.
    let r = c.args.self.now in
    item_ended seen r _ _ _ _ read (cc)
    c.take.ensures.after
    c.in-Ok.ensures.said c.in-Ok-add_item.ensures.ok c.in-Ok-add_item.ensures.few

pub returns-in-Err-TooManyCells-clause-items : goal.returns-in-Err-TooManyCells-clause-items
returns-in-Err-TooManyCells-clause-items c = λ seen read text ts tokens ends.
    let r = c.args.self.now in
    subst (Refuses ts) (cc)
    (item_too_much seen r _ _ _ read (cc) c.in-Ok.ensures.said
    (c.in-Err-TooManyCells.ensures.many (cc)) text ts tokens ends)

pub returns-in-Err-AtEnd-clause-items : goal.returns-in-Err-AtEnd-clause-items
returns-in-Err-AtEnd-clause-items c = λ seen read text ts tokens ends.
    let r = c.args.self.now in
    let refused = rw c.in-Err-AtEnd.field-0-is at c.in-Err-AtEnd.ensures.refused in
    let reason = rw c.in-Err-AtEnd.field-0-is at c.in-Err-AtEnd.ensures.reason in
    let kinds = rw c.in-Err-AtEnd.field-0-is at c.in-Err-AtEnd.ensures.kind in
    let unheld = rw c.in-Err-AtEnd.field-0-is at c.in-Err-AtEnd.ensures.unheld in
    let undue = rw c.in-Err-AtEnd.field-0-is at c.in-Err-AtEnd.ensures.late in
    subst (Refuses ts) (cc)
    (item_not_ended seen r _ _ _ read (cc) refused reason
    kinds unheld undue text ts tokens ends)

pub returns-in-Err-At-clause-items : goal.returns-in-Err-At-clause-items
returns-in-Err-At-clause-items c = λ seen read text ts tokens ends.
    let r = c.args.self.now in
    let f = c.in-Err-At.refusal in
    let refused = rw c.in-Err-At.field-0-is at c.in-Err-At.ensures.refused in
    let reason = rw c.in-Err-At.field-0-is at c.in-Err-At.ensures.reason in
    let due = rw c.in-Err-At.field-0-is at c.in-Err-At.ensures.late in
    subst (Refuses ts) (cc)
    (item_not_ended_before seen r _ _ _ _ read (cc) refused reason
    due text ts tokens ends)

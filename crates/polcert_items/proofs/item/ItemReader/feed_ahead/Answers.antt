use Rattle.std.proofs.Common.{refl}
use Rattle.polcert_items.specs.Steps.Ahead.{entry}
use Rattle.polcert_items.proofs.AheadLaws.{if_ok_map}
use Rattle.polcert_items.proofs.item.ItemReader.feed_ahead.Goals as goal

pub returns-in-Entry : goal.returns-in-Entry
returns-in-Entry c =
    if_ok_map c.feed_ahead.result _ _ (λ count fed. entry c.in-Entry.reader c.feed_ahead.new.self c.in-Entry.is refl fed)
    c.feed_ahead.ensures

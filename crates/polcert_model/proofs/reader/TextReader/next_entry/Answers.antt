use Rattle.std.proofs.Common.{refl}
use Rattle.polcert_items.specs.declared.item.ItemReader.TheVariants.{Entry}
use Rattle.polcert_items.specs.declared.item.ItemContents.TheVariants as says
use Rattle.polcert_model.proofs.TextReading.{said_may_be_learned}
use Rattle.polcert_model.proofs.ReadingAhead.{next_begun}
use Rattle.polcert_model.proofs.reader.TextReader.next_entry.Goals as goal

pub next_entry-requires : goal.next_entry-requires
next_entry-requires c = λ a e is goes. said_may_be_learned _ _ (Entry a) (says.Entry e) c.requires.read.1 (cc) (e, (goes, refl)) tt

pub returns-then-branch-clause-read : goal.returns-then-branch-clause-read
returns-then-branch-clause-read c = λ yes seen word read about. next_begun seen _ _ _ _ _ word read c.in-Some.is
    (c.in_ok-next_entry.ensures.next c.if-branch.true) about

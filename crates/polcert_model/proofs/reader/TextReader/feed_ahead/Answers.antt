use Rattle.std.proofs.Common.{arith}
use Rattle.std.proofs.lemmas.List.{take_rest}
use Rattle.polcert_model.proofs.ReadingAhead.{text_more, text_read}
use Rattle.polcert_model.proofs.reader.TextReader.feed_ahead.Goals as goal

pub loop-word-init : goal.loop-word-init
loop-word-init c = record {
  few = omega arith;
  high = c.in_ok-at.ensures.read.within;
  taken = c.in_ok-at.ensures.read;
}

pub begin_ahead-requires-clause-read : goal.begin_ahead-requires-clause-read
begin_ahead-requires-clause-read c = text_read _ _ _ _ c.loop-word.invariant.taken c.requires.read

pub returns-then-word-eq0-clause-read : goal.returns-then-word-eq0-clause-read
returns-then-word-eq0-clause-read c =
    let bs = c.args.bytes.now in
    text_more _ _ _ bs _ _ _ (take_rest bs _)
    c.loop-word.invariant.taken c.in_ok-word.ensures.read

pub feed_item_ahead-requires-in-loop-word : goal.feed_item_ahead-requires-in-loop-word
feed_item_ahead-requires-in-loop-word c =
    let bs = c.args.bytes.now in
    let word = text_more _ _ _ bs _ _ _
    (take_rest bs _) c.loop-word.invariant.taken c.in_ok-word.ensures.read in
    text_read _ _ bs _ word c.requires.read

pub loop-word-preserved : goal.loop-word-preserved
loop-word-preserved c =
    let bs = c.args.bytes.now in
    let at = c.loop-word.at in
    let word = text_more _ _ _ bs _ at c.in_ok-word.word (take_rest bs at)
    c.loop-word.invariant.taken c.in_ok-word.ensures.read in
    let more = text_more _ _ _ bs _ _
    _ (take_rest bs _) word c.in_ok-more.ensures.read in
    record {
      few = omega (arith, c.loop-word.invariant.few, c.in_ok-word.ensures.number);
      high = more.within;
      taken = more;
    }

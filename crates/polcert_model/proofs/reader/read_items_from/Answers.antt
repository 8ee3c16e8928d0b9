use Rattle.std.proofs.Common.{◌∙◌, [], refl, ap, arith, Ok, Err}
use Rattle.polcert_text.proofs.Streams.ReadTexts.{value_read, text_refused, read_failed}
use Rattle.polcert_text.proofs.Streams.StreamTaken.{none_taken, token_taken, place_grows, place_within}
use Rattle.polcert_text.proofs.Taken.TakenAhead.{all_passed}
use Rattle.polcert_items.proofs.TokenTexts.{token_is_text}
use Rattle.polcert_model.proofs.ModelStreams.{refused_at_token, refused_tokens, read_at_end, refused_at_end}
use Rattle.polcert_model.proofs.reader.read_items_from.Goals as goal

pub loop-token-init : goal.loop-token-init
loop-token-init g c =
    let none = c.requires.first in
    record {
      seen = ([], none_taken _ _ _ _ _ c.new-tokens.ensures.fresh c.new-tokens.ensures.text, c.requires.none);
      few = omega arith;
    }

pub take-requires-clause-few : goal.take-requires-clause-few
take-requires-clause-few g c =
    let within = place_within _ _ _ _ _ _ _ c.loop-token.invariant.seen.1 in
    omega arith

pub finish-requires-clause-few : goal.finish-requires-clause-few
finish-requires-clause-few g c =
    let within = place_within _ _ _ _ _ _ _ c.loop-token.invariant.seen.1 in
    omega arith

pub take-requires-clause-text : goal.take-requires-clause-text
take-requires-clause-text g c =
    let gives = rw (c.in-Ok-Some.is ∙ ap Ok c.in-Ok-Some.field-0-is) at c.next_token.follows.holds-at-none.answers in
    token_is_text _ _ _ (gives.0.next [] (λ _. refl))

pub loop-token-preserved : goal.loop-token-preserved
loop-token-preserved g c =
    let was = c.loop-token.invariant.seen in
    let new = c.next_token.follows.lender-at-none in
    let gives = rw (c.in-Ok-Some.is ∙ ap Ok c.in-Ok-Some.field-0-is) at c.next_token.follows.holds-at-none.answers in
    let grows =
    place_grows c.loop-token.tokens.ahead _ gives.0.given _ gives.0.next in
    let taken = token_taken _ _ _ _ _ _ _ _ new _
    was.1 gives.0 gives.2 in
    let ahead = c.in_default-read_ahead.ensures.read in
    let more = c.in_default.ensures.number in
    let same = c.in_default-read_ahead.ensures.number in
    let few = c.loop-token.invariant.few in
    record {
      seen = (
        _,
        all_passed _ _ _ _ _ _ _ _ taken ahead,
        ahead.reads_on tt _ (c.in_default.ensures.read _ was.2),
      );
      few = omega arith;
    }

pub loop-token-smaller : goal.loop-token-smaller
loop-token-smaller g c =
    let was = c.loop-token.invariant.seen in
    let new = c.next_token.follows.lender-at-none in
    let gives = rw (c.in-Ok-Some.is ∙ ap Ok c.in-Ok-Some.field-0-is) at c.next_token.follows.holds-at-none.answers in
    let grows =
    place_grows c.loop-token.tokens.ahead _ gives.0.given _ gives.0.next in
    let taken = token_taken _ _ _ _ _ _ _ _ new _
    was.1 gives.0 gives.2 in
    let ahead = c.in_default-read_ahead.ensures.read in
    let place = ap (λ s. s.ahead.place) ahead.tokens_are in
    omega (
      arith,
      grows,
      place,
      place_within _ _ _ _ _ c.read_ahead.new.tokens c.next_token.new.source
          (all_passed _ _ _ _ _ _ _ _ taken ahead),
    )

pub read_ahead-requires-clause-few : goal.read_ahead-requires-clause-few
read_ahead-requires-clause-few g c =
    let within = place_within _ _ _ _ _ _ _ c.loop-token.invariant.seen.1 in
    omega arith

pub read_ahead-requires-clause-read : goal.read_ahead-requires-clause-read
read_ahead-requires-clause-read g c =
    let was = c.loop-token.invariant.seen in
    (_, c.in_default.ensures.read _ was.2)

pub returns-in-Err-read_ahead : goal.returns-in-Err-read_ahead
returns-in-Err-read_ahead g c =
    let was = c.loop-token.invariant.seen in
    let new = c.next_token.follows.lender-at-none in
    let gives = rw (c.in-Ok-Some.is ∙ ap Ok c.in-Ok-Some.field-0-is) at c.next_token.follows.holds-at-none.answers in
    let taken = token_taken _ _ _ _ _ _ _ _ new _
    was.1 gives.0 gives.2 in
    rw c.in-Err-read_ahead.ensures.refused (record {
      read = text_refused _ (refused_at_token _ _ _ _ new _ _ taken _) taken.same_count;
    })

pub returns-in-Err : goal.returns-in-Err
returns-in-Err g c =
    let was = c.loop-token.invariant.seen in
    let new = c.next_token.follows.lender-at-none in
    let gives = rw (c.in-Ok-Some.is ∙ ap Ok c.in-Ok-Some.field-0-is) at c.next_token.follows.holds-at-none.answers in
    let taken = token_taken _ _ _ _ _ _ _ _ new _
    was.1 gives.0 gives.2 in
    record {
      read = text_refused _ (refused_at_token _ _ _ _ new _ _ taken (c.in-Err.ensures.read _ was.2)) taken.same_count;
    }

pub returns-in-Ok : goal.returns-in-Ok
returns-in-Ok g c =
    let was = c.loop-token.invariant.seen in
    let gives = rw (c.in-Ok-None.is ∙ ap Ok c.in-Ok-None.field-0-is) at c.next_token.follows.holds-at-none.answers in
    record {
      read = value_read _ (read_at_end _ _ _ _ _ _ _ _ _ was.1 gives.0 (c.in-Ok.ensures _ was.2)) (cc);
    }

pub returns-in-Err-finish : goal.returns-in-Err-finish
returns-in-Err-finish g c =
    let was = c.loop-token.invariant.seen in
    let gives = rw (c.in-Ok-None.is ∙ ap Ok c.in-Ok-None.field-0-is) at c.next_token.follows.holds-at-none.answers in
    record {
      read = text_refused _ (refused_at_end _ _ _ _ _ _ _ _ _ _ was.1 gives.0 c.place.ensures (c.in-Err-finish.ensures _ was.2)) (cc);
    }

pub returns-in-Err-Token : goal.returns-in-Err-Token
returns-in-Err-Token g c =
    let named = rw c.in-Err-Token.field-0-is at c.token_fault.ensures in
    let was = c.loop-token.invariant.seen in
    let new = c.next_token.follows.lender-at-none in
    let gives = rw (c.in-Err-Token.is ∙ ap Err c.in-Err-Token.field-0-is) at c.next_token.follows.holds-at-none.answers in
    rw named (record {
      read = text_refused _ (refused_tokens _ _ _ _ _ _ _ _ _ _ was.2 was.1 gives.0) (cc);
    })

pub returns-in-Err-Device : goal.returns-in-Err-Device
returns-in-Err-Device g c =
    let was = c.loop-token.invariant.seen in
    let fails = rw (c.in-Err-Device.is ∙ ap Err c.in-Err-Device.field-0-is) at c.next_token.follows.holds-at-none.answers in
    record { read = read_failed _ _ _ _ was.1 (fails.0 was.1.continues) }

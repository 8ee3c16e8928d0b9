use Rattle.std.proofs.Common.{◌∙◌, ◌++◌, ◌∷◌, [], ap, sym, Ok, Err}
use Rattle.polcert_policy.proofs.Common.{lexeme_of}
use Rattle.polcert_text.proofs.Streams.ReadTexts.{read_failed}
use Rattle.polcert_text.proofs.Streams.StreamTaken.{none_taken, token_taken}
use Rattle.polcert_policy.specs.Steps.PointsRead.{so_far}
use Rattle.polcert_policy.specs.declared.fault.PointFault.TheVariants as faults
use Rattle.polcert_policy.proofs.SourceTexts.{less_left_token, refused_at_token, refused_at_fault, read_at_end, refused_at_end}
use Rattle.polcert_policy.proofs.PointLaws.{one_more}
use Rattle.polcert_policy.proofs.PointTextLaws.{token_refusal, end_refusal, refused_text, points_text, takes_at, takes_all_back, points_at}
use Rattle.polcert_policy.proofs.PointTextLaws.{end_at, end_place, wrong_at}
use Rattle.polcert_policy.proofs.point_reader.read_points_from.Goals as goal

pub loop-token-init : goal.loop-token-init
loop-token-init g c = record {
  seen = (
    [],
    none_taken _ _ _ _ c.new-tokens.result c.new-tokens.ensures.fresh c.new-tokens.ensures.text,
    sym
        c.new-reading.ensures.nothing,
  );
  shape = c.new-reading.ensures.shape;
}

pub loop-token-preserved : goal.loop-token-preserved
loop-token-preserved g c =
    let was = c.loop-token.invariant.seen in
    let shape = c.loop-token.invariant.shape in
    let after = c.in_default.ensures.shape in
    let new = c.next_token.follows.lender-at-none in
    let gives = rw (c.in-Ok-Some.is ∙ ap Ok c.in-Ok-Some.field-0-is) at c.next_token.follows.holds-at-none.answers in
    let taken = token_taken _ _ _ _ was.0 c.loop-token.tokens c.loop-token.source (lexeme_of c.in-Ok-Some.token) new
    c.next_token.new.source
    was.1 gives.0 gives.2 in
    record {
      seen = (
        was.0 ++ lexeme_of c.in-Ok-Some.token ∷ [],
        taken,
        one_more _ _ _ _ _ _ was.0 (lexeme_of c.in-Ok-Some.token) was.2
            (takes_at _ _ _ _ _ _ shape.0 shape.1 shape.2 _ _ _ c.in_default.ensures.takes),
      );
      shape = (after.0 ∙ shape.0, after.1 ∙ shape.1, after.2 ∙ shape.2);
    }

pub loop-token-smaller : goal.loop-token-smaller
loop-token-smaller g c =
    let gives = rw (c.in-Ok-Some.is ∙ ap Ok c.in-Ok-Some.field-0-is) at c.next_token.follows.holds-at-none.answers in
    less_left_token _ _ _ c.loop-token.invariant.seen.0 _ _ _ c.next_token.follows.lender-at-none _ c.loop-token.invariant.seen.1 gives.0
    gives.2

pub returns-in-Err : goal.returns-in-Err
returns-in-Err g c =
    let was = c.loop-token.invariant.seen in
    let shape = c.loop-token.invariant.shape in
    let gives = rw (c.in-Ok-Some.is ∙ ap Ok c.in-Ok-Some.field-0-is) at c.next_token.follows.holds-at-none.answers in
    record {
      read = refused_at_token was.0 was.1 _ _ _ c.next_token.follows.lender-at-none gives.0 gives.2 (λ text rest t.
          refused_text _ _ _ text c.requires.some_states c.requires.some_actions c.requires.some_observations _
          (token_refusal _ _ _ text was.0 _ rest _ t was.2 _ (wrong_at _ _ _ _ _ _ shape.0 shape.1 shape.2 _ _ _
          c.in-Err.ensures.takes)));
    }

pub returns-in-Ok : goal.returns-in-Ok
returns-in-Ok g c =
    let was = c.loop-token.invariant.seen in
    let shape = c.loop-token.invariant.shape in
    let gives = rw (c.in-Ok-None.is ∙ ap Ok c.in-Ok-None.field-0-is) at c.next_token.follows.holds-at-none.answers in
    let back = takes_all_back _ _ _ _ _ _ shape.0 shape.1 shape.2 _ _ _ was.2 in
    record {
      read = read_at_end was.0 was.1 _ _ gives.0 c.in-Ok.points
          (λ text cut place. points_text _ _ _ text c.requires.some_states c.requires.some_actions c.requires.some_observations
          c.in-Ok.points
          was.0 cut (points_at _ _ _ _ _ _ shape.0 shape.1 shape.2 was.0 c.in-Ok.points (c.in-Ok.ensures was.0 back)));
    }

pub returns-in-Err-finish : goal.returns-in-Err-finish
returns-in-Err-finish g c =
    let was = c.loop-token.invariant.seen in
    let shape = c.loop-token.invariant.shape in
    let gives = rw (c.in-Ok-None.is ∙ ap Ok c.in-Ok-None.field-0-is) at c.next_token.follows.holds-at-none.answers in
    let back = takes_all_back _ _ _ _ _ _ shape.0 shape.1 shape.2 _ _ _ was.2 in
    record {
      read = refused_at_end was.0 was.1 _ _ gives.0 _ (λ text cut place.
          refused_text _ _ _ text c.requires.some_states c.requires.some_actions c.requires.some_observations _
          (end_refusal _ _ _ text was.0 _ cut (end_place _ _ _ was.0 _ _ _ (c.place.ensures ∙ place)
          (end_at _ _ _ _ _ _ shape.0 shape.1 shape.2 was.0 _ _ (c.in-Err-finish.ensures was.0 back)))));
    }

pub finish-requires : goal.finish-requires
finish-requires g c =
    let was = c.loop-token.invariant.seen in
    let shape = c.loop-token.invariant.shape in
    (was.0, takes_all_back _ _ _ _ _ _ shape.0 shape.1 shape.2 _ _ _ was.2)

pub returns-in-Err-Token : goal.returns-in-Err-Token
returns-in-Err-Token g c =
    let was = c.loop-token.invariant.seen in
    let gives = rw (c.in-Err-Token.is ∙ ap Err c.in-Err-Token.field-0-is) at c.next_token.follows.holds-at-none.answers in
    record {
      read = refused_at_fault was.0 was.1 _ (faults.Token c.in-Err-Token.fault) _ c.next_token.follows.lender-at-none.ahead gives.0
          (λ text cut. refused_text _ _ _ text c.requires.some_states c.requires.some_actions c.requires.some_observations _
          (was.0, cut, (so_far c.loop-token.reading, was.2)));
    }

pub returns-in-Err-Device : goal.returns-in-Err-Device
returns-in-Err-Device g c =
    let was = c.loop-token.invariant.seen in
    let failed = rw (c.in-Err-Device.is ∙ ap Err c.in-Err-Device.field-0-is) at c.next_token.follows.holds-at-none.answers in
    record { read = read_failed _ was.0 _ _ was.1 (failed.0 was.1.continues) }

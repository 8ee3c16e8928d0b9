use Rattle.std.proofs.Common.{◌∙◌, ◌++◌, ◌∷◌, [], ap, subst, Ok, Err, arith}
use Rattle.polcert_policy.proofs.Common.{lexeme_of, IsRoundedVectors, ArePossible}
use Rattle.polcert_text.proofs.Streams.ReadTexts.{read_failed}
use Rattle.polcert_text.proofs.Streams.StreamTaken.{none_taken, token_taken}
use Rattle.polcert_text.proofs.Taken.TakenAhead.{all_passed}
use Rattle.polcert_policy.specs.declared.fault.VectorFault.TheVariants as faults
use Rattle.polcert_policy.proofs.VectorReadLaws.{possible_seen}
use Rattle.polcert_policy.proofs.SourceTexts.{less_left, refused_at_token, refused_at_fault, read_at_end, refused_at_end}
use Rattle.polcert_policy.proofs.FlatVectors.{vectors_text}
use Rattle.polcert_policy.proofs.VectorTextLaws.{part_refusal, refused_text, end_refused}
use Rattle.polcert_policy.proofs.vectors.read_rounded_vectors_from.Goals as goal

pub loop-token-init : goal.loop-token-init
loop-token-init g c = record {
  seen = (
    [],
    none_taken _ _ _ _ c.new-tokens.result c.new-tokens.ensures.fresh c.new-tokens.ensures.text,
    c.new-reading.ensures.read c.args.rounding c.args.graph.now c.nodes-nodes.ensures.proper,
  );
  states = c.new-reading.ensures.states;
}

pub loop-token-preserved : goal.loop-token-preserved
loop-token-preserved g c =
    let was = c.loop-token.invariant.seen in
    let new = c.next_token.follows.lender-at-none in
    let gives = rw (c.in-Ok-Some.is ∙ ap Ok c.in-Ok-Some.field-0-is) at c.next_token.follows.holds-at-none.answers in
    let taken = token_taken _ _ _ _ was.0 c.loop-token.tokens c.loop-token.source (lexeme_of c.in-Ok-Some.token) new c.next_token.new.source
    was.1 gives.0 gives.2 in
    let ahead = c.in_default-read_values_ahead.ensures.read in
    record {
      seen = (
        (was.0 ++ lexeme_of c.in-Ok-Some.token ∷ []) ++ ahead.ts,
        all_passed _ _ _ _ _ _ _ _ taken ahead,
        ahead.reads_on _ _ (c.in_default.ensures.takes was.0 was.2),
      );
      states = c.in_default-read_values_ahead.ensures.states ∙ c.in_default.ensures.states ∙ c.loop-token.invariant.states;
    }

pub loop-token-smaller : goal.loop-token-smaller
loop-token-smaller g c =
    let gives = rw (c.in-Ok-Some.is ∙ ap Ok c.in-Ok-Some.field-0-is) at c.next_token.follows.holds-at-none.answers in
    less_left _ _ _ c.loop-token.invariant.seen.0 _ _ _ c.next_token.follows.lender-at-none _ c.loop-token.invariant.seen.1 gives.0 gives.2
    c.in_default-read_values_ahead.ensures.read

pub returns-in-Err-read_values_ahead : goal.returns-in-Err-read_values_ahead
returns-in-Err-read_values_ahead g c =
    let gives = rw (c.in-Ok-Some.is ∙ ap Ok c.in-Ok-Some.field-0-is) at c.next_token.follows.holds-at-none.answers in
    record {
      read = refused_at_token c.loop-token.invariant.seen.0 c.loop-token.invariant.seen.1 _ faults.Memory _
          c.next_token.follows.lender-at-none gives.0 gives.2 (λ text rest t. refused_text _ _ _ text faults.Memory tt);
    }

pub returns-in-Err : goal.returns-in-Err
returns-in-Err g c = let seen = c.loop-token.invariant.seen in let gives =
    rw (c.in-Ok-Some.is ∙ ap Ok c.in-Ok-Some.field-0-is) at c.next_token.follows.holds-at-none.answers in
    record {
      read = refused_at_token seen.0 seen.1 _ _ _ c.next_token.follows.lender-at-none gives.0 gives.2 (λ text rest t.
          refused_text _ _ _ text _ (part_refusal _ _ _ _ text _ rest _ c.loop-token.invariant.states t
          (c.in-Err.ensures.takes seen.0 seen.2)));
    }

pub returns-in-Ok : goal.returns-in-Ok
returns-in-Ok g c =
    let was = c.loop-token.invariant.seen in
    let gives = rw (c.in-Ok-None.is ∙ ap Ok c.in-Ok-None.field-0-is) at c.next_token.follows.holds-at-none.answers in
    record {
      read = read_at_end was.0 was.1 _ _ gives.0 c.in-Ok.vectors
          (λ text cut place. vectors_text c.args.rounding c.args.graph.now c.args.states text c.in-Ok.vectors was.0 cut
          (subst (λ o. IsRoundedVectors c.args.rounding c.args.graph.now o was.0 c.in-Ok.vectors) c.loop-token.invariant.states
          (c.in-Ok.ensures c.args.rounding was.0 was.2)));
    }

pub returns-in-Err-finish : goal.returns-in-Err-finish
returns-in-Err-finish g c = let seen = c.loop-token.invariant.seen in let gives =
    rw (c.in-Ok-None.is ∙ ap Ok c.in-Ok-None.field-0-is) at c.next_token.follows.holds-at-none.answers in
    record {
      read = refused_at_end seen.0 seen.1 _ _ gives.0 _ (λ text cut place.
          end_refused _ _ _ _ text seen.0 _ _ c.loop-token.invariant.states cut (c.place.ensures ∙ place)
          (c.in-Err-finish.ensures _ seen.0 seen.2));
    }

pub returns-in-Err-Token : goal.returns-in-Err-Token
returns-in-Err-Token g c =
    let was = c.loop-token.invariant.seen in
    let r = c.loop-token.reading in
    let possible = subst (λ o. ArePossible c.args.rounding c.args.graph.now o was.0) c.loop-token.invariant.states
    (possible_seen c.args.graph.now was.0 r r.some_states was.2) in
    let gives = rw (c.in-Err-Token.is ∙ ap Err c.in-Err-Token.field-0-is) at c.next_token.follows.holds-at-none.answers in
    rw c.in-Err-Token.field-0-is (record {
      read = refused_at_fault was.0 was.1 _ (faults.Token c.in-Err-Token.fault) _
          c.next_token.follows.lender-at-none.ahead gives.0 (λ text cut. refused_text c.args.rounding _ _ text _ (was.0, cut, possible));
    })

pub returns-in-Err-Device : goal.returns-in-Err-Device
returns-in-Err-Device g c = grind (arith, read_failed)

use Rattle.std.proofs.Common.{◌∙◌, ◌++◌, ◌∷◌, [], ap, Ok, Err, arith}
use Rattle.std.proofs.Math.Path.{subst₂}
use Rattle.polcert_policy.proofs.Common.{lexeme_of, IsGraph}
use Rattle.polcert_text.proofs.Streams.ReadTexts.{read_failed}
use Rattle.polcert_text.proofs.Streams.StreamTaken.{none_taken, token_taken}
use Rattle.polcert_text.proofs.Taken.TakenAhead.{all_passed}
use Rattle.polcert_policy.specs.declared.fault.GraphFault.TheVariants as faults
use Rattle.polcert_policy.proofs.ReadLaws.{possible_read}
use Rattle.polcert_policy.proofs.SourceTexts.{less_left, refused_at_token, refused_at_fault, read_at_end, refused_at_end}
use Rattle.polcert_policy.proofs.FlatGraphs.{graph_text}
use Rattle.polcert_policy.proofs.TextLaws.{token_refusal, refused_text, end_refused, possible_at}
use Rattle.polcert_policy.proofs.graph.read_graph_from.Goals as goal

pub loop-token-init : goal.loop-token-init
loop-token-init g c = grind (arith, none_taken)

pub loop-token-preserved : goal.loop-token-preserved
loop-token-preserved g c =
    let was = c.loop-token.invariant.seen in
    let counts = c.in_default.ensures.counts in
    let after = c.in_default-read_successors_ahead.ensures.counts in
    let new = c.next_token.follows.lender-at-none in
    let gives = rw (c.in-Ok-Some.is ∙ ap Ok c.in-Ok-Some.field-0-is) at c.next_token.follows.holds-at-none.answers in
    let taken = token_taken _ _ _ _ was.0 c.loop-token.tokens c.loop-token.source (lexeme_of c.in-Ok-Some.token) new c.next_token.new.source
    was.1 gives.0 gives.2 in
    let ahead = c.in_default-read_successors_ahead.ensures.read in
    record {
      seen = (
        (was.0 ++ lexeme_of c.in-Ok-Some.token ∷ []) ++ ahead.ts,
        all_passed _ _ _ _ _ _ _ _ taken ahead,
        ahead.reads_on tt _ (c.in_default.ensures.read was.0 was.2),
      );
      counts = (after.0 ∙ counts.0 ∙ c.loop-token.invariant.counts.0, after.1 ∙ counts.1 ∙ c.loop-token.invariant.counts.1);
    }

pub loop-token-smaller : goal.loop-token-smaller
loop-token-smaller g c =
    let gives = rw (c.in-Ok-Some.is ∙ ap Ok c.in-Ok-Some.field-0-is) at c.next_token.follows.holds-at-none.answers in
    less_left _ _ _ c.loop-token.invariant.seen.0 _ _ _ c.next_token.follows.lender-at-none _ c.loop-token.invariant.seen.1 gives.0 gives.2
    c.in_default-read_successors_ahead.ensures.read

pub returns-in-Err-read_successors_ahead : goal.returns-in-Err-read_successors_ahead
returns-in-Err-read_successors_ahead g c =
    let gives = rw (c.in-Ok-Some.is ∙ ap Ok c.in-Ok-Some.field-0-is) at c.next_token.follows.holds-at-none.answers in
    record {
      read = refused_at_token c.loop-token.invariant.seen.0 c.loop-token.invariant.seen.1 _ faults.Memory _
          c.next_token.follows.lender-at-none gives.0 gives.2 (λ text rest t. refused_text _ _ text faults.Memory tt);
    }

pub returns-in-Err : goal.returns-in-Err
returns-in-Err g c = let seen = c.loop-token.invariant.seen in let gives =
    rw (c.in-Ok-Some.is ∙ ap Ok c.in-Ok-Some.field-0-is) at c.next_token.follows.holds-at-none.answers in
    record {
      read = refused_at_token seen.0 seen.1 _ _ _ c.next_token.follows.lender-at-none gives.0 gives.2 (λ text rest t.
          refused_text _ _ text _ (token_refusal _ _ _ _ text _ rest _ c.loop-token.invariant.counts.0 c.loop-token.invariant.counts.1 t
          (c.in-Err.ensures.read seen.0 seen.2)));
    }

pub returns-in-Ok : goal.returns-in-Ok
returns-in-Ok g c =
    let was = c.loop-token.invariant.seen in
    let counts = c.loop-token.invariant.counts in
    let gives = rw (c.in-Ok-None.is ∙ ap Ok c.in-Ok-None.field-0-is) at c.next_token.follows.holds-at-none.answers in
    record {
      read = read_at_end was.0 was.1 _ _ gives.0 c.in-Ok.graph (λ text cut place.
          graph_text c.args.actions c.args.observations text c.in-Ok.graph was.0 cut
          (subst₂ (λ a o. IsGraph a o was.0 c.in-Ok.graph) counts.0 counts.1 (c.in-Ok.ensures was.0 was.2)));
    }

pub returns-in-Err-finish : goal.returns-in-Err-finish
returns-in-Err-finish g c =
    let was = c.loop-token.invariant.seen in
    let gives = rw (c.in-Ok-None.is ∙ ap Ok c.in-Ok-None.field-0-is) at c.next_token.follows.holds-at-none.answers in
    record {
      read = refused_at_end was.0 was.1 _ _ gives.0 _ (λ text cut place.
          end_refused _ _ _ _ text was.0 _ _ c.loop-token.invariant.counts.0 c.loop-token.invariant.counts.1 cut (c.place.ensures ∙ place)
          (c.in-Err-finish.ensures was.0 was.2));
    }

pub returns-in-Err-Token : goal.returns-in-Err-Token
returns-in-Err-Token g c =
    let was = c.loop-token.invariant.seen in
    let counts = c.loop-token.invariant.counts in
    let r = c.loop-token.reading in
    let gives = rw (c.in-Err-Token.is ∙ ap Err c.in-Err-Token.field-0-is) at c.next_token.follows.holds-at-none.answers in
    record {
      read = refused_at_fault was.0 was.1 _ (faults.Token c.in-Err-Token.fault) _ c.next_token.follows.lender-at-none.ahead gives.0
          (λ text cut.
          refused_text _ _ text _ (
            was.0,
            cut,
            possible_at _ _ _ _ was.0 counts.0 counts.1 (possible_read was.0 r r.some_actions r.some_observations was.2.nodes),
          ));
    }

pub returns-in-Err-Device : goal.returns-in-Err-Device
returns-in-Err-Device g c = grind (arith, read_failed)

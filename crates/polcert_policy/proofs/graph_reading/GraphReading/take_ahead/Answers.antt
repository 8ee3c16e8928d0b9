use Rattle.std.proofs.Common.{◌∙◌, ℕ, ◌≤◌, ◌+◌, ◌∷◌, [], length, Some, rules, arith, refl, ap, subst}
use Rattle.polcert_policy.proofs.Common.{take_rest, IsRead}
use Rattle.polcert_text.specs.Beginning.{BeginWithDigits}
use Rattle.polcert_text.proofs.Taken.TakenAhead.{takes_none, takes_more, front_within}
use Rattle.polcert_policy.proofs.GraphAhead.{successor_reads}
use Rattle.polcert_policy.proofs.Places.{fewer_left}
use Rattle.polcert_policy.proofs.graph_reading.GraphReading.take_ahead.Goals as goal

pub returns-then-is_some-clause-takes : goal.returns-then-is_some-clause-takes
returns-then-is_some-clause-takes c = takes_none (λ _. IsRead) c.args.self.now c.args.bytes.now

pub loop-self-init : goal.loop-self-init
loop-self-init c = record {
  minus = search rules;
  counts = (refl, refl);
  takes = takes_none (λ _. IsRead) c.args.self.now c.args.bytes.now;
}

pub overflow_add-at : goal.overflow_add-at
overflow_add-at c =
    let bs = c.args.bytes.now in
    let at = c.loop-self.at in
    let begins = subst (λ xs. (place : ℕ) → BeginWithDigits place xs c.in-Some.front) (take_rest bs at) c.in-Some.ensures in
    let high : at + c.in-Some.front.len ≤ length bs = front_within bs at c.in-Some.front.len c.loop-self.invariant.takes.within
    (begins 0).front.within in
    search rules

pub loop-self-preserved : goal.loop-self-preserved
loop-self-preserved c =
    let bs = c.args.bytes.now in
    let at = c.loop-self.at in
    let r = c.loop-self.self in
    let front = c.in-Some.front in
    let was = c.loop-self.invariant in
    let next = c.advance.ensures in
    let begins = subst (λ xs. (place : ℕ) → BeginWithDigits place xs front) (take_rest bs at) c.in-Some.ensures in
    record {
      minus = next.minus_same ∙ was.minus;
      counts = (next.actions_same ∙ was.counts.0, next.observations_same ∙ was.counts.1);
      takes = takes_more (λ _. IsRead) c.args.self.now r c.advance.new.self bs at front.len was.takes (λ place.
          let digits = begins place in (
            digits.token ∷ [],
            (
              digits.front,
              successor_reads r _ c.advance.new.self digits.token front.value _ c.loop-self-test.true was.minus
                  (next.minus_same ∙ was.minus) refl refl refl refl refl c.in_ok-push.ensures
                  next digits.kind_is digits.digits digits.value (c.of.ensures ∙ ap Some (omega (arith, c.min-node.ensures))),
            ),
          ));
    }

pub loop-self-smaller : goal.loop-self-smaller
loop-self-smaller c = grind (arith, fewer_left)

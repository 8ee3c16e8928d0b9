use Rattle.std.proofs.Common.{◌∙◌, ℕ, ◌≤◌, ◌+◌, length, rules, arith, refl, subst}
use Rattle.std.proofs.lemmas.Int.{to_z-of_z}
use Rattle.polcert_policy.proofs.Common.{take_rest, with_minus, HasReadVectors}
use mir.Syntax.{w64}
use Rattle.polcert_text.specs.FrontValues.{BeginWithValue}
use Rattle.polcert_policy.proofs.VectorEndLaws.{rounded_in_range, in_range_fits}
use Rattle.polcert_text.proofs.Taken.TakenAhead.{takes_none, takes_more, front_within}
use Rattle.polcert_policy.proofs.Places.{fewer_left}
use Rattle.polcert_policy.proofs.VectorsAhead.{value_reads}
use Rattle.polcert_policy.proofs.vectors_reading.VectorsReading.take_ahead.Goals as goal

pub returns-then-is_some-clause-takes : goal.returns-then-is_some-clause-takes
returns-then-is_some-clause-takes c = takes_none (HasReadVectors c.args.rounding) c.args.self.now c.args.bytes.now

pub loop-self-init : goal.loop-self-init
loop-self-init c = record {
  sign = search rules;
  states = refl;
  takes = takes_none (HasReadVectors c.args.rounding) c.args.self.now c.args.bytes.now;
}

pub overflow_add-at : goal.overflow_add-at
overflow_add-at c =
    let bs = c.args.bytes.now in
    let at = c.loop-self.at in
    let begins = subst (λ xs. (place : ℕ) → BeginWithValue c.args.rounding place xs c.in-Some.front) (take_rest bs at) c.in-Some.ensures in
    let high : at + c.in-Some.front.len ≤ length bs = front_within bs at c.in-Some.front.len c.loop-self.invariant.takes.within
    (begins 0).front.within in
    search rules

pub loop-self-preserved : goal.loop-self-preserved
loop-self-preserved c =
    let bs = c.args.bytes.now in
    let at = c.loop-self.at in
    let r = c.loop-self.self in
    let front = c.in-Some.front in
    let was = c.loop-self.invariant in
    let begins = subst (λ xs. (place : ℕ) → BeginWithValue c.args.rounding place xs front) (take_rest bs at) c.in-Some.ensures in
    record {
      sign = c.advance.ensures.sign_same ∙ was.sign;
      states = c.advance.ensures.states_same ∙ was.states;
      takes = takes_more (HasReadVectors c.args.rounding) c.args.self.now r c.advance.new.self bs at front.len was.takes (λ place.
          let value = begins place in
          let fits = in_range_fits front.value (rounded_in_range c.args.rounding _ _ front.value value.readable value.rounded) in
          let pushed = rw (to_z-of_z w64 front.value fits) at c.in_ok-push.ensures in (
            with_minus value.minus value.token,
            (
              value.front,
              value_reads r _ c.advance.new.self value.token front.value c.loop-self-test.true was.sign value.kind_is value.readable refl
                  refl refl was.sign pushed c.advance.ensures value.minus value.minus_is value.rounded,
            ),
          ));
    }

pub loop-self-smaller : goal.loop-self-smaller
loop-self-smaller c = grind (arith, fewer_left)

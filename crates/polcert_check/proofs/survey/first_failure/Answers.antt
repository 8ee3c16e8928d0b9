use Rattle.std.proofs.Common.{rules, arith}
use Rattle.polcert_check.proofs.Walking.Walked.{pair_passed}
use Rattle.polcert_check.proofs.survey.first_failure.Goals as goal

pub pairs-preserved : goal.pairs-preserved
pairs-preserved g c =
    record {
      from = omega (arith, c.pairs.invariant.from);
      within = search rules;
      passed = λ f is. pair_passed _ _ _ f (c.args.node.now.within, c.pairs.invariant.within)
          (rw c.in-Yes.is at c.pair_verdict-verdict.ensures) (c.pairs.invariant.passed f is);
    }

pub returns-then-reward-clause-passed : goal.returns-then-reward-clause-passed
returns-then-reward-clause-passed g c = λ f is. rw c.unknown.ensures.state (c.pairs.invariant.passed f is)

pub returns-then-state-states-clause-passed : goal.returns-then-state-states-clause-passed
returns-then-state-states-clause-passed g c = λ f is.
    rw c.unknown-then-state-states.ensures.state (pair_passed _ _ _ f
    (c.args.node.now.within, c.pairs.invariant.within) (rw c.in-Yes.is at c.pair_verdict-verdict.ensures) (c.pairs.invariant.passed f is))

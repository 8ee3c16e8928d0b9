use Rattle.std.proofs.Common.{refl, arith, subst}
use Rattle.polcert_check.specs.declared.survey.Verdict.{Verdict}
use Rattle.polcert_robust.specs.Steps.Pairs.{IsRobustPair, near_controller, near_table}
use Rattle.polcert_robust.proofs.EndMeans.{both}
use Rattle.polcert_robust.proofs.Backings.{all_before, first_no, next_node, none_before, one_more}
use Rattle.polcert_robust.proofs.walk.first_robust_failure.Goals as goal

pub loop-n-init : goal.loop-n-init
loop-n-init g c = record {
  before = none_before _ _;
  known = c.new-known.ensures _;
}

pub loop-s-init : goal.loop-s-init
loop-s-init g c = record {
  before = c.loop-n.invariant.before;
  kept = record {
    same = λ is. rw c.action-a.ensures.value at c.have_same_rewards-have_rewards.ensures.same (cc);
    each = λ e l is. absurd (both _ is (c.reset.ensures.none e (rw c.states.ensures l)));
  };
  known = c.have_same_rewards-have_rewards.ensures.kept;
}

pub loop-s-preserved : goal.loop-s-preserved
loop-s-preserved g c =
    let i = near_table c.args.input.now in
    let k = near_controller c.args.input.now in
    record {
      before = one_more i k _ _ c.loop-s.invariant.before
          (subst (λ (v : Verdict). IsRobustPair i k c.loop-n.n c.loop-s.s v) (c.if-is_no.ensures.yes refl)
          c.robust_pair_verdict-verdict.ensures.verdict);
      kept = c.robust_pair_verdict-verdict.ensures.kept;
      known = c.constant_reward-constant.ensures.kept;
    }

pub loop-n-preserved : goal.loop-n-preserved
loop-n-preserved g c = record {
  before = next_node _ _ _ _ (omega arith) c.loop-s.invariant.before;
  known = c.loop-s.invariant.known;
}

pub returns-then-is_no : goal.returns-then-is_no
returns-then-is_no g c =
    first_no _ _ _ _ _
    (omega arith) (omega arith)
    c.loop-s.invariant.before c.robust_pair_verdict-verdict.ensures.verdict (c.if-is_no.ensures.no refl)

pub returns : goal.returns
returns g c = all_before _ _ _ (omega arith) c.loop-n.invariant.before

pub invariant_of-pair-clause-constant_everywhere : goal.invariant_of-pair-clause-constant_everywhere
invariant_of-pair-clause-constant_everywhere g c = rw c.action-a.ensures.value at c.constant_reward-constant.ensures.constant

pub invariant_of-pair-clause-listed_ends : goal.invariant_of-pair-clause-listed_ends
invariant_of-pair-clause-listed_ends g c = rw c.action-a.ensures.value at c.list_end_rewards-common.ensures

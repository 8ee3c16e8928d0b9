use Rattle.std.proofs.Common.{arith}
use Rattle.polcert_robust.proofs.EndMeans.{both}
use Rattle.polcert_robust.proofs.Surveying.{lack_noted, node_surveyed, nothing_surveyed}
use Rattle.polcert_robust.proofs.survey.survey_robust.Goals as goal

pub loop-n-init : goal.loop-n-init
loop-n-init g c = record {
  surveyed = nothing_surveyed _ _;
  known = c.new-known.ensures _;
}

pub loop-n-preserved : goal.loop-n-preserved
loop-n-preserved g c = record {
  surveyed = node_surveyed _ _ _ _ _ (omega arith) c.loop-s.invariant.surveyed;
  known = c.loop-s.invariant.known;
}

pub returns-in-Some-clause-refused : goal.returns-in-Some-clause-refused
returns-in-Some-clause-refused g c =
    lack_noted _ _ _ _ _
    (omega arith) (omega arith)
    c.loop-s.invariant.surveyed
    _ _ _
    c.robust_pair_verdict-verdict.ensures.verdict c.in-Some.ensures.some

pub loop-s-init : goal.loop-s-init
loop-s-init g c = record {
  surveyed = c.loop-n.invariant.surveyed;
  kept = record {
    same = λ is. rw c.action-a.ensures.value at c.have_same_rewards-have_rewards.ensures.same (cc);
    each = λ e l is. absurd (both _ is (c.reset.ensures.none e (rw c.states.ensures l)));
  };
  known = c.have_same_rewards-have_rewards.ensures.kept;
}

pub loop-s-preserved : goal.loop-s-preserved
loop-s-preserved g c = record {
  surveyed = c.with_finding-findings.ensures _ _ _ _ (omega arith) (omega arith)
      c.robust_pair_verdict-verdict.ensures.verdict c.in_default.ensures.none c.loop-s.invariant.surveyed;
  kept = c.robust_pair_verdict-verdict.ensures.kept;
  known = c.constant_reward-constant.ensures.kept;
}

pub invariant_of-pair-clause-constant_everywhere : goal.invariant_of-pair-clause-constant_everywhere
invariant_of-pair-clause-constant_everywhere g c = rw c.action-a.ensures.value at c.constant_reward-constant.ensures.constant

pub invariant_of-pair-clause-listed_ends : goal.invariant_of-pair-clause-listed_ends
invariant_of-pair-clause-listed_ends g c = rw c.action-a.ensures.value at c.list_end_rewards-common.ensures

use Rattle.std.proofs.Common.{arith, ◌+◌, ◌∙◌, sym, ap, subst, rules}
use Rattle.polcert_check.proofs.Common.{checked_controller, IsFoundBefore, node_controller, AreEndValues}
use Rattle.polcert_check.proofs.Walking.Walked.{node_done, node_settled}
use Rattle.polcert_check.proofs.survey.survey_node.Goals as goal

pub returns-then-is_settled-clause-found : goal.returns-then-is_settled-clause-found
returns-then-is_settled-clause-found g c = grind (arith, node_settled)

pub pairs-preserved-then-s-states : goal.pairs-preserved-then-s-states
pairs-preserved-then-s-states g c =
    let j = checked_controller c.args.node.now.input in
    let s = c.first_failure-failure.result.state in
    let passed = subst (λ f. IsFoundBefore j (j.action c.args.node.now.n) c.args.node.now.n s f)
    (sym c.verdict_at-verdict.ensures.findings) (c.first_failure-failure.ensures.passed c.pairs.survey.findings c.pairs.invariant.found)
    in
    record {
      prepared = record {
        rewards = c.verdict_at-verdict.ensures.prepared.rewards;
        marks =
            c.verdict_at-verdict.ensures.prepared.marks;
        same = c.verdict_at-verdict.ensures.prepared.same;
      };
      ends = subst (λ ends. AreEndValues (node_controller c.args.node.now) c.args.node.now.n
          (node_controller c.args.node.now).cells.states ends) (sym c.verdict_at-verdict.ensures.ends) c.pairs.invariant.ends;
      found = c.note.ensures.found j s (c.args.node.now.within, omega (arith, c.if-s-states.true, c.states-states.ensures))
          c.verdict_at-verdict.ensures.verdict passed;
      mode = c.note.ensures.mode ∙ ap (λ f. f.mode) c.verdict_at-verdict.ensures.findings ∙ c.pairs.invariant.mode;
    }

pub pairs-preserved : goal.pairs-preserved
pairs-preserved g c = record {
  prepared = c.pairs.invariant.prepared;
  ends = c.pairs.invariant.ends;
  found = c.first_failure-failure.ensures.passed c.pairs.survey.findings c.pairs.invariant.found;
  mode = c.pairs.invariant.mode;
}

pub returns-then-note-clause-found : goal.returns-then-note-clause-found
returns-then-note-clause-found g c =
    let j = checked_controller c.args.node.now.input in
    let s = c.first_failure-failure.result.state in
    let passed = subst (λ f. IsFoundBefore j (j.action c.args.node.now.n) c.args.node.now.n s f)
    (sym c.verdict_at-verdict.ensures.findings) (c.first_failure-failure.ensures.passed c.pairs.survey.findings c.pairs.invariant.found)
    in
    node_settled j c.args.node.now.n (s + 1) c.note.new.self
    (c.note.ensures.found j s (c.args.node.now.within, omega (arith, c.if-s-states.true, c.states-states.ensures))
    c.verdict_at-verdict.ensures.verdict passed) (c.note.ensures.settled c.if-note.true)

pub returns-clause-found : goal.returns-clause-found
returns-clause-found g c = node_done _ _ _ _ _ c.pairs.invariant.found (omega (arith, c.pairs-test.false, c.states-states.ensures))

pub pairs-init : goal.pairs-init
pairs-init g c = search rules

use Rattle.std.proofs.Common.{arith, ◌≡◌, ◌+◌, ◌∙◌, sym, subst}
use Rattle.polcert_check.proofs.Common.{input_controller, checked_controller, IsFoundBefore, IsOfAction}
use Rattle.polcert_check.proofs.Walking.Walked.{node_passed, action_done}
use Rattle.polcert_check.proofs.survey.survey_action.Goals.{then-action-a, else-action-a}
use Rattle.polcert_check.proofs.survey.survey_action.Goals as goal

pub loop-n-preserved : goal.loop-n-preserved
loop-n-preserved g c =
    let k = input_controller c.args.input.now in
    let j = checked_controller c.args.input.now in
    elim c.if-action-a.branch [
      | then-action-a w ↦
          let same : k.action c.loop-n.n ≡ c.args.a = sym c.action.ensures.value ∙ w.if-action-a.true in
          let after = w.survey_node in
          rw w.survey-is (record {
            of_action = subst (λ a. IsOfAction k.cells a after.new.survey) same after.ensures.of_action;
            found = subst (λ a. IsFoundBefore j a (c.loop-n.n + 1) 0 after.new.survey.findings) same after.ensures.found;
            mode = after.ensures.mode ∙ c.loop-n.invariant.mode;
          })
      | else-action-a w ↦
          rw w.survey-is (record {
            of_action = c.loop-n.invariant.of_action;
            found = node_passed j c.args.a c.loop-n.n c.loop-n.survey.findings c.loop-n.invariant.found
                (λ same. w.if-action-a.false (c.action.ensures.value ∙ same));
            mode = c.loop-n.invariant.mode;
          })
    ]

pub returns-clause-found : goal.returns-clause-found
returns-clause-found g c =
    action_done _ _ _ _ c.loop-n.invariant.found
    (omega (arith, c.nodes-n-end.ensures.count))

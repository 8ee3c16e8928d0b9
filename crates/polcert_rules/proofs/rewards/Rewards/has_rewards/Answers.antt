use Rattle.std.proofs.Common.{subst, ap, arith}
use Rattle.polcert_rules.proofs.Common.{HasFront, IsSearchAnswer, RewardRules, RewardShape}
use Rattle.polcert_rules.proofs.RewardLaws.RewardPaid.{unpaid, paid}
use Rattle.polcert_rules.proofs.rewards.Rewards.has_rewards.Goals as goal

pub returns-clause-unpaid : goal.returns-clause-unpaid
returns-clause-unpaid c is_false p entries are end observation =
    unpaid p _ _ _ _ end _ are
    (subst (IsSearchAnswer c.args.self.now.rules (HasFront c.args.action c.args.start)) is_false
    (subst (λ (rewards : RewardRules). IsSearchAnswer rewards.rules (HasFront c.args.action c.args.start) c.have_some.result)
    c.self.view_is (c.have_some.ensures _ _ _ c.fitting.ensures)))

pub returns-clause-paid : goal.returns-clause-paid
returns-clause-paid c is_true p entries are =
    let some = subst (IsSearchAnswer c.args.self.now.rules (HasFront c.args.action c.args.start)) is_true
    (subst (λ (rewards : RewardRules). IsSearchAnswer rewards.rules (HasFront c.args.action c.args.start) c.have_some.result)
    c.self.view_is (c.have_some.ensures _ _ _ c.fitting.ensures)) in
    let shapes = ap (λ (rewards : RewardRules). rewards.shape) c.self.view_is in
    let actions = ap (λ (shape : RewardShape). shape.actions) shapes in
    let states = ap (λ (shape : RewardShape). shape.states) shapes in
    let few = c.self.invariant.shape in
    paid p _ _ _ _ _ are (omega (arith, c.requires.action, few.actions))
    (omega (arith, c.requires.start, few.states)) some.1 some.2

use Rattle.std.proofs.Common.{arith}
use Rattle.polcert_full_form.proofs.Common.{meaning}
use Rattle.polcert_full_form.proofs.Printing.WrittenParts.{wrote_nothing}
use Rattle.polcert_full_form.proofs.Printing.PrintedParts as texts
use Rattle.polcert_full_form.proofs.print_rewards.write_rewards_from.Goals as goal

pub returns-then-not-has_rewards : goal.returns-then-not-has_rewards
returns-then-not-has_rewards g c =
    let m = meaning c.args.model.now in
    wrote_nothing (texts.none_paid _ _ _ _ _ _
    (m.r c.args.action c.args.start) c.args.model.now.limits.observations.0 (c.has_rewards.ensures c.if-not-has_rewards.true))

pub returns-then-is_mdp : goal.returns-then-is_mdp
returns-then-is_mdp g c = grind arith

pub returns-else-is_mdp : goal.returns-else-is_mdp
returns-else-is_mdp g c = grind arith

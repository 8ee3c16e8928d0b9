use Rattle.std.proofs.Common.{◌∙◌, sym, rules, arith, FitsSigned}
use Rattle.std.proofs.lemmas.Int.{to_z-of_z}
use mir.Syntax.{w64}
use Rattle.polcert_tables.proofs.Common.{meaning}
use Rattle.polcert_tables.proofs.FilledLaws.{adds_next}
use Rattle.polcert_tables.proofs.dense.push_rewards.Goals as goal

pub loop-preserved : goal.loop-preserved
loop-preserved c =
    let f = (meaning c.args.model.now).r c.args.a c.args.s c.args.e in
    rw c.in_ok-push-in-Some.ensures.items (adds_next f c.loop.counter c.args.cells.now.items c.loop.cells.items _ c.loop.invariant
    (to_z-of_z w64 _ (search rules) ∙ sym (c.constant_reward.ensures _ c.in-Some.is c.loop.counter
    (omega (arith, c.loop-test.true, c.observations-observations.ensures.elements)))))

pub loop-z-preserved : goal.loop-z-preserved
loop-z-preserved c =
    let f = (meaning c.args.model.now).r c.args.a c.args.s c.args.e in
    let fits : FitsSigned w64 c.r.result = search rules in
    rw c.in_ok-push-in-None.ensures.items (adds_next f c.loop-z.z c.args.cells.now.items c.loop-z.cells.items _ c.loop-z.invariant
    (to_z-of_z w64 c.r.result fits ∙ c.r.ensures))

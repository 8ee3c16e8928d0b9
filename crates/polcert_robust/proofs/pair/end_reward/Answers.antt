use Rattle.std.proofs.Common.{w64, rules, sym}
use Rattle.std.proofs.lemmas.Int.{to_z-of_z}
use Rattle.polcert_robust.specs.Steps.Pairs.{cells_of, near_controller}
use Rattle.polcert_robust.proofs.pair.end_reward.Goals as goal

pub returns-in-Some : goal.returns-in-Some
returns-in-Some g c =
    let k = near_controller c.args.end.now.pair.now.input.now in
    let t = cells_of c.args.end.now.pair.now.input.now in
    let limits = g.met.C.Cells.is_within_limits _ in
    let is =
    c.args.end.now.reward _ (search rules) _ c.requires.observation in
    rw (to_z-of_z w64 c.in-Some.reward (search rules)) (record {
      is = sym is;
      small = rw (← is) (limits.r _ _ _ _ (search rules) c.args.end.now.pair.now.start c.args.end.now.end c.requires.observation);
    })

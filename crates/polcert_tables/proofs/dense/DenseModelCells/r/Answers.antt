use Rattle.std.proofs.Common.{◌∙◌, ◌+◌, ◌*◌, pos, sym, ap, arith, rules, FitsSigned}
use Rattle.std.proofs.lemmas.Int.{to_z-of_z}
use mir.Syntax.{w64}
use Rattle.polcert_tables.proofs.Common.{get_or_read_under, Filled, filled_table}
use Rattle.polcert_tables.proofs.FilledLaws as filled
use Rattle.polcert_tables.proofs.dense.DenseModelCells.r.Goals as goal

pub overflow_mul-a-3 : goal.overflow_mul-a-3
overflow_mul-a-3 c =
    let same = filled.same_counts _ _ c.self.view_is in
    let limits = c.self.inside.limits in
    let most = filled.four_fit c.self.inside.actions c.self.inside.states c.self.inside.states c.self.inside.observations limits.actions.1
    limits.states.1 limits.states.1 limits.observations.1 in
    let below = filled.place_of_four c.args.a c.args.s c.args.e c.args.z c.self.inside.actions c.self.inside.states c.self.inside.states
    c.self.inside.observations (omega (arith, c.requires.action, same.actions)) (omega (arith, c.requires.start, same.states))
    (omega (arith, c.requires.end, same.states)) (omega (arith, c.requires.observation, same.observations)) in
    omega (arith, below, most)

pub overflow_add-a-3 : goal.overflow_add-a-3
overflow_add-a-3 c =
    let same = filled.same_counts _ _ c.self.view_is in
    let limits = c.self.inside.limits in
    let most = filled.four_fit c.self.inside.actions c.self.inside.states c.self.inside.states c.self.inside.observations limits.actions.1
    limits.states.1 limits.states.1 limits.observations.1 in
    let below = filled.place_of_four c.args.a c.args.s c.args.e c.args.z c.self.inside.actions c.self.inside.states c.self.inside.states
    c.self.inside.observations (omega (arith, c.requires.action, same.actions)) (omega (arith, c.requires.start, same.states))
    (omega (arith, c.requires.end, same.states)) (omega (arith, c.requires.observation, same.observations)) in
    omega (arith, below, most)

pub index-requires : goal.index-requires
index-requires c =
    let same = filled.same_counts _ _ c.self.view_is in
    let below = filled.place_of_four c.args.a c.args.s c.args.e c.args.z c.self.inside.actions c.self.inside.states c.self.inside.states
    c.self.inside.observations (omega (arith, c.requires.action, same.actions)) (omega (arith, c.requires.start, same.states))
    (omega (arith, c.requires.end, same.states)) (omega (arith, c.requires.observation, same.observations)) in
    omega (arith, below, c.self.inside.reward_count, c.self.inside.rewards.ok)

pub returns : goal.returns
returns c =
    let same = filled.same_counts _ _ c.self.view_is in
    let below = filled.place_of_four c.args.a c.args.s c.args.e c.args.z c.self.inside.actions c.self.inside.states c.self.inside.states
    c.self.inside.observations (omega (arith, c.requires.action, same.actions)) (omega (arith, c.requires.start, same.states))
    (omega (arith, c.requires.end, same.states)) (omega (arith, c.requires.observation, same.observations)) in
    let fits : FitsSigned w64 c.index.result.now = search rules in
    to_z-of_z w64 c.index.result.now fits
    ∙ get_or_read_under c.self.inside.rewards.items (((c.args.a * c.self.inside.states + c.args.s) * c.self.inside.states + c.args.e)
    * c.self.inside.observations + c.args.z) (c.self.inside.actions * c.self.inside.states * c.self.inside.states
    * c.self.inside.observations) c.index.result.now (pos 0) c.index.ensures below (sym c.self.inside.reward_count)
    ∙ ap (λ (v : Filled). (filled_table v.lists).r c.args.a c.args.s c.args.e c.args.z) c.self.view_is

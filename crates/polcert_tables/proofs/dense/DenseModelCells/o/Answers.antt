use Rattle.std.proofs.Common.{◌∙◌, ◌+◌, ◌*◌, sym, ap, arith}
use Rattle.polcert_tables.proofs.Common.{get_or_read_under, Filled, filled_table}
use Rattle.polcert_tables.proofs.FilledLaws as filled
use Rattle.polcert_tables.proofs.dense.DenseModelCells.o.Goals as goal

pub index-requires : goal.index-requires
index-requires c =
    let same = filled.same_counts _ _ c.self.view_is in
    let below = filled.place_of_three c.args.a c.args.e c.args.z c.self.inside.actions c.self.inside.states c.self.inside.observations
    (omega (arith, c.requires.action, same.actions)) (omega (arith, c.requires.end, same.states))
    (omega (arith, c.requires.observation, same.observations)) in
    omega (arith, below, c.self.inside.observed_count, c.self.inside.observed.ok)

pub returns : goal.returns
returns c =
    let same = filled.same_counts _ _ c.self.view_is in
    let below = filled.place_of_three c.args.a c.args.e c.args.z c.self.inside.actions c.self.inside.states c.self.inside.observations
    (omega (arith, c.requires.action, same.actions)) (omega (arith, c.requires.end, same.states))
    (omega (arith, c.requires.observation, same.observations)) in
    get_or_read_under c.self.inside.observed.items ((c.args.a * c.self.inside.states + c.args.e) * c.self.inside.observations + c.args.z)
    (c.self.inside.actions * c.self.inside.states * c.self.inside.observations) c.index.result.now 0 c.index.ensures below
    (sym c.self.inside.observed_count)
    ∙ ap (λ (v : Filled). (filled_table v.lists).o c.args.a c.args.e c.args.z) c.self.view_is

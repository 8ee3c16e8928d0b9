use Rattle.std.proofs.Common.{◌∙◌, ◌+◌, ◌*◌, sym, ap, arith}
use Rattle.polcert_tables.proofs.Common.{get_or_read_under, Filled, filled_table}
use Rattle.polcert_tables.proofs.FilledLaws as filled
use Rattle.polcert_tables.proofs.dense.DenseModelCells.t.Goals as goal

pub returns : goal.returns
returns c =
    let same = filled.same_counts _ _ c.self.view_is in
    let below = filled.place_of_three c.args.a c.args.s c.args.e c.self.inside.actions c.self.inside.states c.self.inside.states
    (omega (arith, c.requires.action, same.actions)) (omega (arith, c.requires.start, same.states))
    (omega (arith, c.requires.end, same.states)) in
    get_or_read_under c.self.inside.transitions.items ((c.args.a * c.self.inside.states + c.args.s) * c.self.inside.states + c.args.e)
    (c.self.inside.actions * c.self.inside.states * c.self.inside.states) c.index.result.now 0 c.index.ensures below
    (sym c.self.inside.transition_count)
    ∙ ap (λ (v : Filled). (filled_table v.lists).t c.args.a c.args.s c.args.e) c.self.view_is

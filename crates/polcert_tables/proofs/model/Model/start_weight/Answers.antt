use Rattle.std.proofs.Common.{◌≡◌, ◌∙◌, sym, ap, arith}
use Rattle.polcert_tables.proofs.Common.{count_of, states_of, kept_parts, Contents}
use Rattle.polcert_cells.specs.Meaning.{start_weight}
use Rattle.polcert_tables.specs.Kept.{kept_meaning}
use Rattle.polcert_cells.proofs.SoundLaws.{alike_weight}
use Rattle.polcert_tables.proofs.model.Model.start_weight.Goals as goal

pub returns-in-None : goal.returns-in-None
returns-in-None c =
    let i = c.self.inside in
    let same : count_of i.preamble.states ≡ states_of (kept_meaning c.args.self.now.kept) =
    ap (λ (m : Contents). states_of (kept_meaning m.kept)) c.self.view_is in
    alike_weight (count_of i.preamble.states) c.args.s (omega (arith, same, c.requires))
    ∙ ap (λ o. start_weight (kept_meaning (kept_parts i.preamble o i.transitions i.observed i.rewards)) c.args.s) (sym c.in-None.is)
    ∙ ap (λ (m : Contents). start_weight (kept_meaning m.kept) c.args.s) c.self.view_is

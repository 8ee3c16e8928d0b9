use Rattle.std.proofs.Common.{◌≡◌, ◌∙◌, ◌*◌, sym, ap}
use Rattle.polcert_tables.proofs.Common.{count_of, states_of, kept_parts, Contents}
use Rattle.polcert_cells.specs.Meaning.{start_total}
use Rattle.polcert_tables.specs.Kept.{kept_meaning}
use Rattle.polcert_cells.proofs.SoundLaws.{alike_total}
use Rattle.polcert_tables.proofs.model.Model.start_total.Goals as goal

pub returns-in-None : goal.returns-in-None
returns-in-None c =
    let i = c.self.inside in
    let same : c.states.result ≡ count_of i.preamble.states = c.states.ensures.elements
    ∙ sym (ap (λ (m : Contents). states_of (kept_meaning m.kept)) c.self.view_is) in
    ap (λ n. 1 * n) same
    ∙ alike_total (count_of i.preamble.states)
    ∙ ap (λ o. start_total (kept_meaning (kept_parts i.preamble o i.transitions i.observed i.rewards))) (sym c.in-None.is)
    ∙ ap (λ (m : Contents). start_total (kept_meaning m.kept)) c.self.view_is

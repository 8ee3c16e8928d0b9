use Rattle.std.proofs.Common.{◌≡◌, ◌∙◌, ◌<◌, List, Some, refl, ap, subst, length, get_or, slice_get, arith, rules}
use Rattle.std.proofs.lemmas.Option.{slice_get-get_or, slice_get-map}
use Rattle.std.specs.Option.{option_map}
use Rattle.polcert_cells.specs.Steps.EntryLists.{entry_in}
use Rattle.polcert_cells.proofs.Common.{Entry, length-map}
use Rattle.polcert_cells.proofs.entries.Entries.table_of.Goals as goal

pub returns : goal.returns
returns c =
    let entry = entry_in c.self.inside.pools in
    let heads = c.self.inside.heads.items in
    let read = c.index.result.now in
    let count = ap length c.self.view_is in
    let inside : c.args.number < length heads = grind (arith, length-map) in
    let same : get_or heads c.args.number read ≡ read = search rules in
    let head = slice_get-get_or heads c.args.number read inside ∙ ap Some same in
    let found = subst (λ (es : List Entry). slice_get es c.args.number ≡ Some (entry read)) c.self.view_is
    (slice_get-map entry heads c.args.number ∙ ap (option_map entry) head) in
    (entry read, found, refl)

use Rattle.std.proofs.Common.{◌∙◌, ap, position, bytes_eq, string_bytes}
use Rattle.polcert_cells.proofs.NameLaws.{position_of_bytes}
use Rattle.polcert_cells.proofs.elements.Names.searched_number.Goals as goal

pub returns : goal.returns
returns c =
    let names = c.self.inside.set.keys in
    c.get_index_of.ensures.index
    ∙ ap (λ name. position (λ k. bytes_eq name (string_bytes k)) names) c.text_of.ensures
    ∙ position_of_bytes c.args.name.now names
    ∙ ap (position (bytes_eq c.args.name.now)) c.self.view_is

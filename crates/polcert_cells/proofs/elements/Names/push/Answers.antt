use Rattle.std.proofs.Common.{◌∙◌, arith}
use Rattle.polcert_cells.proofs.NameLaws.{new_name, known_name}
use Rattle.polcert_cells.proofs.elements.Names.push.Goals as goal

pub returns-then-is_new-clause-new : goal.returns-then-is_new-clause-new
returns-then-is_new-clause-new c =
    new_name c.in_ok-from_str.field-0 c.self.inside.set.keys c.insert.new.self.keys c.args.name.now
    c.in_ok-is_new.is_new c.args.self.now (c.self.view_is ∙ c.rekey_if_due.ensures)
    (c.in_ok-from_str.ensures.ok ∙ c.text_of-name.ensures) c.in_ok-is_new.ensures.added c.in_ok-is_new.ensures.keys

pub returns-else-is_new-clause-known : goal.returns-else-is_new-clause-known
returns-else-is_new-clause-known c = grind (arith, known_name)

use Rattle.polcert_cells.proofs.NameLaws.{moved}
use Rattle.polcert_cells.proofs.elements.Names.rekey_if_due.Goals as goal

pub returns : goal.returns
returns c =
    moved c.self.inside.set.keys c.in_ok-set.set.keys c.append.new.self.keys c.args.self.now c.self.view_is
    c.len-count.ensures.unique c.in_ok-set.ensures.empty c.in_ok-append.ensures.keys

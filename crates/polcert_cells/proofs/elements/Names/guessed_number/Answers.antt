use Rattle.std.proofs.Common.{◌∙◌, bytes_eq, sym, ap}
use Rattle.polcert_cells.proofs.NameLaws.{stands_at}
use Rattle.polcert_cells.proofs.elements.Names.guessed_number.Goals as goal

pub returns-then-eq : goal.returns-then-eq
returns-then-eq c = stands_at c.self.inside.set.keys c.args.self.now c.args.name.now c.in-Some.number c.in-Some-get_index.known.now
    c.self.view_is c.len.ensures.unique (sym c.in-Some-get_index.ensures.key)
    (ap (λ bytes. bytes_eq bytes c.args.name.now) (sym c.as_bytes.ensures.value) ∙ sym c.eq.ensures ∙ c.if-eq.true)

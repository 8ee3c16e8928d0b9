use Rattle.std.proofs.Common.{◌∙◌, sym, ap, rules}
use Rattle.polcert_rules.proofs.Common.{entry_of, body_of}
use Rattle.polcert_rules.proofs.RowLaws.BodyLaws.{matrix_room}
use Rattle.polcert_rules.proofs.row.body_row.Goals as goal

pub line_of-line-requires-clause-room : goal.line_of-line-requires-clause-room
line_of-line-requires-clause-room c = matrix_room _ _ _ c.requires.fits (ap body_of c.in-Probabilities.is)
    _ (sym c.len.ensures ∙ c.in-1.is) c.requires.state

pub returns-in_ok-even_row-in-Uniform : goal.returns-in_ok-even_row-in-Uniform
returns-in_ok-even_row-in-Uniform c = search rules

use Rattle.std.proofs.Common.{◌∙◌, sym, ap}
use Rattle.polcert_rules.proofs.Common.{entry_of, body_of}
use Rattle.polcert_rules.proofs.RowLaws.BodyLaws.{matrix_room}
use Rattle.polcert_rules.proofs.row.body_line.Goals as goal

pub line_of-requires-clause-room : goal.line_of-requires-clause-room
line_of-requires-clause-room c = matrix_room _ _ _ c.requires.fits (ap body_of c.in-Probabilities.is)
    _ (sym c.len.ensures ∙ c.in-1.is) c.requires.state

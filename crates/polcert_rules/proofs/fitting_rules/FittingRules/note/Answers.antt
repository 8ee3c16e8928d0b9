use Rattle.std.proofs.Common.{◌+◌, ◌∷◌, [], None, get_or, arith}
use Rattle.polcert_rules.proofs.Indexes.FittingLaws.{noted_of_parts}
use Rattle.polcert_rules.proofs.fitting_rules.FittingRules.note.Goals as goal

pub returns : goal.returns
returns c rules a s are = λ i l. noted_of_parts _ a s _ are _ _ _ _ _ _ _
    (c.requires.end, (omega (arith, l, c.requires.small), tt)) (c.note_all.ensures i l)
    (c.note.ensures i (omega (arith, l, c.note_all.auto.noted)))
    (c.note-2.ensures i (omega (arith, l, c.note_all.auto.noted, c.note.auto.noted)))
    (c.note-3.ensures i (omega (arith, l, c.note_all.auto.noted, c.note.auto.noted, c.note-2.auto.noted)))
    (c.note-4.ensures i (omega (arith, l, c.note_all.auto.noted, c.note.auto.noted, c.note-2.auto.noted, c.note-3.auto.noted)))

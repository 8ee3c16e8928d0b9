use Rattle.std.proofs.Common.{◌∷◌, []}
use Rattle.polcert_rules.proofs.Common.{noted_at}
use Rattle.polcert_rules.proofs.Indexes.FittingLaws.{noted_of_parts}
use Rattle.polcert_rules.proofs.fitting_rules.FittingRules.note_named.Goals as goal

pub returns : goal.returns
returns c = λ t rules a s are z l. noted_of_parts _ a s _ are _ _ _ _ _ _
    _ (c.requires, (l, tt)) (c.note_all.ensures z) (c.note_ends.ensures c.if-not-note_ends.false z l)
    (c.note_ends-2.ensures c.if-not-note_ends-2.false z l) (c.note_ends-3.ensures c.if-not-note_ends-3.false z l)
    (c.note_ends-4.ensures t z l)

use Rattle.std.proofs.Common.{rules}
use Rattle.std.proofs.lemmas.Int.{fits_signed_from_abs, to_z-of_z}
use mir.Syntax.{w128}
use Rattle.polcert_robust.proofs.Worths.{difference_small}
use Rattle.polcert_robust.proofs.pair.amount_above.Goals as goal

pub overflow_sub-result : goal.overflow_sub-result
overflow_sub-result c =
    rw (to_z-of_z w128 c.value_at_scale.result (search rules), to_z-of_z w128 c.args.backing (search rules))
    (fits_signed_from_abs w128 _
    (difference_small _ c.args.backing c.value_at_scale.ensures.small c.requires.backing))

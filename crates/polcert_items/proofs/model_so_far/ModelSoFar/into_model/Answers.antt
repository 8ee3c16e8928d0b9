use Rattle.std.proofs.Common.{subst}
use Rattle.polcert_items.proofs.Common.{IsSound}
use Rattle.polcert_tables.specs.Steps.KeptOf.{DenotesWithinLimits}
use Rattle.polcert_items.proofs.WholeItems.{whole_sound, said_is}
use Rattle.polcert_items.proofs.model_so_far.ModelSoFar.into_model.Goals as goal

pub build_model-requires-clause-sound : goal.build_model-requires-clause-sound
build_model-requires-clause-sound c =
    let i = c.self.inside in
    subst IsSound (said_is c.args.self i.discount i.costs i.states i.actions i.observations i.start i.entries c.self.view_is _ _ _ _
    c.unwrap_or.ensures c.unwrap_or-2.ensures c.unwrap_or-3.ensures c.unwrap_or-4.ensures)
    (whole_sound c.requires.read.0 c.args.self c.requires.read.1)

pub build_model-requires-clause-limits : goal.build_model-requires-clause-limits
build_model-requires-clause-limits c =
    let i = c.self.inside in
    subst DenotesWithinLimits (said_is c.args.self i.discount i.costs i.states i.actions i.observations i.start i.entries c.self.view_is _ _
    _ _ c.unwrap_or.ensures c.unwrap_or-2.ensures c.unwrap_or-3.ensures c.unwrap_or-4.ensures)
    c.requires.limits

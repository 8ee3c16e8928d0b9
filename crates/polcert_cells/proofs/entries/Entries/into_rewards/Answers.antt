use Rattle.std.proofs.Common.{List, map, subst}
use Rattle.polcert_cells.proofs.Common.{Entry}
use Rattle.polcert_cells.proofs.EntryListLaws.{bodies_stand}
use Rattle.polcert_cells.specs.EntryRefs.{AreEntryBodies}
use Rattle.polcert_cells.specs.Steps.EntryLists.{reward_body}
use Rattle.polcert_cells.proofs.entries.Entries.into_rewards.Goals as goal

pub returns-clause-bodies : goal.returns-clause-bodies
returns-clause-bodies c =
    let heads = c.self.inside.heads.items in
    subst (λ (es : List Entry). AreEntryBodies es (map reward_body heads)) c.self.view_is
    (bodies_stand c.self.inside.pools heads c.self.invariant)

use Rattle.std.proofs.Common.{rules}
use Rattle.polcert_cells.proofs.EntryListLaws.{four_kept}
use Rattle.polcert_cells.proofs.entries.kept_places.Goals as goal

pub returns : goal.returns
returns c = four_kept _ _ _ _ _ _ (search rules) c.kept_place.ensures c.kept_place-2.ensures c.kept_place-3.ensures c.kept_place-4.ensures
    (search rules)

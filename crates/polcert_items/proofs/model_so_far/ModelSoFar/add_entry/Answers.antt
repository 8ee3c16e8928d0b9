use Rattle.std.proofs.Common.{sym, subst, rules}
use Rattle.polcert_items.proofs.Common.{Entry, entry_of, ModelSoFar, preamble_in}
use Rattle.polcert_cells.specs.Steps.Sound.{IsSoundEntry}
use Rattle.polcert_items.specs.Steps.ModelSoFar.{known_of}
use Rattle.polcert_items.proofs.KeptEntries.{can_be_kept}
use Rattle.polcert_items.proofs.model_so_far.ModelSoFar.add_entry.Goals as goal

pub invariant_of-self-2 : goal.invariant_of-self-2
invariant_of-self-2 c = search rules

pub push_ref-requires : goal.push_ref-requires
push_ref-requires c =
    let i = c.self.inside in
    let e : Entry = entry_of c.args.entry in
    let k : ModelSoFar = known_of i.discount i.costs i.states i.actions i.observations i.start i.entries in
    can_be_kept k e c.self.invariant.0 c.self.invariant.1 c.self.invariant.2
    (subst (λ (m : ModelSoFar). IsSoundEntry (preamble_in m) e) (sym c.self.view_is) c.requires.1)

use Rattle.std.proofs.Common.{◌≡◌, ◌∙◌, take, length, refl, sym, ap, subst, rules, arith}
use Rattle.polcert_cells.proofs.Common.{EntryStore, AreHeldIn}
use Rattle.polcert_cells.proofs.EntryListLaws.{held_more, listed_more, held_still, listed_still}
use Rattle.polcert_cells.proofs.entries.Entries.push_ref.Goals as goal

pub invariant_of-self : goal.invariant_of-self
invariant_of-self c = grind (arith, held_more)

pub returns-in-Ok-clause-ok : goal.returns-in-Ok-clause-ok
returns-in-Ok-clause-ok c = grind (arith, listed_more)

pub invariant_of-self-in-Err : goal.invariant_of-self-in-Err
invariant_of-self-in-Err c =
    let p = c.self.inside.pools in
    let q = c.put_entry.new.pools in
    let r : EntryStore = record { probabilities = q.probabilities; rewards = c.truncate.new.self } in
    let left : r.rewards.items ≡ take (length p.rewards.items) q.rewards.items = c.truncate.ensures.items
    ∙ ap (λ n. take n q.rewards.items) (search rules) in
    subst (AreHeldIn r) (sym c.in-Err.ensures.err) (held_still p q r c.put_entry.ensures.go_on refl left c.self.inside.heads.items
    c.self.invariant)

pub returns-in-Err-clause-err : goal.returns-in-Err-clause-err
returns-in-Err-clause-err c = grind (arith, listed_still)

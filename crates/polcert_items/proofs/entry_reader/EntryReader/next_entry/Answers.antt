use Rattle.std.proofs.Common.{rules, arith}
use Rattle.std.proofs.lemmas.Grind.{common_steps}
use Rattle.polcert_items.proofs.Common.{entry_of}
use Rattle.polcert_items.proofs.entry_reader.EntryReader.next_entry.Goals as goal

pub returns-clause-next : goal.returns-clause-next
returns-clause-next c = λ _. record {
  e = entry_of c.in-Some.entry;
  goes = search rules;
  few = search rules;
  free = grind (arith, common_steps);
  known_is = search rules;
  new_is = search rules;
}

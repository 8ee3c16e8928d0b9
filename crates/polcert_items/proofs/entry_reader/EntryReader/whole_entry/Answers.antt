use Rattle.std.proofs.Common.{[], ap, refl, rules, subst, sym}
use Rattle.polcert_items.proofs.Common.{body_of, EntryGoes, entry_with, of_probabilities, of_rewards}
use Rattle.polcert_cells.specs.declared.entries.Body.TheVariants as bodies
use Rattle.polcert_items.specs.declared.entry_reader.EntryState.TheVariants as states
use Rattle.polcert_items.proofs.PatternLaws.{full_list, ends_in}
use Rattle.polcert_items.proofs.entry_reader.EntryReader.whole_entry.Goals.{in-Probabilities, in-Rewards, in-Word}
use Rattle.polcert_items.proofs.entry_reader.EntryReader.whole_entry.Goals as goal

pub returns : goal.returns
returns c = λ preamble.
    let r = c.args.self.now in
    subst (λ places. EntryGoes preamble r [] (entry_with r.table places (body_of c.match-self.body))) (sym c.copied.ensures)
    (elim c.match-self.branch [
      | in-Probabilities w ↦ subst (λ b. EntryGoes preamble r [] (entry_with r.table r.places (body_of b))) (sym w.body-is)
          (subst (λ read. EntryGoes preamble r [] (entry_with r.table r.places (bodies.Probabilities read))) (sym w.as_slice.ensures)
          (ends_in preamble r (states.Probabilities w.in-Probabilities.numbers) (entry_with r.table r.places _) w.in-Probabilities.is
          (_, (full_list of_probabilities w.in-Probabilities.numbers (search rules), refl))))
      | in-Rewards w ↦ subst (λ b. EntryGoes preamble r [] (entry_with r.table r.places (body_of b))) (sym w.body-is)
          (subst (λ read. EntryGoes preamble r [] (entry_with r.table r.places (bodies.Rewards read))) (sym w.as_slice-in-Rewards.ensures)
          (ends_in preamble r (states.Rewards w.in-Rewards.numbers) (entry_with r.table r.places _) w.in-Rewards.is
          (_, (full_list of_rewards w.in-Rewards.numbers (search rules), refl))))
      | in-Word w ↦ subst (λ b. EntryGoes preamble r [] (entry_with r.table r.places (body_of b))) (sym w.body-is)
          (ends_in preamble r (states.Word w.in-Word.word) (entry_with r.table r.places _) w.in-Word.is
          (refl, ap (entry_with r.table r.places) w.word_ref-body.ensures))
    ])

use Rattle.std.proofs.Common.{◌≤◌, [], ap, drop, length, refl, rules, subst, sym}
use Rattle.polcert_items.proofs.Common.{is_mdp, least_written, preamble_in, indices_in, EntryGoes, entry_with, of_probabilities, of_rewards}
use Rattle.polcert_items.proofs.WantLaws.{body_ends_in}
use Rattle.polcert_items.specs.declared.entry_reader.EntryState.TheVariants as states
use Rattle.polcert_cells.specs.declared.words.Topic.TheVariants.{Cells}
use Rattle.polcert_items.proofs.PatternLaws.{cells_some, some_dropped, full_list, list_full, no_end, cannot_end_in, ends_in}
use Rattle.polcert_items.proofs.entry_reader.EntryReader.end.Goals.{in-Probabilities+in-None, in-Rewards+in-None-end_fault, in-Word}
use Rattle.polcert_items.proofs.entry_reader.EntryReader.end.Goals.{in_default-via-in-Body+else-takes_numbers, in_default-via-in_default}
use Rattle.polcert_items.proofs.entry_reader.EntryReader.end.Goals as goal

pub returns-in-Some-clause-refused : goal.returns-in-Some-clause-refused
returns-in-Some-clause-refused c = λ some.
    let preamble = preamble_in c.args.known.now in
    cannot_end_in preamble c.args.self (states.Probabilities c.in-Probabilities.numbers) c.in-Probabilities.is
    (λ e g. c.in-Some.ensures.full (list_full of_probabilities c.in-Probabilities.numbers g.0 g.1.0))

pub returns-in-Some-end_fault-clause-refused : goal.returns-in-Some-end_fault-clause-refused
returns-in-Some-end_fault-clause-refused c = λ some.
    let preamble = preamble_in c.args.known.now in
    cannot_end_in preamble c.args.self (states.Rewards c.in-Rewards.numbers) c.in-Rewards.is
    (λ e g. c.in-Some-end_fault.ensures.full (list_full of_rewards c.in-Rewards.numbers g.0 g.1.0))

pub returns-in-Body-clause-refused : goal.returns-in-Body-clause-refused
returns-in-Body-clause-refused c = λ some.
    let preamble = preamble_in c.args.known.now in
    cannot_end_in preamble c.args.self states.Body c.in-Body.is (λ e b. no_end preamble c.args.self.table c.args.self.places e some b)

pub returns-clause-said : goal.returns-clause-said
returns-clause-said c =
    let preamble = preamble_in c.args.known.now in
    let r = c.args.self in
    elim c.match-state.branch [
      | in-Probabilities+in-None w ↦ subst (λ b. EntryGoes preamble r [] (entry_with r.table r.places b)) (sym w.body-is)
          (ends_in preamble r (states.Probabilities w.in-Probabilities.numbers) (entry_with r.table r.places _) w.in-Probabilities.is
          (_, (full_list of_probabilities w.in-Probabilities.numbers w.in-None.ensures.full, refl)))
      | in-Rewards+in-None-end_fault w ↦ subst (λ b. EntryGoes preamble r [] (entry_with r.table r.places b)) (sym w.body-is)
          (ends_in preamble r (states.Rewards w.in-Rewards.numbers) (entry_with r.table r.places _) w.in-Rewards.is
          (_, (full_list of_rewards w.in-Rewards.numbers w.in-None-end_fault.ensures.full, refl)))
      | in-Word w ↦ subst (λ b. EntryGoes preamble r [] (entry_with r.table r.places b)) (sym w.body-is)
          (ends_in preamble r (states.Word w.in-Word.word) (entry_with r.table r.places _) w.in-Word.is
          (refl, ap (entry_with r.table r.places) w.body_of-body.ensures))
    ]

pub returns-in-Some-clause-reason : goal.returns-in-Some-clause-reason
returns-in-Some-clause-reason c = c.in-Some.ensures.reason (Cells c.args.self.table)

pub returns-in-Some-end_fault-clause-reason : goal.returns-in-Some-end_fault-clause-reason
returns-in-Some-end_fault-clause-reason c = c.in-Some-end_fault.ensures.reason (Cells c.args.self.table)

pub returns-in-Body-clause-kind : goal.returns-in-Body-clause-kind
returns-in-Body-clause-kind c = λ some within.
    let preamble = preamble_in c.args.known.now in
    let r = c.args.self in
    let low : least_written (is_mdp preamble) r.table ≤ length r.places = search rules in
    body_ends_in preamble r c.in-Body.is low (cells_some (drop (length r.places) (indices_in c.args.known.now r.table))
    (some_dropped (length r.places) (indices_in c.args.known.now r.table) some))

pub returns-in_default-clause-refused : goal.returns-in_default-clause-refused
returns-in_default-clause-refused c = λ some.
    let preamble = preamble_in c.args.known.now in
    let r = c.args.self in
    elim c.in_default.branch [
      | in_default-via-in-Body+else-takes_numbers w ↦ cannot_end_in preamble r states.Body w.in-Body.is
          (λ e b. no_end preamble r.table r.places e some b)
      | in_default-via-in_default w ↦ λ e goes. search rules
    ]

use Rattle.std.proofs.Common.{◌∙◌, refl, sym}
use Rattle.polcert_tables.proofs.Common.{Draft}
use Rattle.polcert_tables.specs.Steps.ModelView.{draft_with}
use Rattle.polcert_rules.proofs.RowLaws.SoundRows.{sound_keyed}
use Rattle.polcert_cells.specs.declared.elements.Elements.TheVariants.{Count}
use Rattle.polcert_format.proofs.OrderLaws.{count_of_line}
use Rattle.polcert_tables.proofs.KeptLaws.{are_sound, is_kept, is_kept_model, AreFew, kept_same}
use Rattle.polcert_tables.proofs.RowSumLaws.{kept_proper, wrong_transition, wrong_observation}
use Rattle.polcert_tables.proofs.model.build_model.Goals as goal

pub of-requires-2 : goal.of-requires-2
of-requires-2 c =
    let d : Draft = draft_with c.args.preamble c.args.start c.args.entries in
    sound_keyed d.preamble c.args.entries (are_sound d c.requires.sound)

pub of-requires-clause-sound : goal.of-requires-clause-sound
of-requires-clause-sound c =
    let d : Draft = draft_with c.args.preamble c.args.start c.args.entries in (
      d.preamble,
      record { actions = c.count.ensures; states = c.count-2.ensures; columns = c.count-3.ensures },
      are_sound d c.requires.sound,
    )

pub observed_rows-requires : goal.observed_rows-requires
observed_rows-requires c =
    let d : Draft = draft_with c.args.preamble c.args.start c.args.entries in (
      d.preamble,
      refl,
      record { actions = c.count.ensures; states = c.count-2.ensures; columns = c.count-3.ensures },
      are_sound d c.requires.sound,
    )

pub returns-in-Err : goal.returns-in-Err
returns-in-Err c =
    let d : Draft = draft_with c.args.preamble c.args.start c.args.entries in
    let found = rw c.in-Err.is at c.in_ok-rows.ensures in
    wrong_transition d c.in-Err.wrong (found d.preamble
    (record { actions = c.count.ensures; states = c.count-2.ensures; columns = c.count-3.ensures }))

pub returns-in-Err-2 : goal.returns-in-Err-2
returns-in-Err-2 c =
    let d : Draft = draft_with c.args.preamble c.args.start c.args.entries in
    let first = rw c.in-Ok.is at c.in_ok-rows.ensures in
    let rows = first d.preamble (record { actions = c.count.ensures; states = c.count-2.ensures; columns = c.count-3.ensures }) in
    let next = rw c.in-Err-2.is at c.in_ok-rows-2.ensures in
    let found = next d.preamble refl (record { actions = c.count.ensures; states = c.count-2.ensures; columns = c.count-3.ensures }) in
    wrong_observation d c.in-Err-2.wrong rows.1 found.0 found.1

pub invariant_of-result : goal.invariant_of-result
invariant_of-result c =
    let d : Draft = draft_with c.args.preamble c.args.start c.args.entries in
    let sound = are_sound d c.requires.sound in
    let keyed = sound_keyed d.preamble c.args.entries sound in
    let first = rw c.in-Ok.is at c.in_ok-rows.ensures in
    let rows = first d.preamble (record { actions = c.count.ensures; states = c.count-2.ensures; columns = c.count-3.ensures }) in
    let next = rw c.in-Ok-2.is at c.in_ok-rows-2.ensures in
    let seen = next d.preamble refl (record { actions = c.count.ensures; states = c.count-2.ensures; columns = c.count-3.ensures }) in
    let rewards = c.in_ok-rewards.ensures.rewards d.preamble
    (record {
      actions = sym c.count-4.ensures;
      states = sym c.count-5.ensures;
      observations =
          sym (c.count_or.ensures ∙ count_of_line c.args.preamble.observations (Count 1));
    }) refl keyed sound.each in
    let kept = is_kept d c.requires.sound c.in-Ok.rows c.in-Ok-2.rows c.in_ok-rewards.rewards rows.0 seen.0 rewards in
    let few : AreFew d.preamble = (c.requires.sound.actions.1, c.requires.sound.states.1, c.requires.sound.observations.1) in
    let proper = kept_proper d _ few kept rows.1 seen.1 in
    let within = c.requires.limits _ (kept_same d _ few kept) proper in
    (proper, (within.0, (within.1, tt)))

pub invariant_of-result-2 : goal.invariant_of-result-2
invariant_of-result-2 c =
    let d : Draft = draft_with c.args.preamble c.args.start c.args.entries in
    let sound = are_sound d c.requires.sound in
    let keyed = sound_keyed d.preamble c.args.entries sound in
    let first = rw c.in-Ok.is at c.in_ok-rows.ensures in
    let rows = first d.preamble (record { actions = c.count.ensures; states = c.count-2.ensures; columns = c.count-3.ensures }) in
    let next = rw c.in-Ok-2.is at c.in_ok-rows-2.ensures in
    let seen = next d.preamble refl (record { actions = c.count.ensures; states = c.count-2.ensures; columns = c.count-3.ensures }) in
    let rewards = c.in_ok-rewards.ensures.rewards d.preamble
    (record {
      actions = sym c.count-4.ensures;
      states = sym c.count-5.ensures;
      observations =
          sym (c.count_or.ensures ∙ count_of_line c.args.preamble.observations (Count 1));
    }) refl keyed sound.each in
    is_kept_model d c.requires.sound c.in-Ok.rows c.in-Ok-2.rows c.in_ok-rewards.rewards rows.0 seen.0 rewards

pub returns : goal.returns
returns c =
    let d : Draft = draft_with c.args.preamble c.args.start c.args.entries in
    let sound = are_sound d c.requires.sound in
    let keyed = sound_keyed d.preamble c.args.entries sound in
    let first = rw c.in-Ok.is at c.in_ok-rows.ensures in
    let rows = first d.preamble (record { actions = c.count.ensures; states = c.count-2.ensures; columns = c.count-3.ensures }) in
    let next = rw c.in-Ok-2.is at c.in_ok-rows-2.ensures in
    let seen = next d.preamble refl (record { actions = c.count.ensures; states = c.count-2.ensures; columns = c.count-3.ensures }) in
    let rewards = c.in_ok-rewards.ensures.rewards d.preamble
    (record {
      actions = sym c.count-4.ensures;
      states = sym c.count-5.ensures;
      observations =
          sym (c.count_or.ensures ∙ count_of_line c.args.preamble.observations (Count 1));
    }) refl keyed sound.each in
    is_kept d c.requires.sound c.in-Ok.rows c.in-Ok-2.rows c.in_ok-rewards.rewards rows.0 seen.0 rewards

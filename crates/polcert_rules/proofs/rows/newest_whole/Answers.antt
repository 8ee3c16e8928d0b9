use Rattle.std.proofs.Common.{◌≡◌, ◌∙◌, None, length, refl, subst, sym, arith}
use Rattle.polcert_rules.proofs.Common.{nat_tests, IsRising, table_key}
use Rattle.polcert_rules.specs.Keys.{table_digit}
use Rattle.polcert_rules.proofs.RowLaws.ExactKeys.{newest_whole}
use Rattle.polcert_rules.proofs.RowLaws.SoundRows.{sound_within}
use Rattle.polcert_rules.proofs.rows.newest_whole.Goals as goal

pub newest_of_table-requires-clause-rising : goal.newest_of_table-requires-clause-rising
newest_of_table-requires-clause-rising c = subst IsRising (sym c.as_slice-wholes.ensures.value) c.requires.given.split.wholes_rise

pub newest_of_table-requires-clause-indices : goal.newest_of_table-requires-clause-indices
newest_of_table-requires-clause-indices c =
    let g = c.requires.given in
    let within = sound_within _ _ _ _ g.weighted g.shape
    g.sound in
    (omega (arith, within.actions.1, c.requires.action), (omega (arith, within.states.1, c.requires.state), (omega arith, tt)))

pub returns-then-is_empty : goal.returns-then-is_empty
returns-then-is_empty c =
    let none : length c.as_slice-wholes.result.now ≡ 0 = grind (arith, nat_tests, c.is_empty.ensures, c.if-is_empty.true) in
    newest_whole _ _ _ _
    _ _ None refl (c.as_slice-wholes.ensures.value ∙ c.requires.given.split.wholes)
    (λ r among f. absurd (omega (arith, among.1, none)))

pub returns : goal.returns
returns c =
    newest_whole _ _ _ _
    _ _ _ refl (c.as_slice-wholes.ensures.value ∙ c.requires.given.split.wholes) c.newest_of_table.ensures

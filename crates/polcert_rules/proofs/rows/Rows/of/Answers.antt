use Rattle.std.proofs.Common.{◌≡◌, ◌∙◌, ◌+◌, ◌<◌, ℕ, List, All, ◌++◌, ◌∷◌, [], length, subst, sym, ap, arith}
use Rattle.polcert_rules.proofs.Common.{key_base, Rule}
use Rattle.polcert_rules.proofs.RowLaws.SoundRows.{sound_keyed, sound_within}
use Rattle.polcert_rules.proofs.RowLaws.Cells.{all_of}
use Rattle.polcert_rules.proofs.Keyed.Covering.{number_within}
use Rattle.polcert_rules.proofs.Indexes.BuiltLaws.{given_is, lines_none, lines_more, lines_before, all_below, lines_rows, lines_proper}
use Rattle.polcert_rules.proofs.Indexes.BuiltLaws.{wrong_row, all_within, all_scale}
use Rattle.polcert_rules.proofs.rows.Rows.of.Goals as goal

pub of-requires : goal.of-requires
of-requires c = sound_keyed c.requires.sound.0 _ c.requires.sound.2

pub of-requires-2 : goal.of-requires-2
of-requires-2 c = subst (All (λ (r : Rule). r.number < length c.args.entries.now)) (sym c.as_slice-rules.ensures.is)
    (all_of _ _ (number_within _ _ _ c.in_ok-index.ensures))

pub loop-action-init : goal.loop-action-init
loop-action-init c = (
  given_is _ _ c.requires.weighted c.requires.sound c.in_ok-index.ensures c.as_slice-rules.ensures.is
      c.as_slice-rules.ensures.rising c.in_ok-split.ensures.zeros c.in_ok-split.ensures.others
      c.in_ok-split.ensures.wholes c.in_ok-split.ensures.exact,
  lines_none _ _ _ c.new-numbers.ensures,
  c.in_ok-store.ensures c.args.shape.columns,
)

pub action_rows-requires-clause-before : goal.action_rows-requires-clause-before
action_rows-requires-clause-before c = c.last_numbers.ensures _ (all_below _ _ _ _ c.loop-action.invariant.1)

pub loop-action-preserved-then-is_as_before : goal.loop-action-preserved-then-is_as_before
loop-action-preserved-then-is_as_before c =
    let given = c.loop-action.invariant.0 in
    let most = (sound_within given.preamble c.args.table c.args.shape c.args.entries.now given.weighted given.shape given.sound).actions.1
    in
    let less = c.loop-action-test.true in (
      given,
      lines_before _ given _ _ _ _ (c.is_as_before.ensures c.if-is_as_before.true) (omega (arith, most, less)) c.loop-action.invariant.1
          c.in_ok-repeat_last.ensures,
      c.loop-action.invariant.2,
    )

pub loop-action-preserved : goal.loop-action-preserved
loop-action-preserved c = (
  c.loop-action.invariant.0,
  lines_more _ _ _ _ _ _ _ c.loop-action.invariant.1 c.in_ok-line.ensures.stays (rw c.in-Ok.is at c.in_ok-line.ensures.rows)
      (c.in_ok-push-in-Ok.ensures ∙ ap (λ (xs : List ℕ). c.loop-action.numbers ++ xs ∷ []) c.as_slice.ensures.value),
  c.in_ok-line.ensures.kept,
)

pub invariant_of-result : goal.invariant_of-result
invariant_of-result c =
    let end = c.loop-action-test.false in
    let most = c.loop-action.auto.action-end in
    let all : c.loop-action.action ≡ c.args.shape.actions = omega arith in
    let lines = c.loop-action.invariant.1 in
    let sparse = c.loop-action.invariant.2.sparse in
    (lines.size ∙ all, all_within _ _ _ _ lines, sparse, all_scale _ _ _ _ all lines sparse)

pub returns-in-Err : goal.returns-in-Err
returns-in-Err c p is =
    wrong_row _ c.loop-action.invariant.0 p is _ _ _ _ c.loop-action.invariant.1 c.loop-action-test.true
    (rw c.in-Err.is at c.in_ok-line.ensures.rows)

pub returns : goal.returns
returns c p is =
    let end = c.loop-action-test.false in
    let most = c.loop-action.auto.action-end in (
      record {
        actions = is.actions;
        states = is.states;
        width = is.columns;
        each = lines_rows _ c.loop-action.invariant.0 p is _ _ _ (omega arith) c.loop-action.invariant.1 c.loop-action.invariant.2.sparse;
      },
      lines_proper _ c.loop-action.invariant.0 p is _ _ _ (omega arith) c.loop-action.invariant.1,
    )

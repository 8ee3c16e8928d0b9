use Rattle.std.proofs.Common.{◌≡◌, ◌<◌, ℕ, List, All, [], ◌∷◌, ◌++◌, length, subst, sym, arith, refl, rules}
use Rattle.polcert_rules.proofs.Common.{AreLine}
use Rattle.polcert_rules.proofs.RowLaws.SoundRows.{row_numbers}
use Rattle.polcert_rules.proofs.Indexes.KeptLaws.{numbers_stay, row_within}
use Rattle.polcert_rules.proofs.Indexes.BuiltLaws.{line_none, line_more}
use Rattle.polcert_rules.proofs.rows.action_rows.Goals as goal

pub loop-state-init : goal.loop-state-init
loop-state-init c = (line_none _ _ _ _ (search rules), c.requires.kept, λ n row e. e)

pub of-rules-requires-clause-rising : goal.of-rules-requires-clause-rising
of-rules-requires-clause-rising c = c.requires.given.split.zeros_rise

pub of-requires-clause-rules : goal.of-requires-clause-rules
of-requires-clause-rules c =
    (c.args.given.bodies.entries.now, c.args.given.index.now, c.of-rules.ensures.split _ _ c.requires.given.split)

pub row_number-requires-clause-near : goal.row_number-requires-clause-near
row_number-requires-clause-near c = (
  subst (λ xs. All (λ n. n < length c.loop-state.store.rows) xs) (sym c.as_slice.ensures.value) c.loop-state.invariant.0.within,
  numbers_stay _ _ _ c.loop-state.invariant.2 c.requires.before,
)

pub row_number-requires-clause-row : goal.row_number-requires-clause-row
row_number-requires-clause-row c =
    let g = c.requires.given in (
      c.args.given.table,
      c.args.action,
      row_numbers _ _ _ _ _ _ _ _ _ _ g.weighted g.shape g.sound g.index (c.of-rules.ensures.split _ _ g.split) c.of-rules.ensures.table
          c.of-rules.ensures.action
          c.newest_whole-whole.ensures c.in_ok-row.ensures,
    )

pub is_proper-requires : goal.is_proper-requires
is_proper-requires c =
    let g = c.requires.given in
    let row = row_numbers _ _ _ _ _
    _ _ _ _ _
    g.weighted g.shape g.sound g.index (c.of-rules.ensures.split _ _ g.split) c.of-rules.ensures.table c.of-rules.ensures.action
    c.newest_whole-whole.ensures c.in_ok-row.ensures in
    record { number = row_within _ _ _ _ (c.in_ok-number.ensures.row c.args.given.table c.args.action row) }

pub loop-state-preserved : goal.loop-state-preserved
loop-state-preserved c =
    let g = c.requires.given in
    let row = row_numbers _ _ _ _ _
    _ _ _ _ _
    g.weighted g.shape g.sound g.index (c.of-rules.ensures.split _ _ g.split) c.of-rules.ensures.table c.of-rules.ensures.action
    c.newest_whole-whole.ensures c.in_ok-row.ensures in
    let here = c.in_ok-number.ensures.row c.args.given.table c.args.action row in (
      line_more _ _ _ _ _ _ _ _ c.loop-state.invariant.0
          c.in_ok-number.ensures.stays here ((c.is_proper.ensures c.args.given.bodies.shape.columns c.args.given.bodies.entries.now _
          c.in_ok-number.ensures.kept here).0 (search rules))
          (subst (λ n. c.extend_from_slice.new.self.items ≡ c.loop-state.numbers.items ++ n ∷ [])
          c.in_ok-short.ensures c.in_ok-extend_from_slice.ensures.items),
      c.in_ok-number.ensures.kept,
      λ n r e. c.in_ok-number.ensures.stays n r (c.loop-state.invariant.2 n r e),
    )

pub returns-then-not-is_proper-clause-rows : goal.returns-then-not-is_proper-clause-rows
returns-then-not-is_proper-clause-rows c =
    let g = c.requires.given in
    let row = row_numbers _ _ _ _ _
    _ _ _ _ _
    g.weighted g.shape g.sound g.index (c.of-rules.ensures.split _ _ g.split) c.of-rules.ensures.table c.of-rules.ensures.action
    c.newest_whole-whole.ensures c.in_ok-row.ensures in
    let here = c.in_ok-number.ensures.row c.args.given.table c.args.action row in
    record {
      table_is = refl;
      action_is = refl;
      state = c.loop-state-test.true;
      wrong = λ p. let t = (c.is_proper.ensures c.args.given.bodies.shape.columns c.args.given.bodies.entries.now _
          c.in_ok-number.ensures.kept here).1 p in search rules;
      before = c.loop-state.invariant.0.proper;
    }

pub returns-clause-rows : goal.returns-clause-rows
returns-clause-rows c =
    let end = c.loop-state-test.false in
    let most = c.loop-state.auto.state-end in
    let all : c.loop-state.state ≡ c.args.given.bodies.shape.states = omega arith in
    subst (λ n. AreLine c.args.given c.args.action n c.loop-state.store.rows c.loop-state.numbers.items) all c.loop-state.invariant.0

use Rattle.std.proofs.Common.{ℕ, ◌+◌, ◌<◌, List, All, subst, sym}
use Rattle.polcert_rules.proofs.Common.{Rule, IsRising, IsNewest, IsSingleCellKey, IsCell, at_column}
use Rattle.polcert_rules.proofs.Common.{key_base}
use Rattle.polcert_rules.proofs.Common.{others_in}
use Rattle.polcert_rules.proofs.Indexes.Building.{each_rises}
use Rattle.polcert_rules.proofs.RowLaws.Cells.{gathered_are, newest_at, each_cell}
use Rattle.polcert_rules.proofs.row.cells.Goals as goal

pub returns-clause-rising : goal.returns-clause-rising
returns-clause-rising c = let s = c.sort_newest.ensures in subst IsRising (sym s.is) (each_rises _ s.ordered)

pub returns-clause-newest : goal.returns-clause-newest
returns-clause-newest c =
    let gathered = gathered_are _ _ _
    _ _ _ _
    _ c.clear.ensures.items c.first_column-start.ensures.is c.in_ok-add_shared_columns.ensures
    (rw c.other_rules.ensures at c.in_ok-next.ensures) in
    let s = c.sort_newest.ensures in
    let all = newest_at _ _ _ _ _ _ gathered
    s.permutation (each_rises _ s.ordered) in
    subst (λ xs. (n : ℕ) → n + 2 < key_base
    → IsNewest (others_in c.args.split.now.others) (IsSingleCellKey c.args.low c.args.action c.args.state n) (at_column xs n)) (sym s.is)
    all

pub returns-clause-each : goal.returns-clause-each
returns-clause-each c =
    let gathered = gathered_are _ _ _
    _ _ _ _
    _ c.clear.ensures.items c.first_column-start.ensures.is c.in_ok-add_shared_columns.ensures
    (rw c.other_rules.ensures at c.in_ok-next.ensures) in
    let s = c.sort_newest.ensures in
    let all = each_cell _ _ _ _ _ _ gathered s.permutation in
    subst (λ xs. All (IsCell (others_in c.args.split.now.others) c.args.low c.args.action c.args.state) xs) (sym s.is) all

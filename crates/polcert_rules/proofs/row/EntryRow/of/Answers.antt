use Rattle.std.proofs.Common.{◌∙◌, ◌*◌, ◌^◌, ℕ, ◌+◌, ◌<◌, ◌≡◌, ◌≤◌, List, All, inr, subst, ap, arith}
use Rattle.polcert_rules.proofs.Common.{Rule, Table, IsNewest, IsSingleCellKey, IsCell, at_column, zero_of, key_base, table_key, others_in}
use Rattle.polcert_rules.specs.Keys.{table_digit}
use Rattle.polcert_rules.specs.Steps.Zeros.{AreActionZeros}
use Rattle.polcert_rules.proofs.RowLaws.FoundRows.{row_is}
use Rattle.polcert_rules.proofs.row.EntryRow.of.Goals as goal

few : (table : Table) (d : ℕ) → d ≡ table_digit table → d ≤ 2
few table d is = grind arith

pub returns : goal.returns
returns c entries rules columns index found covering =
    let a = c.args.given.action in
    let s = c.args.state in
    let others = others_in c.args.given.split.now.others in
    let cells = c.in_ok-cells.cells.rules.items in
    let zeros = c.row_zeros-zeros.result in
    let table = table_key c.args.given.table in
    let low = ap (λ x. c.table_digit.result * x) c.span.ensures ∙ ap (λ d. d * key_base ^ 4) c.table_digit.ensures in
    let newest = subst (λ l. (n : ℕ) → n + 2 < key_base → IsNewest others (IsSingleCellKey l a s n) (at_column cells n)) low
    c.in_ok-cells.ensures.newest in
    let each = subst (λ l. All (IsCell others l a s) cells) low c.in_ok-cells.ensures.each in
    let newest_zeros = subst (λ (rules : List Rule). (i n : ℕ)
    → AreActionZeros rules (c.table_digit.result * c.span.result) i c.args.given.zeros → n + 2 < key_base
    → IsNewest rules (IsSingleCellKey (c.table_digit.result * c.span.result) i s n) (zero_of zeros n)) c.as_slice.ensures.value
    c.row_zeros-zeros.ensures.newest in
    let of_zeros = subst (λ l. (i n : ℕ) → AreActionZeros c.args.given.split.now.zeros.items l i c.args.given.zeros → n + 2 < key_base
    → IsNewest c.args.given.split.now.zeros.items (IsSingleCellKey l i s n) (zero_of zeros n)) low newest_zeros in
    row_is entries rules c.args.given.table a s c.args.given.split.now columns index found.split c.requires.action c.requires.state _
    covering
    c.in_ok-cells.ensures.rising newest each c.row_zeros-zeros.ensures.ordered (λ n small. of_zeros a n found.zeros small)

pub cells-requires-clause-exact : goal.cells-requires-clause-exact
cells-requires-clause-exact c t r among =
    let split = c.requires.rules.2.split in
    split.exact t r ((split.each r).0 (inr among))

pub cells-requires-clause-low : goal.cells-requires-clause-low
cells-requires-clause-low c = (c.table_digit.result, few _ _ c.table_digit.ensures, ap (λ x. c.table_digit.result * x) c.span.ensures)

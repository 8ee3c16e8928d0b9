use Rattle.std.proofs.Common.{rules, arith, ◌≡◌, ◌<◌, ◌≤◌, ◌*◌, ℕ, slice_index_or, pos, ◌+ℤ◌}
use Rattle.polcert_check.proofs.Common.{largest, Cell, IsRow, IsWeighed, IsWithinLimits, after_cells, node_controller, total_below}
use Rattle.polcert_check.proofs.Walking.Weighed.{ends_weighed, left_step, more_cells, next_cell, nothing_left, weight_small}
use Rattle.polcert_check.proofs.Walking.Weighed.{weighed_on}
use Rattle.polcert_cells.specs.Cursors.{IsNext}
use Rattle.polcert_cells.specs.declared.cells.Cells.{Ghosts}
use Rattle.polcert_check.specs.declared.node.Node.{Node}
use Rattle.std.proofs.Common.{List, length, Some, ◌+◌, ◌-◌}
use Rattle.polcert_check.proofs.Walking.Expecting.{expected_room, expected_step}
use Rattle.polcert_check.proofs.Walking.Missing.{before_more, before_on}
use Rattle.polcert_check.proofs.end_values.value_of_cells.Goals as goal

-- what the cell at a place of the row is, while some of its weights are left
cell_at : {C : Type 0} {g : Ghosts C} (node : Node C g) (s : ℕ) (cells : List Cell) (i left : ℕ) → let k = node_controller node in
    let w = k.cells.t (k.action node.n) s in
    let from = after_cells 0 cells i in
    let x = slice_index_or cells i (record { column = 0; weight = 0 }) in
    IsWithinLimits k.cells → s < k.cells.states → IsRow k.cells.states w cells → from ≤ k.cells.states
    → total_below (λ e. pos (w e)) from +ℤ pos left ≡ pos k.cells.t_scale → 0 < left
    → record {
      row : IsWeighed w k.cells.states k.cells.t_scale (k.cells.o_scale * largest);
      inside : i < length cells;
      next : IsNext w k.cells.states from (Some (x.column, x.weight));
      after : after_cells 0 cells (i + 1) ≡ x.column + 1;
      left : (x.weight ≤ left) × (total_below (λ e. pos (w e)) (x.column + 1) +ℤ pos (left - x.weight) ≡ pos k.cells.t_scale);
    }
cell_at node s cells i left limits start is within sum some =
    let row = ends_weighed _ node.input.proper.cells limits _ s (node.input.proper.closed.actions_in_range node.n node.within) start in
    let inside = more_cells _ _ _ cells is row.all i left within sum some in
    let x = next_cell _ _ cells is i inside in
    record {
      row = row;
      inside = inside;
      next = x.0;
      after = x.1;
      left = left_step _ _ _ row.all _ _ _ left x.0.0 x.0.1 x.0.2 x.0.4 sum;
    }

pub bounds-cells-place : goal.bounds-cells-place
bounds-cells-place g c =
    let x = cell_at c.args.node.now _ c.args.cells.now c.row.place c.row.left
    (g.met.C.Cells.is_within_limits _) c.requires.start c.requires.row c.row.invariant.within
    c.row.invariant.left c.row-test.true in
    x.inside

pub offset_bounds-cells-place : goal.offset_bounds-cells-place
offset_bounds-cells-place g c =
    let x = cell_at c.args.node.now _ c.args.cells.now c.row.place c.row.left
    (g.met.C.Cells.is_within_limits _) c.requires.start c.requires.row c.row.invariant.within
    c.row.invariant.left c.row-test.true in
    let inside = x.inside in
    search rules

pub value_of-part-requires : goal.value_of-part-requires
value_of-part-requires g c =
    let x = cell_at c.args.node.now _ c.args.cells.now c.row.place c.row.left
    (g.met.C.Cells.is_within_limits _) c.requires.start c.requires.row c.row.invariant.within
    c.row.invariant.left c.row-test.true in
    c.requires.callable _ x.next.1 (omega (arith, x.next.2, x.next.3))

pub weigh-value-requires-clause-weight : goal.weigh-value-requires-clause-weight
weigh-value-requires-clause-weight g c =
    let x = cell_at c.args.node.now _ c.args.cells.now c.row.place c.row.left
    (g.met.C.Cells.is_within_limits _) c.requires.start c.requires.row c.row.invariant.within
    c.row.invariant.left c.row-test.true in
    weight_small x.row _ _ x.next.1 x.next.2

pub weigh-value-requires-clause-product : goal.weigh-value-requires-clause-product
weigh-value-requires-clause-product g c =
    let x = cell_at c.args.node.now _ c.args.cells.now c.row.place c.row.left
    (g.met.C.Cells.is_within_limits _) c.requires.start c.requires.row c.row.invariant.within
    c.row.invariant.left c.row-test.true in
    expected_room _ c.args.node.now.input.proper (g.met.C.Cells.is_within_limits _) c.args.node.now.input.values _ _ c.args.node.now.within
    c.requires.start _ _ _
    x.next.1 x.next.2 (search rules) (c.requires.value _ _ x.next.1 (omega (arith, x.next.2, x.next.3)) c.value_of-part.ensures).value

pub overflow_add-value : goal.overflow_add-value
overflow_add-value g c =
    let x = cell_at c.args.node.now _ c.args.cells.now c.row.place c.row.left
    (g.met.C.Cells.is_within_limits _) c.requires.start c.requires.row c.row.invariant.within
    c.row.invariant.left c.row-test.true in
    (expected_step _ c.args.node.now.input.proper (g.met.C.Cells.is_within_limits _) c.args.node.now.input.values _ _ c.args.node.now.within
    c.requires.start _ _ _ _ _ _ x.next
    c.row.invariant.sum (search rules) (search rules) c.weigh-value.ensures
    (c.requires.value _ _ x.next.1 (omega (arith, x.next.2, x.next.3)) c.value_of-part.ensures).value).0

pub overflow_sub-left : goal.overflow_sub-left
overflow_sub-left g c =
    let x = cell_at c.args.node.now _ c.args.cells.now c.row.place c.row.left
    (g.met.C.Cells.is_within_limits _) c.requires.start c.requires.row c.row.invariant.within
    c.row.invariant.left c.row-test.true in
    x.left.0

pub overflow_add-place : goal.overflow_add-place
overflow_add-place g c =
    let x = cell_at c.args.node.now _ c.args.cells.now c.row.place c.row.left
    (g.met.C.Cells.is_within_limits _) c.requires.start c.requires.row c.row.invariant.within
    c.row.invariant.left c.row-test.true in
    let inside = x.inside in
    search rules

pub row-smaller : goal.row-smaller
row-smaller g c =
    let x = cell_at c.args.node.now _ c.args.cells.now c.row.place c.row.left
    (g.met.C.Cells.is_within_limits _) c.requires.start c.requires.row c.row.invariant.within
    c.row.invariant.left c.row-test.true in
    omega (arith, x.next.3, x.left.0)

pub row-preserved : goal.row-preserved
row-preserved g c =
    let x = cell_at c.args.node.now _ c.args.cells.now c.row.place c.row.left
    (g.met.C.Cells.is_within_limits _) c.requires.start c.requires.row c.row.invariant.within
    c.row.invariant.left c.row-test.true in
    rw x.after (record {
      sum = (expected_step _ c.args.node.now.input.proper (g.met.C.Cells.is_within_limits _) c.args.node.now.input.values _ _
          c.args.node.now.within c.requires.start _ _ _ _ _ _ x.next
          c.row.invariant.sum (search rules) (search rules) c.weigh-value.ensures
          (c.requires.value _ _ x.next.1 (omega (arith, x.next.2, x.next.3)) c.value_of-part.ensures).value).1;
      missing = before_more (node_controller c.args.node.now) _ _ _ _ _ _ _ _ x.next.0 x.next.4 x.next.2 x.next.3
          c.row.invariant.missing (c.requires.value _ _ x.next.1 (omega (arith, x.next.2, x.next.3)) c.value_of-part.ensures).missing
          c.min_option-missing.ensures;
      within = omega (arith, x.next.1);
      left = x.left.1;
    })

pub returns : goal.returns
returns g c =
    let zero : c.row.left ≡ 0 = omega (arith, c.row-test.false) in
    let left = rw zero at c.row.invariant.left in
    let none = nothing_left _ _ _ (ends_weighed _ c.args.node.now.input.proper.cells (g.met.C.Cells.is_within_limits _) _ _
    (c.args.node.now.input.proper.closed.actions_in_range _ c.args.node.now.within) c.requires.start).all _ left in
    record {
      value = weighed_on _ _ _ _ _ c.row.invariant.within none c.row.invariant.sum;
      missing = before_on (node_controller c.args.node.now) _ _ _ _ c.row.invariant.within none _ c.row.invariant.missing;
    }

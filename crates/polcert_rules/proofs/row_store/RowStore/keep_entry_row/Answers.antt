use Rattle.std.proofs.Common.{◌∙◌, ◌≤◌, ◌*◌, ℕ, List, [], length, sym, ap, subst, arith}
use Rattle.polcert_rules.proofs.Common.{one, Cell, weight_at, scaled_cells, IsRow, IsSparse, given_at, IsAfter}
use Rattle.std.proofs.Math.Nat.{mul_comm}
use Rattle.polcert_cells.specs.Sparse.{excepted_weight}
use Rattle.polcert_cells.proofs.SparseLaws.{row_same}
use Rattle.polcert_rules.specs.Steps.Lists.{filled_cells}
use Rattle.polcert_rules.proofs.RowLaws.EvenLaws.{filled_row, sum_even}
use Rattle.polcert_rules.proofs.Indexes.KeptLaws.{whole_small, full_row}
use Rattle.polcert_rules.proofs.row_store.RowStore.keep_entry_row.Goals as goal

pub keep_numbers-requires-clause-few : goal.keep_numbers-requires-clause-few
keep_numbers-requires-clause-few c = omega (arith, c.in-Some.ensures.size, c.requires.within.columns.1)

pub keep_numbers-requires-clause-small : goal.keep_numbers-requires-clause-small
keep_numbers-requires-clause-small c = c.in-Some.ensures.small

pub returns-in-Some-clause-kept : goal.returns-in-Some-clause-kept
returns-in-Some-clause-kept c =
    let n = c.args.bodies.shape.columns in
    let ns = c.in-Some.line.now in
    record {
      cells = scaled_cells (length ns) 0 ns;
      row = full_row n _ ns c.in-Some.ensures;
      kept = subst (λ m. IsAfter m (scaled_cells (length ns) 0 ns) c.args.self.now c.keep_numbers.new.self) c.in-Some.ensures.size
          c.in_ok-keep_numbers.ensures.kept;
    }

pub keep_even-requires-clause-exceptions : goal.keep_even-requires-clause-exceptions
keep_even-requires-clause-exceptions c =
    let n = c.args.bodies.shape.columns in
    record { small = omega (arith, c.requires.within.columns.0); rise = tt; proper = sum_even one n ∙ mul_comm n one }

pub returns-then-is_uniform-clause-kept : goal.returns-then-is_uniform-clause-kept
returns-then-is_uniform-clause-kept c =
    let n = c.args.bodies.shape.columns in
    record {
      cells = filled_cells (excepted_weight one []) n;
      row = row_same n (λ i. one) _ _ (λ i l. sym (c.is_uniform.ensures c.if-is_uniform.true c.args.state i))
          (filled_row (excepted_weight one []) n);
      kept = c.in_ok-keep_even.ensures.kept;
    }

pub keep-requires-clause-sparse : goal.keep-requires-clause-sparse
keep-requires-clause-sparse c = subst (IsSparse c.args.bodies.shape.columns) (sym c.as_slice.ensures.value) c.in_ok-cells.ensures.sparse

pub keep-requires-clause-small : goal.keep-requires-clause-small
keep-requires-clause-small c i l =
    subst (λ k. k ≤ one * c.args.bodies.shape.columns) (sym
    (ap (λ xs. weight_at xs i) c.as_slice.ensures.value ∙ c.in_ok-cells.ensures.each i l))
    (whole_small _ _ _ _ i c.requires.within c.requires.whole)

pub returns-clause-kept : goal.returns-clause-kept
returns-clause-kept c =
    let n = c.args.bodies.shape.columns in
    record {
      cells = c.as_slice.result.now;
      row = subst (λ xs. IsRow n (given_at n c.args.bodies.entries.now c.args.whole c.args.state) xs)
          (sym c.as_slice.ensures.value) c.in_ok-cells.ensures;
      kept = c.in_ok-keep.ensures.kept;
    }

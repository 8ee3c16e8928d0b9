use Rattle.std.proofs.Common.{ℕ, ◌≤◌, ◌+◌, length, drop, rules, subst, FitsSigned, w64, to_z-of_z, arith}
use Rattle.polcert_items.proofs.Common.{take_rest, BeginWithNumber, IsListFed}
use Rattle.polcert_items.proofs.AheadLaws.{takes_none, takes_then, number_ahead, ends_within}
use Rattle.polcert_items.proofs.entry_reader.Numbers.feed_ahead.Goals as goal

pub returns-then-is_some : goal.returns-then-is_some
returns-then-is_some g c = takes_none (IsListFed g.T.ListNumber.kind) c.args.self.now c.args.bytes.now

pub loop-self-init : goal.loop-self-init
loop-self-init g c = record {
  sign = search rules;
  high = omega arith;
  fed = takes_none (IsListFed g.T.ListNumber.kind) c.args.self.now c.args.bytes.now;
}

pub overflow_add-at : goal.overflow_add-at
overflow_add-at g c =
    let bs = c.args.bytes.now in
    let at = c.loop-self.at in
    let front = subst (λ xs. (place : ℕ) → BeginWithNumber place xs c.in-Some.number) (take_rest bs at) c.in-Some.ensures in
    let high : at + c.in-Some.number.len ≤ length bs = ends_within bs at c.in-Some.number c.loop-self.invariant.high front in
    search rules

pub loop-self-preserved : goal.loop-self-preserved
loop-self-preserved g c =
    let kind = g.T.ListNumber.kind in
    let bs = c.args.bytes.now in
    let at = c.loop-self.at in
    let number = c.in-Some.number in
    let front = subst (λ xs. (place : ℕ) → BeginWithNumber place xs number) (take_rest bs at) c.in-Some.ensures in
    let fits : FitsSigned w64 number.value = search rules in
    let worth = simp to_z-of_z at c.of_millionths.ensures in
    let in_range = simp to_z-of_z at (rw c.range.ensures at c.in-None.ensures) in
    let next = number_ahead kind c.loop-self.self c.of_millionths.result (drop at bs) number g.met.T.ListNumber.distinct worth in_range
    c.loop-self.invariant.sign (omega arith) front _
    (λ i. record { read = c.in_ok-push-in-None.ensures.ok i; needed = c.loop-self.self.needed; sign = c.loop-self.invariant.sign i }) in
    record {
      sign = c.loop-self.invariant.sign;
      high = ends_within bs at number c.loop-self.invariant.high front;
      fed = takes_then (IsListFed kind) c.args.self.now c.loop-self.self _ bs at number.len c.loop-self.invariant.fed next;
    }

use Rattle.std.proofs.Common.{arith, ◌≡◌, ◌∙◌, ℕ, ◌*◌, ◌<◌, ◌≤◌, Some, length, slice_index, refl, sym}
use Rattle.polcert_points.proofs.Common.{CellTable, IsProper, reached}
use Rattle.polcert_cells.specs.Tables.{IsWithinLimits}
use Rattle.polcert_points.specs.Belief.{Belief}
use Rattle.polcert_points.specs.PointTable.{PointTable}
use Rattle.polcert_points.specs.Steps.PointSums.{arrival}
use Rattle.polcert_points.proofs.Arriving.{after_parts}
use Rattle.polcert_points.proofs.Rows.{all_done, done_more, rest_more, greatest_more}
use Rattle.polcert_points.proofs.belief.fill_after.Goals as goal

products : (x y u v : ℕ) → x ≡ y → u ≡ v → x * u ≡ y * v
products x y u v is also = rw (is, also) refl

pub loop-end-preserved : goal.loop-end-preserved
loop-end-preserved g c =
    let t : CellTable = g.C.Cells.table c.args.input.now.cells.now in
    let p : PointTable = g.P.BeliefPoints.table c.args.input.now.points.now in
    let f : ℕ → ℕ = arrival t (p.points.belief c.args.i) c.args.a in
    let h : ℕ → ℕ = λ k. f k * t.o c.args.a k c.args.observation in
    let from : ℕ = reached (Some c.args.ends) c.loop-end.at in
    let next = c.in-Some.ensures.0 in
    let none : (k : ℕ) → from ≤ k → k < c.in-Some.end.column → h k ≡ 0 = λ k l m. rw (next.4 k l m) (omega arith) in
    let same : (k : ℕ) → from ≤ k → k < c.in-Some.end.column → slice_index c.args.belief.now k ≡ h k =
    λ k l m. c.requires.others k (omega (arith, m, next.1)) (next.4 k l m) ∙ sym (none k l m) in
    let here : c.in-Some.end.weight * c.o.result ≡ h c.in-Some.end.column =
    products c.in-Some.end.weight (f c.in-Some.end.column) c.o.result (t.o c.args.a c.in-Some.end.column c.args.observation) next.2
    c.o.ensures in
    let room : c.in-Some.end.column < length c.loop-end.belief = omega (arith, c.loop-end.auto, c.requires.room, next.1) in
    rw c.in-Some.ensures.1 (record {
      done = done_more (slice_index c.args.belief.now) h c.loop-end.belief from c.loop-end.invariant.done c.loop-end.invariant.rest
          c.in-Some.end.column _ room same here;
      rest = rest_more (slice_index c.args.belief.now) h c.loop-end.belief from c.loop-end.invariant.done c.loop-end.invariant.rest
          c.in-Some.end.column _ next.0;
      greatest = greatest_more h from c.in-Some.end.column c.loop-end.greatest c.max-greatest.result c.loop-end.invariant.greatest none
          (omega (arith, c.max-greatest.ensures)) (rw (← here) (omega (arith, c.max-greatest.ensures)));
      within = omega (arith, next.1);
    })

pub returns-clause-belief : goal.returns-clause-belief
returns-clause-belief g c =
    let t : CellTable = g.C.Cells.table c.args.input.now.cells.now in
    let m : IsProper t = g.met.C.Cells.is_proper c.args.input.now.cells.now in
    let limits : IsWithinLimits t = g.met.C.Cells.is_within_limits c.args.input.now.cells.now in
    let p : PointTable = g.P.BeliefPoints.table c.args.input.now.points.now in
    let b : Belief = p.points.belief c.args.i in
    let h : ℕ → ℕ = λ k. arrival t b c.args.a k * t.o c.args.a k c.args.observation in
    λ e el.
    all_done (slice_index c.args.belief.now) h c.loop-end.belief (reached (Some c.args.ends) c.loop-end.at) c.loop-end.invariant.done
    c.loop-end.invariant.rest t.states
    (λ k l n. c.requires.others k n (c.in_default.ensures k l n)
    ∙ sym (zero (arrival t b c.args.a k) (t.o c.args.a k c.args.observation) (c.in_default.ensures k l n))) e el
    ∙ sym (after_parts t m limits c.args.a c.requires.action b c.args.observation e)
  where
    zero : (x y : ℕ) → x ≡ 0 → x * y ≡ 0
    zero x y is = rw is (omega arith)

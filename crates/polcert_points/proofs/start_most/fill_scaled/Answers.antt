use Rattle.std.proofs.Common.{arith, ◌≡◌, ◌∙◌, ℕ, ◌*◌, ◌<◌, ◌≤◌, Some, length, slice_index, sym}
use Rattle.polcert_cells.specs.Meaning.{states_of}
use Rattle.polcert_model.specs.Contents.{meaning}
use Rattle.polcert_points.proofs.Common.{reached}
use Rattle.polcert_points.specs.PointStartMost.{scaled_start}
use Rattle.polcert_points.proofs.Rows.{all_done, done_more, rest_more}
use Rattle.polcert_points.proofs.PointStartMosts.{not_started}
use Rattle.polcert_points.proofs.start_most.fill_scaled.Goals as goal

pub loop-state-preserved : goal.loop-state-preserved
loop-state-preserved c =
    let h : ℕ → ℕ = scaled_start (meaning c.args.model.now) in
    let from : ℕ = reached (Some c.args.start) c.loop-state.at in
    let next = c.in-Some.ensures.0 in
    let same : (k : ℕ) → from ≤ k → k < c.in-Some.state.column → slice_index c.args.belief.now k ≡ h k =
    λ k l m. c.requires.others k (omega (arith, m, next.1)) (next.4 k l m)
    ∙ sym (not_started (meaning c.args.model.now) k (next.4 k l m)) in
    let here : 1000000000000 * c.in-Some.state.weight ≡ h c.in-Some.state.column = omega (arith, next.2) in
    let room : c.in-Some.state.column < length c.loop-state.belief = omega (arith, c.loop-state.auto, c.requires.room, next.1) in
    rw c.in-Some.ensures.1 (record {
      done = done_more (slice_index c.args.belief.now) h c.loop-state.belief from c.loop-state.invariant.done c.loop-state.invariant.rest
          c.in-Some.state.column _ room same here;
      rest = rest_more (slice_index c.args.belief.now) h c.loop-state.belief from c.loop-state.invariant.done c.loop-state.invariant.rest
          c.in-Some.state.column _ next.0;
      within = omega (arith, next.1);
    })

pub returns : goal.returns
returns c =
    all_done (slice_index c.args.belief.now) (scaled_start (meaning c.args.model.now)) c.loop-state.belief
    (reached (Some c.args.start) c.loop-state.at) c.loop-state.invariant.done c.loop-state.invariant.rest
    (states_of (meaning c.args.model.now))
    (λ k l n. c.requires.others k n (c.in_default.ensures k l n)
    ∙ sym (not_started (meaning c.args.model.now) k (c.in_default.ensures k l n)))

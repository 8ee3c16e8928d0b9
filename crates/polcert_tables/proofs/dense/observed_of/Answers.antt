use Rattle.std.proofs.Common.{◌∙◌, ℕ, ◌+◌, ◌/◌, ◌%◌, ap, arith}
use Rattle.polcert_tables.proofs.Common.{length_push, table_of, meaning}
use Rattle.polcert_tables.proofs.FilledLaws as filled
use Rattle.polcert_tables.proofs.dense.observed_of.Goals as goal

pub loop-place-preserved : goal.loop-place-preserved
loop-place-preserved c =
    let cell = (meaning c.args.model.now).o in
    let states = c.states-states.result in
    let columns = c.observations-observations.result in
    let f : ℕ → ℕ = λ k. cell (k / columns / states) (k / columns % states) (k % columns) in
    record {
      size = rw c.in_ok-push.ensures.items (length_push c.loop-place.cells.items _ ∙ ap (λ n. n + 1) c.loop-place.invariant.size);
      each = rw c.in_ok-push.ensures.items (filled.filled_next c.loop-place.cells.items f c.loop-place.place _ 0 c.loop-place.invariant.size
          c.loop-place.invariant.each c.o.ensures);
    }

pub returns : goal.returns
returns c =
    filled.observations_are (table_of (meaning c.args.model.now)) c.actions.result c.states-states.result c.observations-observations.result
    c.loop-place.place c.loop-place.cells.items c.actions.ensures.elements c.states-states.ensures.elements
    c.observations-observations.ensures.elements (omega arith) c.loop-place.invariant.size c.loop-place.invariant.each

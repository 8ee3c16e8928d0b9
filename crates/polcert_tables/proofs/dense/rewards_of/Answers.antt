use Rattle.std.proofs.Common.{ℕ, ℤ, ◌/◌, ◌%◌, ◌*◌, ap, refl, arith}
use Rattle.std.proofs.lemmas.Nat.{div_below}
use Rattle.polcert_tables.proofs.Common.{observations_of, table_of, meaning}
use Rattle.polcert_tables.proofs.FilledLaws.{four_fit, row_added, rewards_are}
use Rattle.polcert_tables.proofs.dense.rewards_of.Goals as goal

pub overflow_mul-rows-3 : goal.overflow_mul-rows-3
overflow_mul-rows-3 c =
    let actions = c.actions.ensures.count in
    let states = c.states-states.ensures.count in
    let observations = c.observations.ensures.count in
    omega (
      arith,
      four_fit c.actions.result c.states-states.result c.states-states.result c.observations.result actions.1 states.1 states.1
          observations.1,
    )

pub push_rewards-requires-clause-action : goal.push_rewards-requires-clause-action
push_rewards-requires-clause-action c =
    let states = c.states-states.result in
    let some = c.states-states.ensures.count in
    let below = div_below (c.loop-row.row / states) states c.actions.result (omega (arith, some))
    (div_below c.loop-row.row states (c.actions.result * states) (omega (arith, some)) c.loop-row-test.true) in
    omega (arith, below, c.actions.ensures.elements)

pub loop-row-preserved : goal.loop-row-preserved
loop-row-preserved c =
    let cell = (meaning c.args.model.now).r in
    let states = c.states-states.result in
    let columns = observations_of (meaning c.args.model.now) in
    let f : ℕ → ℕ → ℤ = λ row z. cell (row / states / states) (row / states % states) (row % states) z in
    let adds = c.in_ok-push_rewards.ensures in
    record {
      size = omega (arith, adds.size, c.loop-row.invariant.size);
      each = row_added f c.loop-row.row columns c.loop-row.cells.items c.push_rewards.new.cells.items c.loop-row.invariant.size
          c.loop-row.invariant.each adds;
    }

pub returns : goal.returns
returns c =
    rewards_are (table_of (meaning c.args.model.now)) c.actions.result c.states-states.result (observations_of (meaning c.args.model.now))
    (c.loop-row.row * observations_of (meaning c.args.model.now)) c.loop-row.cells.items c.actions.ensures.elements
    c.states-states.ensures.elements refl (ap (λ n. n * observations_of (meaning c.args.model.now))
    (omega (arith, c.loop-row-test.false, c.loop-row.auto.row-end))) c.loop-row.invariant.size c.loop-row.invariant.each

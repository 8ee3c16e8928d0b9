use Rattle.std.proofs.Common.{ℕ, ◌*◌, pos, slice_index, slice_index_or, arith, rules}
use Rattle.polcert_points.proofs.Charging.{product_back, covered_small, covered_step}
use Rattle.polcert_points.proofs.cover.covered.Goals as goal

pub overflow_add-result : goal.overflow_add-result
overflow_add-result c =
    let w : ℕ = c.args.times * c.args.mass in
    rw (product_back w c.args.value (omega (arith, c.requires.whole)) c.requires.value)
    ((covered_step (slice_index c.args.left.now) (λ s. slice_index_or c.args.charges.now s (pos 0)) _ w c.args.value c.requires.small
    c.requires.value c.requires.whole c.charged-rest.result c.charged-rest.ensures (search rules)).0)

pub returns-clause-value : goal.returns-clause-value
returns-clause-value c =
    let w : ℕ = c.args.times * c.args.mass in
    rw (product_back w c.args.value (omega (arith, c.requires.whole)) c.requires.value)
    ((covered_step (slice_index c.args.left.now) (λ s. slice_index_or c.args.charges.now s (pos 0)) _ w c.args.value c.requires.small
    c.requires.value c.requires.whole c.charged-rest.result c.charged-rest.ensures (search rules)).1)

pub returns-clause-small : goal.returns-clause-small
returns-clause-small c =
    let w : ℕ = c.args.times * c.args.mass in
    rw (
      product_back w c.args.value (omega (arith, c.requires.whole))
          c.requires.value,
      (covered_step (slice_index c.args.left.now) (λ s. slice_index_or c.args.charges.now s (pos 0)) _ w c.args.value
          c.requires.small c.requires.value c.requires.whole c.charged-rest.result c.charged-rest.ensures (search rules)).1,
    )
    (covered_small (slice_index c.args.left.now) (λ s. slice_index_or c.args.charges.now s (pos 0)) _ w c.args.value c.requires.small
    c.requires.value c.requires.whole)

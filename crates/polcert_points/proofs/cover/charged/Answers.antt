use Rattle.std.proofs.Common.{ℕ, ℤ, ◌<◌, pos, Some, length, slice_index, slice_index_or, to_z, arith, add-one}
use Rattle.std.proofs.lemmas.Int.{fits_signed_from_abs}
use Rattle.polcert_points.proofs.Common.{w128, reached}
use Rattle.polcert_points.proofs.Charging.{weight_few, product_back, product_fits, charge_step, charges_on}
use Rattle.polcert_points.proofs.cover.charged.Goals as goal

pub overflow_cast-sum : goal.overflow_cast-sum
overflow_cast-sum c = fits_signed_from_abs w128 _ (omega
    (arith, weight_few (slice_index c.args.belief.now) 5000000000000000000000000 _ c.in-Some.end.column c.requires.few c.in-Some.ensures.1))

pub overflow_mul-sum : goal.overflow_mul-sum
overflow_mul-sum c =
    let s : ℕ = c.in-Some.end.column in
    let within : s < length c.args.belief.now = c.in-Some.ensures.1 in
    let x : ℤ = slice_index_or c.args.charges.now s (pos 0) in
    let few = weight_few (slice_index c.args.belief.now) 5000000000000000000000000 _ s c.requires.few within in
    rw (product_back (slice_index c.args.belief.now s) x few (c.requires.small s within))
    (product_fits (slice_index c.args.belief.now s) x few (c.requires.small s within))

pub overflow_add-sum : goal.overflow_add-sum
overflow_add-sum c =
    let s : ℕ = c.in-Some.end.column in
    let within : s < length c.args.belief.now = c.in-Some.ensures.1 in
    let x : ℤ = slice_index_or c.args.charges.now s (pos 0) in
    let few = weight_few (slice_index c.args.belief.now) 5000000000000000000000000 _ s c.requires.few within in
    rw (product_back (slice_index c.args.belief.now s) x few (c.requires.small s within))
    ((charge_step (slice_index c.args.belief.now) (λ k. slice_index_or c.args.charges.now k (pos 0)) _ s (to_z w128 c.loop-end.sum-bits)
    c.requires.few c.requires.small within
    (charges_on (slice_index c.args.belief.now) (λ k. slice_index_or c.args.charges.now k (pos 0))
    (reached (Some c.args.ends) c.loop-end.at) s _ c.in-Some.ensures.0 c.in-Some.ensures.2 c.loop-end.invariant.sum)).0)

pub loop-end-preserved : goal.loop-end-preserved
loop-end-preserved c =
    let s : ℕ = c.in-Some.end.column in
    let within : s < length c.args.belief.now = c.in-Some.ensures.1 in
    let x : ℤ = slice_index_or c.args.charges.now s (pos 0) in
    let few = weight_few (slice_index c.args.belief.now) 5000000000000000000000000 _ s c.requires.few within in
    rw c.in-Some.ensures.3 (record {
      sum = rw (add-one, product_back (slice_index c.args.belief.now s) x few (c.requires.small s within))
          ((charge_step (slice_index c.args.belief.now) (λ k. slice_index_or c.args.charges.now k (pos 0)) _ s
          (to_z w128 c.loop-end.sum-bits) c.requires.few c.requires.small within
          (charges_on (slice_index c.args.belief.now) (λ k. slice_index_or c.args.charges.now k (pos 0))
          (reached (Some c.args.ends) c.loop-end.at) s _ c.in-Some.ensures.0 c.in-Some.ensures.2 c.loop-end.invariant.sum)).1);
      within = omega (arith, within);
    })

pub returns : goal.returns
returns c =
    charges_on (slice_index c.args.belief.now) (λ k. slice_index_or c.args.charges.now k (pos 0)) (reached (Some c.args.ends) c.loop-end.at)
    (length c.args.belief.now) _ c.loop-end.invariant.within c.in_default.ensures c.loop-end.invariant.sum

use Rattle.std.proofs.Common.{◌*◌, ◌≤◌}
use Rattle.std.proofs.Common.{rules, arith, ◌≡◌, ◌∙◌, ◌^◌, ◌<◌, ℤ, pos, ◌*ℤ◌, unsigned_abs, FitsSigned, w64, refl, ap}
use Rattle.polcert_check.proofs.Common.{w128, unsigned_abs-mul}
use Rattle.std.proofs.lemmas.Int.{to_z-of_z}
use Rattle.polcert_check.proofs.Sums.Bounds.{fits_128}
use Rattle.polcert_check.proofs.Walking.Excepted.{small_of}
use Rattle.polcert_check.proofs.Walking.Products.{product_small}
use Rattle.polcert_check.proofs.end_values.product.Goals as goal

pub weigh-requires-clause-product : goal.weigh-requires-clause-product
weigh-requires-clause-product c =
    let fits : FitsSigned w64 c.args.value = search rules in
    let le : unsigned_abs c.args.value ≤ 2 ^ 63 = small_of c.args.value fits in
    let wide : FitsSigned w128 c.args.value = fits_128 c.args.value (2 ^ 63) le (omega arith) in
    let few : c.args.number < 2 ^ 32 = search rules in
    let small : c.args.number * unsigned_abs c.args.value ≤ 2 ^ 95 = product_small c.args.number c.args.value few le in
    simp to_z-of_z (omega (arith, small))

pub returns-clause-small : goal.returns-clause-small
returns-clause-small c =
    let fits : FitsSigned w64 c.args.value = search rules in
    let le : unsigned_abs c.args.value ≤ 2 ^ 63 = small_of c.args.value fits in
    let wide : FitsSigned w128 c.args.value = fits_128 c.args.value (2 ^ 63) le (omega arith) in
    let few : c.args.number < 2 ^ 32 = search rules in
    let small : c.args.number * unsigned_abs c.args.value ≤ 2 ^ 95 = product_small c.args.number c.args.value few le in
    let same : c.weigh.result ≡ pos c.args.number *ℤ c.args.value = c.weigh.ensures ∙ (simp to_z-of_z refl) in
    let size : unsigned_abs (pos c.args.number *ℤ c.args.value) ≡ c.args.number * unsigned_abs c.args.value =
    unsigned_abs-mul (pos c.args.number) c.args.value in
    let result : unsigned_abs c.weigh.result ≡ unsigned_abs (pos c.args.number *ℤ c.args.value) = ap (λ (x : ℤ). unsigned_abs x) same in
    rw (to_z-of_z w128 c.weigh.result (search rules)) (omega (arith, small, size, result))

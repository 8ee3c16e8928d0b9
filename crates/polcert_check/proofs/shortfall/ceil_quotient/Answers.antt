use Rattle.std.proofs.Common.{◌≡◌, ℕ, ◌+◌, ◌*◌, ◌-◌, ◌/◌, ◌<◌, ◌≤◌, arith}
use Rattle.std.proofs.lemmas.Nat.{div-add-mod'}
use Rattle.std.proofs.Math.Nat.{mul-le-mul_left}
use Rattle.polcert_check.proofs.shortfall.ceil_quotient.Goals as goal

enough : (a d : ℕ) → 0 < d → a ≤ d * ((a - 1) / d + 1)
enough a d some = omega arith

least : (a d e : ℕ) → 0 < d → 0 < a → e < (a - 1) / d + 1 → d * e < a
least a d e some positive less =
    let l : e ≤ (a - 1) / d = omega arith in
    omega (arith, div-add-mod' (a - 1) d, mul-le-mul_left d l)

pub returns-clause-enough : goal.returns-clause-enough
returns-clause-enough c = enough _ _ c.requires.some

pub returns-clause-least : goal.returns-clause-least
returns-clause-least c = λ d. least _ _ d c.requires.some (omega arith)

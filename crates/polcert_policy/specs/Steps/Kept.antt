-- Helper definitions of private functions: how numbers of a graph are kept. Nobody has to believe them.
use Rattle.std.specs.Prelude.{◌≡◌, ℕ, ◌<◌, ◌==◌, Bool, true, false, Option, Some, None, min, refl, if◌then◌else◌}
use Rattle.std.proofs.Common.{sym}
use Rattle.std.proofs.lemmas.Bool.{eqb-true}

-- numbers above this are kept as this, until the number of nodes is known
abbrev pub cap : ℕ
cap = 1_000_000

-- a number as it is kept
abbrev pub kept_of : Option ℕ → Option ℕ
kept_of None = None
kept_of (Some n) = Some (min cap n)

-- the number that stands for none
abbrev pub none_number : ℕ
none_number = 4_294_967_295

-- what a kept number stands for
abbrev pub decoded_number : ℕ → Option ℕ
decoded_number n = if n == none_number then None else Some n

abbrev pub encoded_number : Option ℕ → ℕ
encoded_number None = none_number
encoded_number (Some n) = n

abbrev pub IsKeepable : Option ℕ → Type 0
IsKeepable None = Unit {0}
IsKeepable (Some n) = n < none_number

pub number_of-shown : (n : ℕ) → encoded_number (decoded_number n) ≡ n
number_of-shown n = at (n == none_number) refl
  where
    at : (b : Bool) → (n == none_number) ≡ b → encoded_number (if b then None else Some n) ≡ n
    at true e = sym (eqb-true n none_number e)
    at false e = refl

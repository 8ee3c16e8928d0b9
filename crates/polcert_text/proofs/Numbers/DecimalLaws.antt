-- The decimals of a number, digit by digit.
use Rattle.std.proofs.Common.{◌≡◌, ◌∙◌, ℕ, suc, ◌+◌, ◌-◌, ◌/◌, ◌%◌, ◌^◌, ◌<◌, ◌≤◌, false, List, [], ◌∷◌, ◌++◌, ap, sym, refl}
use Rattle.std.proofs.Common.{length, length-append, arith, append_assoc}
use Rattle.std.specs.Prelude.{◌==◌}
use Rattle.polcert_text.proofs.Common.{one-le-pow, decimals}
use Rattle.std.proofs.Math.Nat.{pow-suc, mod-lt, div-lt_iff_lt-mul}

pub ten_pos : (k : ℕ) → 0 < 10 ^ k
ten_pos k = one-le-pow k 10 (omega arith)

not_zero : (r : ℕ) → 0 < r → (r == 0) ≡ false
not_zero = grind arith

pub decimals-zero : (k : ℕ) → decimals k 0 ≡ []
unfolding decimals
decimals-zero = grind arith

decimals-suc : (k r : ℕ) → 0 < r → decimals (suc k) r ≡ (48 + r / 10 ^ k) ∷ decimals k (r % 10 ^ k)
unfolding decimals
decimals-suc k r h = simp (not_zero r h)

pub some_places : (k r : ℕ) → 0 < r → r < 10 ^ k → 0 < k
some_places = grind arith

pub decimals-step : (k r : ℕ) → 0 < r → 0 < k → decimals k r ≡ (48 + r / 10 ^ (k - 1)) ∷ decimals (k - 1) (r % 10 ^ (k - 1))
decimals-step k r h pos = ap (λ n. decimals n r) (omega arith) ∙ decimals-suc (k - 1) r h

pub digit_below_suc : (k r : ℕ) → r < 10 ^ suc k → r / 10 ^ k < 10
digit_below_suc k r l = (div-lt_iff_lt-mul {x = r} {y = 10} (ten_pos k)).1 (omega arith)

pub digit_below : (k r : ℕ) → 0 < k → r < 10 ^ k → r / 10 ^ (k - 1) < 10
digit_below = grind (arith, digit_below_suc)

pub one_digit : (front : List ℕ) (d : ℕ) (more : List ℕ) → (front ++ d ∷ []) ++ more ≡ front ++ d ∷ more
one_digit front d more = append_assoc front _ more

-- a unit, what is left below it, and what is written of the whole text
pub record IsUnit (unit rest : ℕ) (front whole : List ℕ) : Type 0 where
  pub places : ℕ
  pub power : unit ≡ 10 ^ places
  pub below : rest < 10 ^ places
  pub room : length front + places ≤ 24
  pub written : front ++ decimals places rest ≡ whole

-- what the next smaller unit leaves
pub record IsDigit (unit rest : ℕ) (front whole : List ℕ) : Type 0 where
  pub some : 0 < unit
  pub digit : rest / unit < 10
  pub room : length front < 24
  pub next : IsUnit unit (rest % unit) (front ++ (48 + rest / unit) ∷ []) whole

pub next_digit : (unit rest : ℕ) (front whole : List ℕ) → IsUnit unit rest front whole → 0 < rest → IsDigit (unit / 10) rest front whole
next_digit unit rest front whole u h =
    let k = u.places in
    let pos = some_places k rest h u.below in
    let e : k ≡ suc (k - 1) = omega arith in
    let tenth : unit / 10 ≡ 10 ^ (k - 1) = omega (arith, ap (λ n. 10 ^ n) e, pow-suc 10 (k - 1)) in
    let digit = (48 + rest / 10 ^ (k - 1)) ∷ [] in
    let more =
    one_digit front _ _
    ∙ ap (λ ds. front ++ ds) (sym (decimals-step k rest h pos)) ∙ u.written in
    rw tenth (record {
      some = ten_pos (k - 1);
      digit = digit_below k rest pos u.below;
      room = omega arith;
      next = record {
        places = k - 1;
        power = refl;
        below = mod-lt rest (ten_pos (k - 1));
        room = omega (arith, length-append front digit);
        written = more;
      };
    })

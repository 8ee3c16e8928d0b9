-- Numerals that end within some bytes, measured: digits, a point, and however many decimals.
use Rattle.std.proofs.Common.{◌≡◌, ◌∙◌, ◌⊎◌, inl, inr, ⊎_elim, ℕ, ◌+◌, ◌-◌, ◌*◌, ◌^◌, ◌<◌, ◌≤◌, ◌||◌, min, Bool, false}
use Rattle.std.proofs.Common.{List, ◌++◌, length, take, drop, get_or, sym, ap, subst, arith}
use Rattle.polcert_text.proofs.Common.{drop-take, list_any, digits_value, class_of, largest, IsReadable, AreDigitsFrom, EndsAsSize}
use Rattle.polcert_text.proofs.Common.{is_nonzero, ceiling, Measures, Point}
use Rattle.std.proofs.lemmas.List.{get_or-take, get_or-drop, length-take-le, length-drop, take-take}
use Rattle.std.proofs.lemmas.List.Folds.{list_any_more}
use Rattle.polcert_text.proofs.Numbers.FrontNumbers.{below_scaled, unscaled, measured_exactly}
use Rattle.polcert_text.proofs.Numbers.Plain.{IsPlain, plain_measures}
use Rattle.polcert_text.proofs.Numbers.PlainWhole.{whole_measures}
use Rattle.polcert_text.specs.Steps.ScanOf.{EndsAsNumber}
use Rattle.polcert_text.specs.declared.front_numerals.FrontSize.{FrontSize}

module _ (bs : List ℕ) where
  in_front : (n from until : ℕ) → until ≤ n → AreDigitsFrom bs from until → AreDigitsFrom (take n bs) from until
  in_front n from until few digits = λ k low below. ap class_of (get_or-take n bs k 0 (omega arith)) ∙ digits k low below

  -- the size of a numeral of digits
  pub digits_measure : (n number : ℕ) → 0 < n → n ≤ 400 → n ≤ length bs → AreDigitsFrom bs 0 n
      → number ≡ digits_value 10 (take n bs) → number * 1000000 < largest
      → IsReadable (take n bs) × Measures (take n bs) (number * 1000000) false × (ceiling (number * 1000000) false ≤ largest)
  digits_measure n number some short high digits value small =
      let len = length-take-le n bs high in
      whole_measures _ (omega arith) (λ k low below. in_front n 0 n (omega arith) digits k low (omega arith))
      number (omega arith) value small

  -- the size of a numeral of digits, a point and decimals, of which those after the sixth are not kept
  pub decimal_measures : (p kept n floor : ℕ) (is_inexact : Bool) → ((0 < p) ⊎ (1 < n)) → p + 1 ≤ kept → kept ≤ n
      → kept ≡ min n (p + 7) → n ≤ 400 → n ≤ length bs
      → AreDigitsFrom bs 0 p → class_of (get_or bs p 0) ≡ Point → AreDigitsFrom bs (p + 1) n
      → floor ≡ digits_value 10 (take p bs ++ take (kept - (p + 1)) (drop (p + 1) bs)) * 10 ^ (p + 7 - kept) → floor < largest
      → is_inexact ≡ list_any is_nonzero (take (n - kept) (drop kept bs))
      → IsReadable (take n bs) × Measures (take n bs) floor is_inexact × (ceiling floor is_inexact ≤ largest)
  decimal_measures p kept n floor is_inexact some low few kept_is short high first point second scaled small inexact =
      let number = digits_value 10 (take p bs ++ take _ _) in
      let below = below_scaled number _ floor scaled small in
      let ns = take n bs in
      let len = length-take-le n bs high in
      let plain : IsPlain ns p = record {
        inside = omega arith;
        some = ⊎_elim inl (λ more. inr (omega arith)) some;
        first = in_front n 0 p (omega arith) first;
        point = ap class_of (get_or-take n bs p 0 (omega arith)) ∙ point;
        second = λ k l h. in_front n (p + 1) n (omega arith) second k l (omega arith);
      } in
      let all : p + 1 + (n - (p + 1)) ≡ n = omega arith in
      let rest : kept + (n - kept) ≡ n = omega arith in
      let front = take-take p n bs (omega arith) in
      let left : drop kept ns ≡ take (n - kept) (drop kept bs) = ap (λ m. drop kept (take m bs)) (sym rest)
      ∙ drop-take kept (n - kept) bs in
      plain_measures ns p plain number floor kept is_inexact (omega (arith, len)) (kept_is ∙ ap (λ m. min m (p + 7)) (sym len))
      (ap (digits_value 10) (λ i. sym front i ++ sym (ap (λ m. take (kept - (p + 1)) (drop (p + 1) (take m bs))) (sym all)
      ∙ ap (take (kept - (p + 1))) (drop-take (p + 1) (n - (p + 1)) bs)
      ∙ take-take (kept - (p + 1)) (n - (p + 1)) (drop (p + 1) bs) (omega arith)) i)) below
      (unscaled number (p + 7 - kept) floor below scaled small) small
      (inexact ∙ ap (list_any is_nonzero) (sym left))

  pub none_yet : (from : ℕ) → false ≡ list_any is_nonzero (take (from - from) (drop from bs))
  none_yet from =
      let none : 0 ≡ from - from = omega arith in
      ap (λ n. list_any is_nonzero (take n (drop from bs))) none

  -- one more digit
  pub nonzero_more : (from at : ℕ) (was : Bool) → from ≤ at → at < length bs
      → was ≡ list_any is_nonzero (take (at - from) (drop from bs))
      → (was || is_nonzero (get_or bs at 0)) ≡ list_any is_nonzero (take (at + 1 - from) (drop from bs))
  nonzero_more from at was low inside is =
      let n : ℕ = at - from in
      let next : at + 1 - from ≡ n + 1 = omega arith in
      let place : from + n ≡ at = omega arith in
      (λ i. is i || is_nonzero (sym (get_or-drop from bs n 0 ∙ ap (λ k. get_or bs k 0) place) i))
      ∙ sym (list_any_more is_nonzero (drop from bs) n 0 (omega (arith, length-drop from bs)))
      ∙ ap (λ m. list_any is_nonzero (take m (drop from bs))) (sym next)

  -- what is left where nothing was cut off
  pub exact_number : (numeral : FrontSize) → numeral.size.is_inexact ≡ false → EndsAsSize bs numeral
      → EndsAsNumber bs (record { len = numeral.len; value = numeral.size.floor })
  exact_number numeral exact e = record {
    begins = e.begins;
    ends = e.ends;
    short = e.short;
    apart = e.apart;
    readable = e.readable;
    exact = measured_exactly _ _ (subst (Measures _ _) exact e.measures);
    small = subst (λ b. ceiling numeral.size.floor b ≤ largest) exact e.top;
  }

-- A numeral rounded down and up, and whether it is at most 1.
use Rattle.std.proofs.Common.{◌≡◌, ◌∙◌, ℕ, ℤ, pos, ◌*◌, ◌<◌, ◌≤◌, ◌≤ℤ◌, ◌<ℤ◌, ◌*ℤ◌, ◌⊎◌, ⊎_elim, false, List, sym, ap, subst, arith}
use Rattle.std.specs.Prelude.{unsigned_abs}
use Rattle.std.proofs.lemmas.Int.{to_z-of_z}
use mir.Syntax.{w64}
use mir.Val.{to_z, of_z}
use lib.Signed.{lt_z}
use Rattle.polcert_policy.proofs.Common.{ints, size_of, IsReadable, Up, Down}
use Rattle.polcert_policy.proofs.VectorEndLaws.{rounded_in_range, in_range_fits}
use Rattle.polcert_text.specs.Numbers.{IsFloor, IsCeil, millionth}
use Rattle.polcert_text.proofs.Numbers.SignedLaws.{signed-mul, le_times_back}
use Rattle.polcert_text.proofs.Numbers.SizeLaws.{millionth_pos}
use Rattle.polcert_cells.specs.Numbers.{one}
use Rattle.polcert_policy.specs.PointTokens.{IsWeight}

le_pos : (a b : ℕ) → pos a ≤ℤ pos b → a ≤ b
le_pos a b h = omega (arith, ints)

le_pos_from : (a b : ℕ) → a ≤ b → pos a ≤ℤ pos b
le_pos_from a b h = omega (arith, ints)

times_pos : (n : ℕ) → pos n *ℤ pos millionth ≡ pos (n * millionth)
times_pos n = signed-mul false n millionth

at_least : (m n : ℕ) → (m ≤ n) ⊎ (n < m)
at_least m n = grind arith

through : (a b c : ℤ) → a ≤ℤ b → b ≤ℤ c → a ≤ℤ c
through a b c x y = omega (arith, ints)

module _ (bs : List ℕ) (h : ℤ) where
  -- a floor of so many whole millionths, at least, is at most the value
  floor_from : (n : ℕ) → IsFloor false bs h → n * millionth ≤ size_of bs → pos n ≤ℤ h
  floor_from n is l = is.greatest (pos n) (subst (λ x. x ≤ℤ pos (size_of bs)) (sym (times_pos n)) (le_pos_from _ (size_of bs) l))

  pub floor_positive : IsFloor false bs h → pos 0 ≤ℤ h
  floor_positive is = floor_from 0 is (omega arith)

  pub below_one : IsFloor false bs h → h <ℤ pos one → size_of bs ≤ one * millionth
  below_one is l = ⊎_elim (λ (above : one * millionth ≤ size_of bs). absurd (apart (floor_from one is above)))
      (λ (below : size_of bs < one * millionth). omega (arith, below)) (at_least _ (size_of bs))
    where
      apart : pos one ≤ℤ h → ⊥
      apart k = omega (arith, ints)

  pub ceiling_at_most : IsCeil false bs h → h ≤ℤ pos one → size_of bs ≤ one * millionth
  ceiling_at_most is l = ⊎_elim (λ (few : size_of bs ≤ one * millionth). few) (λ (many : one * millionth < size_of bs). absurd (wrong many))
      (at_least (size_of bs) _)
    where
      wrong : one * millionth < size_of bs → ⊥
      wrong many =
          let below = le_pos_from _ (size_of bs) (omega (arith, many)) in
          let above = le_times_back millionth millionth_pos (pos one) h
          (through _ _ _ (subst (λ x. x ≤ℤ pos (size_of bs)) (sym (times_pos one)) below) is.not_below) in
          let same : h ≡ pos one = omega (arith, ints) in
          let most = le_pos (size_of bs) _ (subst (λ x. pos (size_of bs) ≤ℤ x) (times_pos one)
          (subst (λ x. pos (size_of bs) ≤ℤ (x *ℤ pos millionth)) same is.not_below)) in
          omega arith

  pub ceiling_above : IsCeil false bs h → pos one <ℤ h → one * millionth < size_of bs
  ceiling_above is l = ⊎_elim (λ (few : size_of bs ≤ one * millionth). absurd
      (apart (is.least (pos one) (subst (λ x. pos (size_of bs) ≤ℤ x) (sym (times_pos one))
      (le_pos_from (size_of bs) _ few))))) (λ (many : one * millionth < size_of bs). many)
      (at_least (size_of bs) _)
    where
      apart : h ≤ℤ pos one → ⊥
      apart k = omega (arith, ints)

pub weight_small : (bs : List ℕ) (w : ℕ) → IsWeight bs w → w ≤ one
weight_small bs w is =
    le_pos w one (le_times_back millionth millionth_pos (pos w) (pos one)
    (through _ _ _ is.rounded.not_above (subst (λ x. pos (size_of bs) ≤ℤ x) (sym (times_pos one))
    (le_pos_from (size_of bs) _ is.at_most_one))))

-- ---- as they are computed

pos_abs : (h : ℤ) → pos 0 ≤ℤ h → pos (unsigned_abs h) ≡ h
pos_abs h l = grind (arith, ints)

pub floor_weight : (bs : List ℕ) (h : ℤ) → IsReadable bs → size_of bs ≤ one * millionth → IsFloor false bs h
    → IsWeight bs (unsigned_abs (to_z w64 (of_z w64 h)))
floor_weight bs h readable small is =
    let fits = in_range_fits h (rounded_in_range Down false bs h readable is) in
    record {
      readable = readable;
      at_most_one = small;
      rounded =
          subst (IsFloor false bs) (sym (ap (λ x. pos (unsigned_abs x)) (to_z-of_z w64 h fits) ∙ pos_abs h (floor_positive bs h is))) is;
    }

not_above : (x : ℤ) → lt_z (pos 1000000) x ≡ false → x ≤ℤ pos one
not_above x h = grind (arith, ints)

pub small_ceiling : (bs : List ℕ) (h : ℤ) → IsReadable bs → IsCeil false bs h → lt_z (pos 1000000) (to_z w64 (of_z w64 h)) ≡ false
    → size_of bs ≤ one * millionth
small_ceiling bs h readable is test =
    ceiling_at_most bs h is (not_above h (subst (λ x. lt_z (pos 1000000) x ≡ false)
    (to_z-of_z w64 h (in_range_fits h (rounded_in_range Up false bs h readable is))) test))

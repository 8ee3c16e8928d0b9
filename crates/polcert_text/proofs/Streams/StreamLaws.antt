-- What a stream skips and reads, step by step.
use Rattle.std.proofs.Common.{◌≡◌, ◌∙◌, ◌+◌, ◌-◌, ◌<◌, ◌≤◌, ℕ, zero, suc, min, Bool, true, false, Option, Some, List, [], ◌∷◌, ◌++◌, length}
use Rattle.std.proofs.Common.{take, get_or, refl, sym, ap, append-nil, append_assoc, length-append, arith}
use Rattle.polcert_text.proofs.Common.{take_more, class_of, is_empty, gap_after, gap_through, nothing, more, Ahead, rest_with, CanFollow}
use Rattle.polcert_text.proofs.Common.{ReadsFrom, visible, skip, IsReadToLimit, Fills, ReadsOn, Gap}
use Rattle.std.proofs.lemmas.List.{take-append-drop, length-take, length-take-le}
use Rattle.polcert_text.proofs.Scanning.GapLaws.{gap_through-append}

-- a step of the loop over a gap
pub skipped_step : (start : Gap) (bs : List ℕ) (i : ℕ) (gap next : Gap) → i < length bs → gap_through start (take i bs) ≡ gap
    → next ≡ gap_after gap (class_of (get_or bs i 0)) → gap_through start (take (i + 1) bs) ≡ next
skipped_step start bs i gap next inside was is =
    ap (gap_through start) (take_more bs i 0 inside) ∙ gap_through-append start (take i bs) _
    ∙ ap (λ g. gap_after g (class_of (get_or bs i 0))) was ∙ sym is

take_both : (k : ℕ) (xs ys : List ℕ) → take k (xs ++ ys) ≡ take k xs ++ take (k - length xs) ys
take_both zero xs ys = let none : zero - length xs ≡ 0 = omega arith in ap (λ n. take n ys) (sym none)
take_both (suc k) [] ys = let all : suc k - 0 ≡ suc k = omega arith in ap (λ n. take n ys) (sym all)
take_both (suc k) (x ∷ xs) ys = grind (arith, take_both k xs ys)

-- what follows the bytes below the limit, where more is read
abbrev pub tail_of : Ahead → List ℕ → List ℕ
tail_of a rest = take (a.limit - a.place - length a.kept) rest

pub rest_bytes : (a : Ahead) (rest : List ℕ) → (rest_with a rest).bytes ≡ visible a ++ tail_of a rest
rest_bytes a rest = take_both _ a.kept rest

pub visible_len : (a : Ahead) → length (visible a) ≡ min (a.limit - a.place) (length a.kept)
visible_len a = length-take _ a.kept

-- there is no such tail where no byte below the limit is still to come
pub no_tail : (a : Ahead) (rest : List ℕ) → CanFollow a rest → IsReadToLimit a → tail_of a rest ≡ []
no_tail = grind arith

module _ {S : Type 0} (reads : S → ℕ → Option (List ℕ) → S → Type 0) (failures : S → ℕ) where
  pub from_nothing : (b : Bool) (s : S) → ReadsFrom reads b s [] b s
  from_nothing true s = (refl, refl, refl)
  from_nothing false s = nothing

  -- nothing was skipped or read
  pub reads_nothing : (a : Ahead) (s : S) → a.place ≤ a.limit → ReadsOn reads failures a s [] [] a s
  reads_nothing = grind (arith, append-nil, from_nothing)

  -- bytes more were skipped
  pub reads_skip : (old : Ahead) (s : S) (skipped given : List ℕ) (now : Ahead) (t : S) (n : ℕ)
      → ReadsOn reads failures old s skipped given now t
      → n ≤ length (visible now) → ReadsOn reads failures old s (skipped ++ take n now.kept) given (skip n now) t
  reads_skip = grind (arith, append_assoc, length-append, take-append-drop, length-take-le, visible_len)

  fill_from : (whole now_whole : Bool) (s t u : S) (given more_given : List ℕ) (room : ℕ) → ReadsFrom reads whole s given now_whole t
      → now_whole ≡ false
      → 0 < room → reads t room (Some more_given) u → ReadsFrom reads whole s (given ++ more_given) (is_empty more_given) u
  fill_from true now_whole s t u given more_given room was unended has_room call = absurd (cc)
  fill_from false true s t u given more_given room was unended has_room call = absurd (cc)
  fill_from false false s t u given [] room was unended has_room call = grind (arith, append-nil)
  fill_from false false s t u given (b ∷ bs) room was unended has_room call = more was call (omega arith)

  -- one read more
  pub reads_fill : (old : Ahead) (s : S) (skipped given : List ℕ) (now : Ahead) (t : S) (is_more : Bool) (new : Ahead) (u : S)
      → ReadsOn reads failures old s skipped given now t
      → now.is_whole ≡ false → (f : Fills reads failures now t is_more new u)
      → ReadsOn reads failures old s skipped (given ++ f.given) new u
  reads_fill = grind (arith, append_assoc, fill_from)

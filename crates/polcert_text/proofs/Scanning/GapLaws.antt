-- Reading a gap byte by byte finds its longest front.
use Rattle.std.proofs.Common.{◌≡◌, ◌∙◌, ℕ, ◌+◌, Bool, true, false, List, [], ◌∷◌, ◌++◌, take, drop, refl, ap, arith, ◌<◌, ◌≤◌, length}
use Rattle.std.proofs.Common.{get_or, sym, append-nil}
use Rattle.polcert_text.proofs.Common.{take_more, IsLongestGap, list_all, is_blank, is_hash, is_line_end, class_of, is_gap, gap_after}
use Rattle.polcert_text.proofs.Common.{gap_through, Gap, Between, Comment, Ended}
use Rattle.std.proofs.lemmas.List.{take-take, take-append-drop}
use Rattle.std.specs.List.{slice_split, onto_first}
use Rattle.polcert_text.specs.Gaps.{is_gap_line}
use Rattle.polcert_text.proofs.Scanning.Tests.{blank_by, hash_by, line_end_by}
use Rattle.polcert_text.proofs.Scanning.BeforeFirst.{before_first-pass}

-- all lines but the first are right
abbrev others_right : List (List ℕ) → Bool
others_right [] = true
others_right (line ∷ lines) = list_all is_gap_line lines

-- the bytes continue what has been read so far as a gap
abbrev pub continues : Gap → List ℕ → Bool
continues Between bs = is_gap bs
continues Comment bs = others_right (slice_split is_line_end bs)
continues Ended bs = false

others-onto_first : (b : ℕ) (lines : List (List ℕ)) → others_right (onto_first b lines) ≡ others_right lines
others-onto_first = grind arith

is_gap_line-blank : (b : ℕ) (line : List ℕ) → is_hash b ≡ false → is_blank b ≡ true → is_gap_line (b ∷ line) ≡ is_gap_line line
is_gap_line-blank b line e f = simp (before_first-pass is_hash b line e, f)

all-onto_blank : (b : ℕ) (lines : List (List ℕ)) → is_hash b ≡ false → is_blank b ≡ true
    → list_all is_gap_line (onto_first b lines) ≡ list_all is_gap_line lines
all-onto_blank = grind (arith, is_gap_line-blank)

all-onto_hash : (b : ℕ) (lines : List (List ℕ)) → is_hash b ≡ true → list_all is_gap_line (onto_first b lines) ≡ others_right lines
all-onto_hash = grind arith

all-onto_other : (b : ℕ) (lines : List (List ℕ)) → is_hash b ≡ false → is_blank b ≡ false
    → list_all is_gap_line (onto_first b lines) ≡ false
all-onto_other = grind (arith, before_first-pass)

-- the same for several bytes
pub continues_through : (gap : Gap) (front rest : List ℕ) → continues gap (front ++ rest) ≡ continues (gap_through gap front) rest
continues_through gap [] rest = refl
continues_through gap (b ∷ bs) rest = grind
    (arith, blank_by, hash_by, line_end_by, others-onto_first, all-onto_blank, all-onto_hash, all-onto_other)
    ∙ continues_through (gap_after gap _) bs rest

pub gap_through-append : (gap : Gap) (front rest : List ℕ) → gap_through gap (front ++ rest) ≡ gap_through (gap_through gap front) rest
gap_through-append gap [] rest = refl
gap_through-append gap (b ∷ bs) rest = gap_through-append (gap_after gap _) bs rest

pub gap_until_open : (bs : List ℕ) → (gap_through Between bs ≡ Ended → ⊥) → is_gap bs ≡ true
gap_until_open bs h = ap is_gap (sym (append-nil bs)) ∙ continues_through Between bs [] ∙ grind arith

pub gap_through_more : (bs : List ℕ) (i : ℕ) → i < length bs
    → gap_through Between (take (i + 1) bs) ≡ gap_after (gap_through Between (take i bs)) (class_of (get_or bs i 0))
gap_through_more bs i h = ap (gap_through Between) (take_more bs i 0 h) ∙ gap_through-append Between (take i bs) _

-- after the end of a gap nothing is one
no_gap_past : (bs : List ℕ) (n k : ℕ) → n ≤ k → gap_through Between (take n bs) ≡ Ended → is_gap (take k bs) ≡ false
no_gap_past bs n k h ended =
    let front = take-take n k bs h in
    let rest = drop n (take k bs) in
    ap is_gap (sym (ap (λ xs. xs ++ drop n (take k bs)) (sym front) ∙ take-append-drop n (take k bs)))
    ∙ continues_through Between (take n bs) rest ∙ ap (λ gap. continues gap rest) ended

pub longest_gap_at : (bs : List ℕ) (i : ℕ) → i < length bs → is_gap (take i bs) ≡ true → gap_through Between (take (i + 1) bs) ≡ Ended
    → IsLongestGap bs i
longest_gap_at = grind (arith, no_gap_past)

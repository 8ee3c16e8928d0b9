-- Runs of bytes that leave a state as it is: digits, the rest of a name, a comment; and the lexemes that end after one.
use Rattle.std.proofs.Common.{◌≡◌, ◌∙◌, ◌⊎◌, ⊎_elim, ◌++◌, ℕ, zero, suc, ◌+◌, ◌<◌, ◌≤◌, ◌==◌, true, Some, List, [], ◌∷◌, length, take, drop}
use Rattle.std.proofs.Common.{take_all, append_assoc, get_or, refl, sym, ap, subst, arith}
use Rattle.std.proofs.Math.Seq.{take-add}
use Rattle.std.proofs.lemmas.Bool.{eqb-true}
use Rattle.polcert_text.proofs.Common.{take_more, class_of, IsLongestGap, IsLongestLexeme, is_gap, gap_after, gap_through, state_after}
use Rattle.polcert_text.proofs.Common.{state_through, kind_at, pending, IsScanOf, EndsWithin, IsNameOrMark, ByteClass, TokenKind}
use Rattle.polcert_text.proofs.Common.{LexemePrefix, Gap, Between, Comment, Ended, State, Start, Name, Whole, Single, Stuck}
use Rattle.std.proofs.lemmas.List.{length-take-le, take-append-drop}
use Rattle.polcert_text.specs.Steps.ScanOf.{scan_at}
use Rattle.polcert_text.specs.declared.bytes.ByteClass.TheVariants as classes
use Rattle.polcert_text.proofs.Scanning.GapLaws.{longest_gap_at, gap_until_open, gap_through-append}
use Rattle.polcert_text.proofs.Scanning.LexemeLaws.{kind_of-through, front_before, state_step}
use Rattle.polcert_text.proofs.Streams.StreamLaws.{skipped_step}
use Rattle.polcert_text.proofs.Scanning.Classes.{line_end_at_10}

comment_stays : (c : ByteClass) → (c ≡ classes.LineEnd → ⊥) → gap_after Comment c ≡ Comment
comment_stays = grind arith

pub line_end_is : (b : ℕ) → class_of b ≡ classes.LineEnd → (b == 10) ≡ true
unfolding class_of
line_end_is = grind arith

-- a comment continues over bytes that are no line end
comment_through : (bs : List ℕ) (n : ℕ) → n ≤ length bs → ((k : ℕ) → k < n → (get_or bs k 0 == 10) ≡ true → ⊥)
    → gap_through Comment (take n bs) ≡ Comment
comment_through bs zero h none = refl
comment_through bs (suc n) h none =
    let before = comment_through bs n (omega arith) (λ k l. none k (omega arith)) in
    let stays = comment_stays _ (λ is. none n (omega arith) (line_end_is _ is)) in
    let next : suc n ≡ n + 1 = omega arith in
    ap (λ k. gap_through Comment (take k bs)) next ∙ skipped_step Comment bs n Comment Comment (omega arith) before (sym stays)

pub comment_continues : (bs : List ℕ) → ((k : ℕ) → k < length bs → (get_or bs k 0 == 10) ≡ true → ⊥)
    → gap_through Comment (take (length bs) bs) ≡ Comment
comment_continues bs none = comment_through bs _ (omega arith) none

pub comment_ends : (bs : List ℕ) (n : ℕ) → n < length bs → ((k : ℕ) → k < n → (get_or bs k 0 == 10) ≡ true → ⊥)
    → (get_or bs n 0 == 10) ≡ true → gap_through Comment (take (n + 1) bs) ≡ Between
comment_ends = grind (arith, eqb-true, skipped_step, line_end_at_10, comment_through)

-- a gap that continues in the bytes after a front
pub gap_joined : (start : Gap) (bs : List ℕ) (at count : ℕ) (gap next : Gap) → gap_through start (take at bs) ≡ gap
    → gap_through gap (take count (drop at bs)) ≡ next → gap_through start (take (at + count) bs) ≡ next
gap_joined = grind (arith, take-add, gap_through-append)

-- a gap that is neither in a comment nor ended
pub in_between : (gap : Gap) → (gap ≡ Comment → ⊥) → (gap ≡ Ended → ⊥) → gap ≡ Between
in_between = grind arith

below_or_all : (n m : ℕ) → n ≤ m → (n < m) ⊎ (n ≡ m)
below_or_all = grind arith

-- where the gap from the start of the bytes stops is the longest
pub longest_seen : (bs : List ℕ) (n : ℕ) (gap : Gap) → n ≤ length bs → gap_through Between (take n bs) ≡ gap → (gap ≡ Ended → ⊥)
    → (n < length bs → gap_after gap (class_of (get_or bs n 0)) ≡ Ended) → IsLongestGap bs n
longest_seen bs n gap within read continues stops =
    ⊎_elim (λ below. longest_gap_at bs n below is_front (skipped_step Between bs n gap Ended below read (sym (stops below))))
    (λ all. record { within = within; gap = is_front; longest = λ k more h. absurd (omega arith) }) (below_or_all n _ within)
  where
    is_front : is_gap (take n bs) ≡ true
    is_front = gap_until_open _ (λ ended. continues (sym read ∙ ended))

-- all that was read is a lexeme
pub scan_whole : (bs : List ℕ) (n : ℕ) (state : State) (kind : TokenKind) → n ≤ length bs → state_through Start (take n bs) ≡ state
    → kind_at state ≡ Some kind → pending state ≡ 0 → IsScanOf (take n bs) (scan_at state kind n)
scan_whole = grind (arith, take_all, length-take-le, kind_of-through)

-- a lexeme that the next byte ends
pub ends_within : (bs : List ℕ) (n : ℕ) (state : State) (kind : TokenKind) → n < length bs → state_through Start (take n bs) ≡ state
    → kind_at state ≡ Some kind → pending state ≡ 0 → state_after state (class_of (get_or bs n 0)) ≡ Stuck
    → EndsWithin bs (record { kind = kind; len = n })
ends_within bs n state kind h read is none ends =
    let b : ℕ = get_or bs n 0 in
    let front : LexemePrefix = record { kind = kind; len = n } in
    let whole = scan_whole bs n state kind (omega arith) read is none in
    let stuck = state_step bs n state (class_of b) Stuck h read refl (sym ends) in
    let more = take_more bs n 0 h in
    let dead = ap (state_through Start) (sym more) ∙ stuck in
    let joined = ap (λ xs. xs ++ drop (n + 1) bs) (sym more)
    ∙ take-append-drop (n + 1) bs in
    record {
      within = h;
      longest = λ tail.
          let on =
          front_before (take n bs) b _ (Some front) whole.longest dead in
          subst (λ xs. IsLongestLexeme xs kind n) (sym (append_assoc (take n bs) (b ∷ drop (n + 1) bs) tail)
          ∙ ap (λ xs. xs ++ tail) (sym (append_assoc (take n bs) (b ∷ []) (drop (n + 1) bs)) ∙ joined)) on;
    }

-- a mark that a byte follows
pub ended_mark : (bs : List ℕ) (kind : TokenKind) → 1 < length bs → state_after Start (class_of (get_or bs 0 0)) ≡ Single kind
    → EndsWithin bs (record { kind = kind; len = 1 })
ended_mark bs kind more mark =
    ends_within bs 1 _ kind more (state_step bs 0 Start _ _ (omega arith) refl refl
    (sym mark)) refl refl refl

-- a mark is a word of its own
pub is_mark : (bs : List ℕ) (kind : TokenKind) → state_after Start (class_of (get_or bs 0 0)) ≡ Single kind
    → IsNameOrMark bs (record { kind = kind; len = 1 })
is_mark = grind arith

-- the first byte of a name
pub begins_name : (bs : List ℕ) (c : ByteClass) → 0 < length bs → c ≡ class_of (get_or bs 0 0)
    → ((c ≡ classes.Letter) ⊎ (c ≡ classes.ExponentMark)) → state_through Start (take 1 bs) ≡ Name
begins_name bs c some is letter = state_step bs 0 Start c Name some refl is
    (sym (⊎_elim (ap (state_after Start)) (ap (state_after Start)) letter))

-- the first byte of a numeral
pub begins_whole : (bs : List ℕ) → 0 < length bs → class_of (get_or bs 0 0) ≡ classes.Digit → state_through Start (take 1 bs) ≡ Whole
begins_whole bs some digit = state_step bs 0 Start _ Whole some refl (sym digit) refl

-- A lexeme that was seen at the front of some bytes, whatever follows them.
use Rattle.std.proofs.Common.{◌≡◌, ◌∙◌, ◌<◌, ◌≤◌, ◌⊎◌, inr, ℕ, Bool, true, false, Option, Some, None, List, [], ◌++◌, length, take}
use Rattle.std.proofs.Common.{refl, sym, ap, append-nil, append_assoc, take_all, ⊎_elim, ◌∷◌, arith}
use Rattle.polcert_text.proofs.Common.{take-append-le, kind_of, state_after, state_through, kind_at, is_numeral_kind, front_len}
use Rattle.polcert_text.proofs.Common.{is_over, is_stuck, IsFrontOf, IsScanOf, IsFrontSeen}
use Rattle.polcert_text.proofs.Common.{LexemePrefix}
use Rattle.polcert_text.proofs.Common.{LexemeScan, TokenKind, State, Start, Single, Stuck}
use Rattle.std.proofs.lemmas.List.{take-append-drop, length-append, length-take}
use Rattle.polcert_text.specs.Steps.ScanOf.{front_kind}
use Rattle.polcert_text.specs.Steps.Streaming.{IsFrontOrLong}
use Rattle.polcert_text.proofs.Scanning.LexemeEnds.{scanned}
use Rattle.polcert_text.proofs.Scanning.LexemeLaws.{front_whatever_follows, front_before, state_fed, stuck_state, kind_of-through}

pub front_or_long : (bs : List ℕ) (front : Option LexemePrefix) → IsFrontOf bs front → IsFrontOrLong bs front
front_or_long = grind arith

-- with nothing after the bytes
pub seen_whole : (bs : List ℕ) (front : Option LexemePrefix) → IsFrontOf bs front → IsFrontSeen bs [] front
seen_whole = grind (arith, append-nil, front_or_long)

-- a front is no longer than the bytes
pub front_within : (bs : List ℕ) (front : Option LexemePrefix) → IsFrontOf bs front → front_len front ≤ length bs
front_within = grind arith

-- where no lexeme continues, the last byte is none of the longest
true≢false : {b : Bool} → b ≡ true → b ≡ false → ⊥
true≢false e f = cc

some≢none : {A : Type 0} {o : Option A} {x : A} → o ≡ Some x → o ≡ None → ⊥
some≢none a b = cc

less_or_same : (n m : ℕ) → n ≤ m → (n < m) ⊎ (n ≡ m)
less_or_same = grind arith

some_read : (read : List ℕ) → state_through Start read ≡ Stuck → 0 < length read
some_read [] e = absurd (cc)
some_read (b ∷ bs) e = omega arith

front_short : (read : List ℕ) (front : Option LexemePrefix) → IsFrontOf read front → state_through Start read ≡ Stuck → 0 < length read
    → front_len front < length read
front_short = grind (arith, take_all, ⊎_elim, kind_of-through, some≢none, less_or_same)

-- the bytes that a scan went through tell the lexeme, where none continues
seen_stuck : (bs tail : List ℕ) (scan : LexemeScan) → IsScanOf (take scan.len bs) scan → is_stuck scan.state ≡ true
    → IsFrontSeen bs tail scan.longest
seen_stuck bs tail scan was stuck =
    let read = take scan.len bs in
    let at_stuck : state_through Start read ≡ Stuck = was.state ∙ stuck_state scan.state stuck in
    let joined = sym (append_assoc read _ tail)
    ∙ ap (λ xs. xs ++ tail) (take-append-drop _ bs) in
    let some = some_read read at_stuck in
    let short = front_short read _ was.longest at_stuck some in
    record {
      front_is = front_or_long _ _ (rw (← joined) (front_whatever_follows read _ _ was.longest at_stuck));
      apart = λ _ _. inr (omega (arith, length-take scan.len bs));
    }

-- bytes that follow a mark change nothing
front_at_mark : (read tail : List ℕ) (front : Option LexemePrefix) (kind : TokenKind) → IsFrontOf read front
    → state_through Start read ≡ Single kind → IsFrontOf (read ++ tail) front
front_at_mark read [] front kind was mark = rw (append-nil read) was
front_at_mark read (b ∷ tail) front kind was mark = front_before read b tail front was (state_fed read b _ Stuck _ mark refl refl)

-- no mark is a numeral
abbrev is_numeral_mark : State → Bool
is_numeral_mark (Single kind) = is_numeral_kind (Some kind)
is_numeral_mark _ = false

no_numeral_mark : (state : State) (bs : List ℕ) → is_numeral_mark state ≡ false → is_numeral_mark (state_through state bs) ≡ false
no_numeral_mark state [] before = before
no_numeral_mark state (b ∷ bs) before = no_numeral_mark (state_after state _) bs (grind arith)

mark_kind : (read : List ℕ) (front : Option LexemePrefix) (kind : TokenKind) → IsFrontOf read front → front_len front ≡ length read
    → state_through Start read ≡ Single kind
    → is_numeral_kind (front_kind front) ≡ false
mark_kind read None kind was len mark = refl
mark_kind read (Some f) kind was len mark =
    ap is_numeral_kind (sym was.lexeme ∙ ap kind_of (take_all f.len read (omega (arith, len))) ∙ kind_of-through read ∙ ap kind_at mark)
    ∙ sym (ap is_numeral_mark mark) ∙ no_numeral_mark Start read refl

module _ (bs : List ℕ) (tail : List ℕ) where
  -- or a mark
  seen_mark : (scan : LexemeScan) (kind : TokenKind) → IsScanOf (take scan.len bs) scan → scan.state ≡ Single kind
      → IsFrontSeen bs tail scan.longest
  seen_mark scan kind was mark =
      let read = take _ bs in
      let at_mark = was.state ∙ mark in
      let whole : front_len scan.longest ≡ length read = grind arith in
      let joined = sym (append_assoc read _ tail)
      ∙ ap (λ xs. xs ++ tail) (take-append-drop _ bs) in
      record {
        front_is = front_or_long _ _ (rw (← joined) (front_at_mark read _ _ kind was.longest at_mark));
        apart = λ numeral _. absurd (true≢false numeral (mark_kind read _ kind was.longest whole at_mark));
      }

  pub seen_over : (scan : LexemeScan) → IsScanOf (take scan.len bs) scan → is_over scan.state ≡ true
      → IsFrontSeen bs tail scan.longest
  seen_over scan was over = go _ refl
    where
      go : (state : State) → scan.state ≡ state → IsFrontSeen bs tail scan.longest
      go Stuck e = seen_stuck bs tail scan was (ap is_stuck e)
      go (Single kind) e = seen_mark scan kind was e
      go _ e = absurd (cc)

  -- or where a lexeme was found that is too long
  pub seen_long : (front : Option LexemePrefix) (n : ℕ) → IsFrontOf (take n bs) front → 400 < front_len front
      → IsFrontSeen bs tail front
  seen_long None n was long = absurd (omega arith)
  seen_long (Some f) n was long =
      let joined = sym (append_assoc (take n bs) _ tail)
      ∙ ap (λ xs. xs ++ tail) (take-append-drop n bs) in
      let same = ap (take f.len) (sym joined)
      ∙ take-append-le f.len _ _ was.within in
      record {
        front_is = inr (long, omega (arith, was.within, length-take n bs, length-append bs tail), cc);
        apart = λ _ short. absurd (omega arith);
      }

  -- or where nothing follows
  pub seen_all : (scan : LexemeScan) → IsScanOf (take scan.len bs) scan
      → (is_stuck scan.state ≡ false → scan.len ≡ length bs) → tail ≡ [] → IsFrontSeen bs tail scan.longest
  seen_all scan was all none = rw none (seen_whole bs _ (scanned bs scan was all))

pub seen_within : (bs : List ℕ) (scan : LexemeScan) → IsScanOf (take scan.len bs) scan → front_len scan.longest ≤ length bs
seen_within bs scan was = omega (arith, front_within _ _ was.longest, length-take scan.len bs)

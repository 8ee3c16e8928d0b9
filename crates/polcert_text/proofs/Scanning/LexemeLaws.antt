-- Reading a lexeme byte by byte tells what kind of lexeme each front is.
use Rattle.std.proofs.Common.{◌≡◌, ◌∙◌, ℕ, ◌+◌, Bool, true, false, not, ◌&&◌, ◌||◌, cond, Option, Some, None, List, [], ◌∷◌, ◌++◌, take}
use Rattle.std.proofs.Common.{drop, refl, sym, ap, append-nil, arith, ◌<◌, ◌≤◌, length, get_or, ◌⊎◌, ⊎_elim, take_all, append_assoc}
use Rattle.polcert_text.proofs.Common.{take_more, take-append-le, is_stuck, IsFrontOf, list_all, list_any, LexemePrefix, is_digit}
use Rattle.polcert_text.proofs.Common.{is_exponent_mark, is_point, is_name_byte, class_of, point_class, digit_class, letter_class}
use Rattle.polcert_text.proofs.Common.{mark_kind, are_digits, without_sign, is_numeral, kind_of, is_empty, state_after, state_through}
use Rattle.polcert_text.proofs.Common.{kind_at, ByteClass, TokenKind, State, Start, Name, Whole, Fraction, Single, Stuck}
use Rattle.std.proofs.lemmas.List.{take-take, take-append-drop, take_at, length-append}
use Rattle.polcert_text.specs.declared.tokens.State.TheVariants.{Point, Mark, Sign, Exponent}
use Rattle.polcert_text.specs.declared.bytes.ByteClass.TheVariants as classes
use Rattle.polcert_text.specs.declared.tokens.TokenKind.TheVariants as kinds
use Rattle.polcert_text.proofs.Scanning.BeforeFirst.{before, after, before_is, after_is}
use Rattle.polcert_text.proofs.Scanning.Tests.{digit_by, mark_by, point_by, sign_by, name_by, kind_by}

-- the bytes after the mantissa are an exponent or nothing
abbrev exponent_fits : List ℕ → Bool
exponent_fits bs = not (list_any is_exponent_mark bs) || are_digits (without_sign (after is_exponent_mark bs))

abbrev kind_if : Bool → TokenKind → Option TokenKind
kind_if b kind = cond b (Some kind) None

-- the kind of lexeme that the bytes complete
abbrev pub completed : State → List ℕ → Option TokenKind
completed Start bs = kind_of bs
completed Name bs = kind_if (list_all is_name_byte bs) kinds.Name
completed Whole bs =
    let m = before is_exponent_mark bs in
    kind_if (list_all is_digit (before is_point m) && list_all is_digit (after is_point m) && exponent_fits bs) kinds.Numeral
completed Point bs = kind_if (are_digits (before is_exponent_mark bs) && exponent_fits bs) kinds.Numeral
completed Fraction bs = kind_if (list_all is_digit (before is_exponent_mark bs) && exponent_fits bs) kinds.Numeral
completed Mark bs = kind_if (are_digits (without_sign bs)) kinds.Numeral
completed Sign bs = kind_if (are_digits bs) kinds.Numeral
completed Exponent bs = kind_if (list_all is_digit bs) kinds.Numeral
completed (Single kind) bs = kind_if (is_empty bs) kind
completed Stuck bs = None

and-true : (b : Bool) → (b && true) ≡ b
and-true = grind arith

cond-same : {A : Type 0} (b : Bool) (x : A) → cond b x x ≡ x
cond-same = grind arith

-- a numeral, where it is cut by recursion
abbrev cut_numeral : List ℕ → Bool
cut_numeral bs =
    let m = before is_exponent_mark bs in
    (list_all is_digit (before is_point m) && list_all is_digit (after is_point m) && list_any is_digit m) && exponent_fits bs

numeral_cut : (bs : List ℕ) → is_numeral bs ≡ cut_numeral bs
numeral_cut = grind (arith, before_is, after_is)

-- a byte that no numeral begins with
pub no_numeral : (b : ℕ) (bs : List ℕ) → is_digit b ≡ false → is_point b ≡ false → is_numeral (b ∷ bs) ≡ false
no_numeral b bs d p = at_mark _ refl
  where
    at_mark : (m : Bool) → is_exponent_mark b ≡ m → is_numeral (b ∷ bs) ≡ false
    at_mark true e = numeral_cut (b ∷ bs) ∙ simp e
    at_mark false e = numeral_cut (b ∷ bs) ∙ simp (e, p, d)

module _ (b : ℕ) (bs : List ℕ) where
  abbrev m : List ℕ
  m = before is_exponent_mark bs

  -- a byte that begins no numeral
  no_numeral_at : (c : ByteClass) → class_of b ≡ c → digit_class c ≡ false → point_class c ≡ false
      → kind_of (b ∷ bs) ≡ cond (letter_class c && list_all is_name_byte bs) (Some kinds.Name) (cond (is_empty bs) (mark_kind c) None)
  no_numeral_at c e d p = kind_by b bs c false e (no_numeral b bs (digit_by b e ∙ d) (point_by b e ∙ p))

  numeral_at_digit : class_of b ≡ classes.Digit → is_numeral (b ∷ bs)
      ≡ (list_all is_digit (before is_point m) && list_all is_digit (after is_point m) && exponent_fits bs)
  numeral_at_digit e = numeral_cut (b ∷ bs) ∙ simp (digit_by b e, mark_by b e, point_by b e, and-true)

  numeral_at_point : class_of b ≡ classes.Point → is_numeral (b ∷ bs) ≡ (are_digits m && exponent_fits bs)
  numeral_at_point e = numeral_cut (b ∷ bs) ∙ simp (digit_by b e, mark_by b e, point_by b e)

  start_at : (c : ByteClass) → class_of b ≡ c → completed Start (b ∷ bs) ≡ completed (state_after Start c) bs
  start_at classes.Letter e = no_numeral_at _ e refl refl ∙ simp cond-same
  start_at classes.ExponentMark e = no_numeral_at _ e refl refl ∙ simp cond-same
  start_at classes.Digit e = kind_by b bs _ _ e (numeral_at_digit e) ∙ simp cond-same
  start_at classes.Point e = kind_by b bs _ _ e (numeral_at_point e) ∙ simp cond-same
  start_at classes.Colon e = no_numeral_at _ e refl refl
  start_at classes.Star e = no_numeral_at _ e refl refl
  start_at classes.Plus e = no_numeral_at _ e refl refl
  start_at classes.Minus e = no_numeral_at _ e refl refl
  start_at c e = no_numeral_at c e refl refl ∙ cond-same _ None

-- the same for several bytes
pub completed_through : (state : State) (front rest : List ℕ) → completed state (front ++ rest) ≡ completed (state_through state front) rest
completed_through state [] rest = refl
completed_through state (b ∷ bs) rest = grind (arith, digit_by, mark_by, point_by, sign_by, name_by, and-true, start_at)
    ∙ completed_through (state_after state _) bs rest

pub state_through-append : (state : State) (front rest : List ℕ)
    → state_through state (front ++ rest) ≡ state_through (state_through state front) rest
state_through-append state [] rest = refl
state_through-append state (b ∷ bs) rest = state_through-append (state_after state _) bs rest

pub none_empty : kind_of [] ≡ None
unfolding kind_of
none_empty = refl

-- the kind of a list is the kind of the state after it
pub kind_of-through : (bs : List ℕ) → kind_of bs ≡ kind_at (state_through Start bs)
kind_of-through bs = ap kind_of (sym (append-nil bs)) ∙ completed_through Start bs [] ∙ grind (arith, none_empty)

state_through_more : (bs : List ℕ) (i : ℕ) → i < length bs
    → state_through Start (take (i + 1) bs) ≡ state_after (state_through Start (take i bs)) (class_of (get_or bs i 0))
state_through_more bs i h = ap (state_through Start) (take_more bs i 0 h) ∙ state_through-append Start (take i bs) _

-- a step of the loop
pub state_step : (bs : List ℕ) (i : ℕ) (state : State) (c : ByteClass) (next : State) → i < length bs
    → state_through Start (take i bs) ≡ state → c ≡ class_of (get_or bs i 0) → next ≡ state_after state c
    → state_through Start (take (i + 1) bs) ≡ next
state_step = grind (arith, state_through_more)

-- after a byte that no lexeme continues with nothing is one
none_past : (bs : List ℕ) (n k : ℕ) → n ≤ k → state_through Start (take n bs) ≡ Stuck → kind_of (take k bs) ≡ None
none_past bs n k h stuck =
    let front = take-take n k bs h in
    let rest = drop n (take k bs) in
    ap kind_of (sym (ap (λ xs. xs ++ drop n (take k bs)) (sym front) ∙ take-append-drop n (take k bs)))
    ∙ completed_through Start (take n bs) rest ∙ ap (λ state. completed state rest) stuck

at_or_below : (k i : ℕ) → k ≤ i + 1 → (k ≤ i) ⊎ (k ≡ i + 1)
at_or_below = grind arith

module _ (read : List ℕ) (b : ℕ) where
  one_more : length (read ++ b ∷ []) ≡ length read + 1
  one_more = length-append read _

  front_same : (k : ℕ) → k ≤ length read → take k (read ++ b ∷ []) ≡ take k read
  front_same k h = take-append-le k read _ h

  all_same : (k : ℕ) → k ≡ length read + 1 → take k (read ++ b ∷ []) ≡ read ++ b ∷ []
  all_same k h = take_all k _ (omega (arith, one_more))

  -- no lexeme of at least `low` bytes, where there was none and the whole isn't one
  none_more : (low : ℕ) → ((k : ℕ) → low ≤ k → k ≤ length read → kind_of (take k read) ≡ None) → kind_of (read ++ b ∷ []) ≡ None → (k : ℕ)
      → low ≤ k → k ≤ length (read ++ b ∷ []) → kind_of (take k (read ++ b ∷ [])) ≡ None
  none_more = grind (arith, ⊎_elim, at_or_below, one_more, front_same, all_same)

  -- the front of one byte more
  pub front_keeps : (front : Option LexemePrefix) → IsFrontOf read front → kind_of (read ++ b ∷ []) ≡ None
      → IsFrontOf (read ++ b ∷ []) front
  front_keeps = grind (arith, one_more, front_same, none_more)

  pub front_takes : (front : LexemePrefix) → front.len ≡ length read + 1 → kind_of (read ++ b ∷ []) ≡ Some front.kind
      → IsFrontOf (read ++ b ∷ []) (Some front)
  front_takes = grind (arith, one_more, all_same)

  pub state_fed : (state next : State) (c : ByteClass) → state_through Start read ≡ state → c ≡ class_of b → next ≡ state_after state c
      → state_through Start (read ++ b ∷ []) ≡ next
  state_fed state next c was class_is next_is = state_through-append Start read _ ∙ (λ j. state_after (was j) (sym class_is j))
      ∙ sym next_is

-- where no lexeme continues, bytes that follow change nothing
pub front_whatever_follows : (read tail : List ℕ) (front : Option LexemePrefix) → IsFrontOf read front → state_through Start read ≡ Stuck
    → IsFrontOf (read ++ tail) front
front_whatever_follows read tail front was stuck = go front was
  where
    whole : take (length read) (read ++ tail) ≡ read
    whole = take_at read tail _ refl

    stuck_at : state_through Start (take (length read) (read ++ tail)) ≡ Stuck
    stuck_at = ap (state_through Start) whole ∙ stuck

    none : (low k : ℕ) → ((k : ℕ) → low ≤ k → k ≤ length read → kind_of (take k read) ≡ None) → low ≤ k
        → kind_of (take k (read ++ tail)) ≡ None
    none low k before from =
        ⊎_elim (λ below. ap kind_of (take-append-le k read tail below) ∙ before k from below)
        (λ above. none_past _ (length read) k above stuck_at) (grind arith)

    go : (front : Option LexemePrefix) → IsFrontOf read front → IsFrontOf (read ++ tail) front
    go None was = λ k _. none 0 k (λ k _ h. was k h) (omega arith)
    go (Some front) was = record {
      within = omega (arith, was.within, length-append read tail);
      lexeme = ap kind_of (take-append-le _ read tail was.within) ∙ was.lexeme;
      longest = λ k more _. none (front.len + 1) k (λ k from h. was.longest k (omega arith) h) (omega arith);
    }

-- nor do bytes that follow one with which no lexeme continues
pub front_before : (read : List ℕ) (b : ℕ) (tail : List ℕ) (front : Option LexemePrefix) → IsFrontOf read front
    → state_through Start (read ++ b ∷ []) ≡ Stuck → IsFrontOf (read ++ b ∷ tail) front
front_before read b tail front was stuck =
    let keeps = front_keeps read b front was (kind_of-through _ ∙ ap kind_at stuck) in
    rw (← append_assoc read (b ∷ []) tail) (front_whatever_follows _ tail front keeps stuck)

pub stuck_state : (state : State) → is_stuck state ≡ true → state ≡ Stuck
stuck_state = grind arith

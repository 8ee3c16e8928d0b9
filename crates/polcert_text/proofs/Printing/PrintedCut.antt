-- The lexemes of a text that is written lexeme by lexeme, each with blanks, line ends or nothing after it.
use Rattle.std.proofs.Common.{◌≡◌, ◌∙◌, ℕ, ◌+◌, ◌<◌, ◌≤◌, true, false, Some, None, List, [], ◌∷◌, ◌++◌, length, refl, sym, ap, subst}
use Rattle.std.proofs.Common.{arith, append_assoc, append-nil, length-append, take_all, rules}
use Rattle.polcert_text.proofs.Common.{list_all, drop-append_seam, drop_all, is_blank, class_of, blank_class, glue_class, is_gap, kind_of}
use Rattle.polcert_text.proofs.Common.{IsLongestGap, IsLongestLexeme, Lexeme, Rest, is_glued, TakesToken, Ends, IsCut, gap_after}
use Rattle.polcert_text.proofs.Common.{gap_through, state_after, state_through, kind_at, IsFrontOf, ByteClass, LexemePrefix, Gap, Between}
use Rattle.polcert_text.proofs.Common.{Ended, State, TokenKind}
use Rattle.std.proofs.Math.Seq.{get_or-append_seam}
use Rattle.std.proofs.lemmas.List.{take_at}
use Rattle.polcert_text.specs.declared.tokens.State.TheVariants as states
use Rattle.polcert_text.proofs.Scanning.GapLaws.{gap_until_open, gap_through_more, longest_gap_at}
use Rattle.polcert_text.proofs.Scanning.LexemeLaws.{none_empty, kind_of-through, state_through-append, front_keeps, front_whatever_follows}
use Rattle.polcert_text.proofs.Numbers.MeasureLaws.{and-true_left, and-true_right}
use Rattle.polcert_text.proofs.Scanning.Tests.{blank_by}

abbrev pub rest_at : ℕ → List ℕ → Rest
rest_at place bs = record { place = place; bytes = bs; ending = None }

blank_between : (c : ByteClass) → blank_class c ≡ true → gap_after Between c ≡ Between
blank_between = grind arith

blanks_between : (gap : List ℕ) → list_all is_blank gap ≡ true → gap_through Between gap ≡ Between
blanks_between [] h = refl
blanks_between (b ∷ bs) h =
    ap (λ g. gap_through g bs) (blank_between _ (sym (blank_by b refl) ∙ and-true_left _ _ h))
    ∙ blanks_between bs (and-true_right _ _ h)

between_not_ended : (g : Gap) → g ≡ Between → g ≡ Ended → ⊥
between_not_ended g e f = cc

module _ (gap : List ℕ) where
  blanks_gap : list_all is_blank gap ≡ true → is_gap gap ≡ true
  blanks_gap h = gap_until_open gap (between_not_ended _ (blanks_between gap h))

  -- blanks, and then a byte that ends them
  longest_blanks : (b : ℕ) (more : List ℕ) → list_all is_blank gap ≡ true → gap_after Between (class_of b) ≡ Ended
      → IsLongestGap (gap ++ b ∷ more) (length gap)
  longest_blanks b more h stop =
      let inside : length gap < length _ = omega (arith, length-append gap (b ∷ more)) in
      let front = take_at gap _ _ refl in
      longest_gap_at _ _ inside (ap is_gap front ∙ blanks_gap h)
      (gap_through_more _ _ inside
      ∙ (λ i. gap_after ((ap (gap_through Between) front ∙ blanks_between gap h) i) (class_of (get_or-append_seam gap b more 0 i))) ∙ stop)

ends_blank : (place : ℕ) (gap : List ℕ) → list_all is_blank gap ≡ true → Ends (rest_at place gap) None
ends_blank = grind (arith, take_all, drop_all, blanks_gap)

-- a lexeme with which no longer one continues
longest_before : (w : List ℕ) (kind : TokenKind) (b : ℕ) (more : List ℕ) → kind_of w ≡ Some kind
    → state_after (state_through states.Start w) (class_of b) ≡ states.Stuck → IsLongestLexeme (w ++ b ∷ more) kind (length w)
longest_before w kind b more is stuck =
    let state = state_through-append _ w (b ∷ []) ∙ stuck in
    let front : LexemePrefix = record { kind = kind; len = length w } in
    let alone : IsFrontOf w (Some front) = record {
      within = omega arith;
      lexeme = ap kind_of (take_all _ w (omega arith)) ∙ is;
      longest = λ k l m. absurd (omega arith);
    } in
    let more_read =
    front_keeps w b (Some front) alone (kind_of-through _ ∙ ap kind_at state) in
    subst (λ bs. IsLongestLexeme bs kind (length w)) (append_assoc w (b ∷ []) more)
    (front_whatever_follows (w ++ b ∷ []) more (Some front) more_read state)

pub blank_stops : (state : State) (c : ByteClass) → blank_class c ≡ true → state_after state c ≡ states.Stuck
blank_stops = grind arith

pub blank_no_glue : (c : ByteClass) → blank_class c ≡ true → glue_class c ≡ false
blank_no_glue = grind arith

-- the next token after blanks
takes_next : (place : ℕ) (gap w : List ℕ) (kind : TokenKind) (x : ℕ) (xs : List ℕ) (b : ℕ) (more after : List ℕ)
    → list_all is_blank gap ≡ true → w ≡ x ∷ xs → gap_after Between (class_of x) ≡ Ended
    → after ≡ b ∷ more → kind_of w ≡ Some kind → state_after (state_through states.Start w) (class_of b) ≡ states.Stuck
    → is_glued kind (b ∷ more) ≡ false → length w ≤ 400
    → TakesToken (rest_at place (gap ++ (w ++ after))) (record { kind = kind; place = place + length gap; bytes = w })
    (rest_at (place + length gap + length w) after)
takes_next place gap w kind x xs b more after h begins stop after_is is stuck apart short =
    search (rules, drop-append_seam, take_at, longest_blanks, longest_before, begins)

-- ---- lexeme by lexeme
-- a lexeme's kind and bytes, and what stands after it
pub record Printed : Type 0 where
  pub kind : TokenKind
  pub bytes : List ℕ
  pub following : List ℕ

abbrev pub text_of : List Printed → List ℕ
text_of [] = []
text_of (u ∷ us) = u.bytes ++ u.following ++ text_of us

-- the lexemes, the first of them at this place
abbrev pub lexemes_at : ℕ → List Printed → List Lexeme
lexemes_at place [] = []
lexemes_at place (u ∷ us) = record { kind = u.kind; place = place; bytes = u.bytes } ∷ lexemes_at
    (place + length u.bytes + length u.following) us

-- the lexeme doesn't continue with what follows
pub record Stops (kind : TokenKind) (bytes after : List ℕ) : Type 0 where
  pub first : ℕ
  pub more : List ℕ
  pub is : after ≡ first ∷ more
  pub stuck : state_after (state_through states.Start bytes) (class_of first) ≡ states.Stuck
  pub apart : is_glued kind (first ∷ more) ≡ false

pub record IsPrinted (u : Printed) (more : List ℕ) : Type 0 where
  pub kind : kind_of u.bytes ≡ Some u.kind
  pub short : length u.bytes ≤ 400
  pub blank : list_all is_blank u.following ≡ true
  pub stops : Stops u.kind u.bytes (u.following ++ more)

abbrev pub ArePrinted : List Printed → Type 0
ArePrinted [] = Unit {0}
ArePrinted (u ∷ us) = IsPrinted u (text_of us) × ArePrinted us

-- what begins a lexeme ends a gap
stays_stuck : (bs : List ℕ) → state_through states.Stuck bs ≡ states.Stuck
stays_stuck [] = refl
stays_stuck (b ∷ bs) = stays_stuck bs

none_some : {k : TokenKind} → None ≡ Some k → ⊥
none_some e = cc

class_begins : (c : ByteClass) (bs : List ℕ) (kind : TokenKind) → kind_at (state_through (state_after states.Start c) bs) ≡ Some kind
    → gap_after Between c ≡ Ended
class_begins = grind (arith, stays_stuck, none_some)

record Begins (w : List ℕ) : Type 0 where
  first : ℕ
  more : List ℕ
  is : w ≡ first ∷ more
  ends : gap_after Between (class_of first) ≡ Ended

begins : (w : List ℕ) (kind : TokenKind) → kind_of w ≡ Some kind → Begins w
begins [] kind e = absurd (none_some (sym none_empty ∙ e))
begins (b ∷ bs) kind e = record {
  first = b;
  more = bs;
  is = refl;
  ends = class_begins _ bs kind (sym (kind_of-through _) ∙ e);
}

-- the text of lexemes is cut into just these
pub cut_printed : (us : List Printed) (place : ℕ) (gap : List ℕ) → ArePrinted us → list_all is_blank gap ≡ true
    → IsCut (rest_at place (gap ++ text_of us)) (lexemes_at (place + length gap) us) None
cut_printed [] place gap all h = rw (append-nil gap) (ends_blank place gap h)
cut_printed (u ∷ us) place gap all h =
    let p = all.0 in
    let b = begins u.bytes u.kind p.kind in
    let next = takes_next place gap u.bytes u.kind b.first b.more _ _ _ h b.is b.ends
    p.stops.is p.kind p.stops.stuck p.stops.apart p.short in
    let go = cut_printed us _ _ all.1 p.blank in
    subst (λ bs. IsCut (rest_at place (gap ++ bs)) (lexemes_at (place + length gap) (u ∷ us)) None)
    (sym (append_assoc u.bytes u.following (text_of us))) ((_, next, go))

-- ---- one list after another
pub text-append : (us vs : List Printed) → text_of (us ++ vs) ≡ text_of us ++ text_of vs
text-append [] vs = refl
text-append (u ∷ us) vs = ap (λ bs. u.bytes ++ u.following ++ bs) (text-append us vs) ∙ sym (append_assoc _ (text_of us) _)

pub lexemes-append : (place : ℕ) (us vs : List Printed)
    → lexemes_at place (us ++ vs) ≡ lexemes_at place us ++ lexemes_at (place + length (text_of us)) vs
lexemes-append place [] vs = ap (λ p. lexemes_at p vs) (omega arith)
lexemes-append place (u ∷ us) vs =
    let l : Lexeme = record { kind = u.kind; place = place; bytes = u.bytes } in
    let next = place + length u.bytes + length _ in
    ap (λ ls. l ∷ ls) (lexemes-append next us vs ∙ ap (λ p. lexemes_at next us ++ lexemes_at p vs)
    (omega (arith, length-append (u.bytes ++ u.following) (text_of us), length-append u.bytes u.following)))

stops_further : (kind : TokenKind) (bytes after more : List ℕ) → Stops kind bytes after → Stops kind bytes (after ++ more)
stops_further = grind arith

pub printed-append : (us vs : List Printed) → ArePrinted us → ArePrinted vs → ArePrinted (us ++ vs)
printed-append [] vs a b = b
printed-append (u ∷ us) vs a b = grind (arith, append_assoc, text-append, stops_further, printed-append us vs a.1 b)

-- Tokens at the front of some bytes: one, and several, one after another.
use Rattle.std.proofs.Common.{◌≡◌, ◌∙◌, ℕ, ◌+◌, ◌<◌, ◌≤◌, Bool, false, Option, IfSome, List, [], ◌∷◌, ◌++◌, length, take, drop, get_or}
use Rattle.std.proofs.Common.{refl, sym, ap, subst, append_assoc, append-nil, length-append, arith}
use Rattle.std.proofs.Math.ListN.{get_or-append}
use Rattle.polcert_text.proofs.Common.{take-append-le, drop-append-le, BeginWith, EndsAsDigits, EndsWithin, IsNameOrMark, class_of, Lexeme}
use Rattle.polcert_text.proofs.Common.{Rest, TakesToken, is_glued, IsLongestLexeme, gap_after, gap_through, state_after, signed}
use Rattle.polcert_text.proofs.Common.{Taken, token, LexemePrefix, Between, Ended, Start, Single, TokenKind, Numeral, Colon}
use Rattle.polcert_text.proofs.Common.{TokenFault}
use Rattle.std.proofs.lemmas.List.{length-take-le, length-drop, get_or-drop, drop-drop}
use Rattle.polcert_text.specs.Beginning.{rest_at, BeginWithOne, BeginWithNumber, BeginWithDigits, kind_of_sign, unsigned}
use Rattle.polcert_text.specs.Steps.ScanOf.{IsNumberFrom}
use Rattle.polcert_text.specs.Steps.Classes.{class_of_sign}
use Rattle.polcert_text.specs.TakenTokens.{nothing}
use Rattle.polcert_text.specs.Beginning as begin
use Rattle.polcert_text.specs.declared.front_tokens.FrontDigits.{FrontDigits}
use Rattle.polcert_text.specs.declared.front_tokens.FrontNumber.{FrontNumber}
use Rattle.polcert_text.specs.declared.bytes.ByteClass.TheVariants as classes
use Rattle.polcert_text.proofs.Scanning.Runs.{longest_seen, ended_mark, is_mark}

-- ---- several

pub taken_both : (a b c : Rest) (us vs : List Lexeme) → Taken a us b → Taken b vs c → Taken a (us ++ vs) c
taken_both a b c us vs first (nothing _) = rw (append-nil us) first
taken_both a b c us vs first (token _ between _ ws t before takes) =
    rw (← append_assoc us ws (t ∷ []))
    (token a between c _ t (taken_both a b between us ws first before) takes)

module _ (place : ℕ) (bytes : List ℕ) where
  -- none
  pub begin_none : BeginWith place bytes 0 []
  begin_none = record {
    within = omega arith;
    taken = λ tail ending.
        let same : place ≡ place + 0 = omega arith in
        rw (← same)
        (nothing _);
  }

  -- some, and others after them
  pub begin_then : (m n : ℕ) (us vs : List Lexeme) → BeginWith place bytes m us
      → BeginWith (place + m) (drop m bytes) n vs → BeginWith place bytes (m + n) (us ++ vs)
  begin_then m n us vs first second = record {
    within = omega (arith, length-drop m bytes);
    taken = λ tail ending.
        let all : place + m + n ≡ place + (m + n) = omega arith in
        let bytes_are = ap (λ xs. xs ++ tail) (drop-drop n m bytes) in
        subst (Taken (rest_at place (bytes ++ tail) ending) (us ++ vs)) (λ i. rest_at (all i) (bytes_are i) ending)
        (taken_both _ _ _ us vs (first.taken tail ending) (second.taken tail ending));
  }

-- ---- one

glue_stays : (kind : TokenKind) (bs tail : List ℕ) → 0 < length bs → is_glued kind (bs ++ tail) ≡ is_glued kind bs
glue_stays = grind arith

-- the lexeme at the front of the bytes after a gap
abbrev pub front_lexeme : ℕ → List ℕ → ℕ → TokenKind → ℕ → Lexeme
front_lexeme place bytes gap kind n = record { kind = kind; place = place + gap; bytes = take n (drop gap bytes) }

module _ (place : ℕ) (bytes : List ℕ) (gap n : ℕ) (kind : TokenKind) (open_gap : gap_through Between (take gap bytes) ≡ Between)
    (stops : gap_after Between (class_of (get_or (drop gap bytes) 0 0)) ≡ Ended)
    (ends : EndsWithin (drop gap bytes) (record { kind = kind; len = n }))
    (short : n ≤ 400) (apart : is_glued kind (drop n (drop gap bytes)) ≡ false) where
  inside : gap < length bytes
  inside = omega (arith, length-drop gap bytes)

  len : length (take n (drop gap bytes)) ≡ n
  len = length-take-le n _ (omega arith)

  takes : (tail : List ℕ) (ending : Option TokenFault)
      → TakesToken (rest_at place (bytes ++ tail) ending) (front_lexeme place bytes gap kind n)
      (rest_at (place + (gap + n)) (drop (gap + n) bytes ++ tail) ending)
  takes tail ending =
      let low : gap ≤ length bytes = omega (arith, inside) in
      let few : n ≤ length _ = omega arith in
      let all = drop-append-le gap bytes tail low in
      let here : gap + 0 ≡ gap = omega arith in
      let byte = get_or-append bytes tail 0 gap inside
      ∙ ap (λ k. get_or bytes k 0) (sym here) ∙ sym (get_or-drop gap bytes 0 0) in
      let following =
      ap (λ m. drop m (drop gap (bytes ++ tail))) len ∙ ap (drop n) all ∙ drop-append-le n _ tail few in
      let end : place + (gap + n) ≡ place + gap + length _ = omega (arith, len) in
      record {
        gap = gap;
        longest = longest_seen _ gap Between (omega (arith, inside, length-append bytes tail))
            (ap (gap_through Between) (take-append-le gap bytes tail low) ∙ open_gap) (λ e. absurd (cc))
            (λ below. ap (λ b. gap_after Between (class_of b)) byte ∙ stops);
        token_at = record {
          lexeme = rw all (subst (IsLongestLexeme _ kind) (sym len) (ends.longest tail));
          place_is = refl;
          bytes_are = sym (ap (λ m. take m (drop gap (bytes ++ tail))) len ∙ ap (take n) all ∙ take-append-le n _ tail few);
          short = omega arith;
          apart = ap (is_glued kind) following ∙ glue_stays kind _ tail (omega (arith, length-drop n (drop gap bytes))) ∙ apart;
        };
        rest = λ i. record {
          place = end i;
          bytes = (ap (λ xs. xs ++ tail) (sym (drop-drop n gap bytes)) ∙ sym following) i;
          ending = ending;
        };
      }

  pub begin_one : BeginWith place bytes (gap + n) (front_lexeme place bytes gap kind n ∷ [])
  begin_one = record {
    within = omega (arith, inside, length-drop gap bytes);
    taken = λ tail ending. token _ _ _ [] (front_lexeme place bytes gap kind n) (nothing _) (takes tail ending);
  }

-- ---- numbers

pub if_some_map : {T : Type 0} (o : Option T) (P Q : T → Type 0) → ((v : T) → P v → Q v) → IfSome o P → IfSome o Q
if_some_map = grind arith

pub digits_begin : (place : ℕ) (bytes : List ℕ) (gap : ℕ) (number : FrontDigits) → gap_through Between (take gap bytes) ≡ Between
    → EndsAsDigits (drop gap bytes) number
    → BeginWithDigits place bytes (record { len = gap + number.len; value = number.value })
digits_begin place bytes gap number open_gap e = record {
  token = _;
  kind_is = refl;
  front = begin_one place bytes gap _ Numeral open_gap (cc) e.ends e.short e.apart;
  digits = e.digits;
  value = e.value;
}

module _ (place : ℕ) (bytes : List ℕ) (gap : ℕ) (found : FrontNumber) (open_gap : gap_through Between (take gap bytes) ≡ Between) where
  pub numeral_begins : IsNumberFrom bytes gap false found → BeginWithNumber place bytes found
  numeral_begins v =
      let e = v.ends in
      let n = v.number.len in
      let l = front_lexeme place bytes gap Numeral n in
      unsigned l (grind arith)
      (rw v.len_is
      (begin_one place bytes gap n Numeral open_gap e.begins e.ends e.short e.apart))

  pub sign_begins : (is_negative : Bool) → class_of (get_or bytes gap 0) ≡ class_of_sign is_negative
      → IsNumberFrom bytes (gap + 1) is_negative found → BeginWithNumber place bytes found
  sign_begins is_negative is v =
      let e = v.ends in
      let n = v.number.len in
      let kind = kind_of_sign _ in
      let rest : List ℕ = drop _ bytes in
      let here : gap + 0 ≡ gap = omega arith in
      let first =
      ap class_of (get_or-drop gap bytes 0 0 ∙ ap (λ k. get_or bytes k 0) here) ∙ is in
      let mark : state_after Start (class_of (get_or (drop gap bytes) 0 0)) ≡ Single kind = ap (state_after Start) first
      ∙ grind arith in
      let word = is_mark (drop gap bytes) kind mark in
      let ends = ended_mark _ kind (omega (arith, e.ends.within, length-drop gap bytes, length-drop (gap + 1) bytes)) mark in
      let sign = begin_one place bytes gap 1 kind open_gap word.begins ends (omega arith) (word.apart _) in
      let s = front_lexeme place bytes gap kind 1 in
      let l = front_lexeme (place + (gap + 1)) rest 0 Numeral n in
      let all : 0 + n ≡ n = omega arith in
      let numeral = subst (λ m. BeginWith _ rest m (l ∷ [])) all
      (begin_one _ rest 0 n Numeral refl e.begins e.ends e.short e.apart) in
      begin.signed is_negative s l refl (grind arith)
      (rw v.len_is (begin_then place bytes (gap + 1) n _ _ sign numeral))

-- ---- a name or a mark

pub word_begins : (place : ℕ) (bytes : List ℕ) (gap : ℕ) (front : LexemePrefix) (rest : List ℕ) → rest ≡ drop gap bytes
    → gap_through Between (take gap bytes) ≡ Between → EndsWithin rest front → IsNameOrMark rest front → front.len ≤ 400
    → BeginWith place bytes (gap + front.len) (record { kind = front.kind; place = place + gap; bytes = take front.len rest } ∷ [])
word_begins place bytes gap front rest is open_gap ends word short =
    subst (λ xs. EndsWithin xs front → IsNameOrMark xs front
    → BeginWith place bytes (gap + front.len) (record { kind = front.kind; place = place + gap; bytes = take front.len xs } ∷ []))
    (sym is)
    (λ e w. begin_one place bytes gap _ _ open_gap w.begins e short (w.apart _)) ends word

-- ---- a colon

pub colon_begins : (place : ℕ) (bytes : List ℕ) (gap : ℕ) → gap_through Between (take gap bytes) ≡ Between → gap + 1 < length bytes
    → class_of (get_or bytes gap 0) ≡ classes.Colon
    → BeginWithOne place bytes (gap + 1) Colon
colon_begins place bytes gap open_gap inside colon =
    let here : gap + 0 ≡ gap = omega arith in
    let first =
    ap class_of (get_or-drop gap bytes 0 0 ∙ ap (λ k. get_or bytes k 0) here) ∙ colon in
    let ends = ended_mark _ Colon (omega (arith, inside, length-drop gap bytes)) (cc) in
    record {
      token = _;
      kind_is = refl;
      front = begin_one place bytes gap 1 Colon open_gap (cc) ends (omega arith) refl;
    }

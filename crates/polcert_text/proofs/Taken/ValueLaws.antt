-- A value at the front of some bytes: a numeral, perhaps after a `-`.
use Rattle.std.proofs.Common.{◌≡◌, ℕ, ℤ, ◌+◌, true, false, Option, Some, None, List, [], ◌∷◌, take, drop, get_or, refl, sym, ap, subst}
use Rattle.std.proofs.Common.{arith}
use Rattle.std.proofs.lemmas.List.{length-drop, drop-drop}
use Rattle.polcert_text.proofs.Common.{BeginWith, class_of, Lexeme, BeginWithValue, IsRounded, EndsAsSize, gap_through}
use Rattle.polcert_text.proofs.Common.{state_after, Between, Start, TokenKind, Numeral, Minus, Rounding}
use Rattle.polcert_text.specs.declared.bytes.ByteClass.TheVariants as classes
use Rattle.polcert_text.specs.declared.front_numerals.FrontSize.{FrontSize}
use Rattle.polcert_text.proofs.Scanning.Runs.{ended_mark}
use Rattle.polcert_text.proofs.Taken.BeginLaws.{front_lexeme, begin_one, begin_then}

numeral_begins : (place : ℕ) (bytes : List ℕ) (gap : ℕ) (numeral : FrontSize) → gap_through Between (take gap bytes) ≡ Between
    → EndsAsSize (drop gap bytes) numeral
    → BeginWith place bytes (gap + numeral.len) (front_lexeme place bytes gap Numeral numeral.len ∷ [])
numeral_begins place bytes gap numeral open_gap e = begin_one place bytes gap _ Numeral open_gap e.begins e.ends e.short e.apart

abbrev kind_in : Option Lexeme → TokenKind
kind_in None = Minus
kind_in (Some s) = s.kind

module _ (rounding : Rounding) (place : ℕ) (bytes : List ℕ) (gap : ℕ) (numeral : FrontSize)
    (open_gap : gap_through Between (take gap bytes) ≡ Between) (value : ℤ) where
  -- a numeral
  pub plain_begins : EndsAsSize (drop gap bytes) numeral → IsRounded rounding false (take numeral.len (drop gap bytes)) value
      → BeginWithValue rounding place bytes (record { len = gap + numeral.len; value = value })
  plain_begins e rounded = record {
    minus = None;
    token = _;
    minus_is = λ s is. absurd (cc);
    kind_is = refl;
    front = numeral_begins place bytes gap numeral open_gap e;
    readable = e.readable;
    rounded = rounded;
  }

  -- a `-`, and directly after it a numeral
  pub minus_begins : class_of (get_or (drop gap bytes) 0 0) ≡ classes.Minus → EndsAsSize (drop 1 (drop gap bytes)) numeral
      → IsRounded rounding true (take numeral.len (drop 1 (drop gap bytes))) value
      → BeginWithValue rounding place bytes (record { len = gap + 1 + numeral.len; value = value })
  minus_begins minus e rounded =
      let rest = drop gap bytes in
      let following = drop-drop 1 gap bytes in
      let first =
      begin_one place bytes gap 1 Minus open_gap (cc)
      (ended_mark rest Minus (omega (arith, e.ends.within, length-drop 1 rest)) (ap (state_after Start) minus)) (omega arith) refl in
      let there : EndsAsSize (drop (gap + 1) bytes) numeral = subst (λ xs. EndsAsSize xs numeral) following e in
      let none : 0 + numeral.len ≡ numeral.len = omega arith in
      let token = front_lexeme _ _ 0 Numeral _ in
      let second = subst (λ n. BeginWith (place + (gap + 1)) (drop (gap + 1) bytes) n (token ∷ [])) none
      (numeral_begins _ _ 0 numeral refl there) in
      record {
        minus = Some _;
        token = token;
        minus_is = λ s is. sym (ap kind_in is);
        kind_is = refl;
        front = begin_then place bytes _ _ _ _ first second;
        readable = there.readable;
        rounded = rw (← following) rounded;
      }

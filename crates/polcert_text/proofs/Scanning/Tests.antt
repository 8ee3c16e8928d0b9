-- What the class of a byte tells of it: the tests of bytes agree with the classes.
use Rattle.std.proofs.Common.{◌≡◌, ◌∙◌, ℕ, ◌<◌, ◌==◌, ◌&&◌, ◌⊎◌, ⊎_elim, Bool, true, false, not, cond, Option, Some, None, List, ◌∷◌}
use Rattle.std.proofs.Common.{codes, refl, sym, ap, arith}
use Rattle.std.specs.Prelude.{bytes_eq}
use Rattle.std.specs.Char.{is_ascii_digit, is_ascii_alphabetic}
use Rattle.polcert_text.proofs.Common.{list_all, is_blank, is_line_end, is_hash, is_letter, is_digit, is_exponent_mark, is_point}
use Rattle.polcert_text.proofs.Common.{is_name_byte, is_numeral, is_empty, kind_of, class_of, blank_class, hash_class, letter_class}
use Rattle.polcert_text.proofs.Common.{digit_class, point_class, glue_class, mark_kind, ByteClass, TokenKind}
use Rattle.polcert_text.specs.Bytes.{is_sign, is_glue}
use Rattle.polcert_text.specs.Steps.Classes.{line_end_class, mark_class, sign_class, name_class, minus_class}
use Rattle.polcert_text.specs.declared.bytes.ByteClass.TheVariants as classes
use Rattle.polcert_text.specs.declared.tokens.TokenKind.TheVariants as kinds
use Rattle.polcert_text.proofs.Scanning.Classes.{all_below, all_below_at, not_equal, is_digit_class}

abbrev same : Bool → Bool → Bool
same true b = b
same false b = not b

same_is : (a b : Bool) → same a b ≡ true → a ≡ b
same_is = grind arith

-- no byte above ASCII is of a class
beyond : (b : ℕ) → 127 < b → class_of b ≡ classes.Other
unfolding class_of
beyond b h =
    let blank : _ ≡ false = grind arith in
    let mark : _ ≡ false = grind arith in
    let letter : is_ascii_alphabetic b ≡ false = grind arith in
    let digit : is_ascii_digit b ≡ false = grind arith in
    let not : (n : ℕ) → n < 127 → (b == n) ≡ false = λ n l. not_equal b n (omega arith) in
    (λ i. cond (blank i) classes.Blank (cond (not 10 (omega arith) i) classes.LineEnd
    (cond (not 35 (omega arith) i) classes.Hash (cond (mark i) classes.ExponentMark
    (cond (letter i) classes.Letter (cond (digit i) classes.Digit
    (cond (not 95 (omega arith) i) classes.Underscore (cond (not 46 (omega arith) i) classes.Point
    (cond (not 58 (omega arith) i) classes.Colon (cond (not 42 (omega arith) i) classes.Star
    (cond (not 43 (omega arith) i) classes.Plus (cond (not 45 (omega arith) i) classes.Minus classes.Other))))))))))))

-- a test that agrees with the classes of all ASCII bytes, and that no other byte passes
agrees : (test : ℕ → Bool) (of_class : ByteClass → Bool) → all_below (λ n. same (test n) (of_class (class_of n))) 128 ≡ true
    → ((b : ℕ) → 127 < b → test b ≡ false) → of_class classes.Other ≡ false
    → (b : ℕ) (c : ByteClass) → class_of b ≡ c → test b ≡ of_class c
agrees test of_class below above other b c is =
    ⊎_elim (λ ascii. same_is _ _ (all_below_at (λ n. same (test n) (of_class (class_of n))) 128 b below ascii))
    (λ h. above b h ∙ sym (ap of_class (beyond b h) ∙ other)) (grind arith) ∙ ap of_class is

module _ (b : ℕ) where
  pub blank_by : {c : ByteClass} → class_of b ≡ c → is_blank b ≡ blank_class c
  unfolding class_of is_blank
  blank_by {c} is = agrees is_blank blank_class refl (λ b h. grind arith) refl b c is

  pub line_end_by : {c : ByteClass} → class_of b ≡ c → is_line_end b ≡ line_end_class c
  unfolding class_of is_line_end
  line_end_by {c} is = agrees is_line_end line_end_class refl (λ b h. grind arith) refl b c is

  pub hash_by : {c : ByteClass} → class_of b ≡ c → is_hash b ≡ hash_class c
  unfolding class_of is_hash
  hash_by {c} is = agrees is_hash hash_class refl (λ b h. grind arith) refl b c is

  pub letter_by : {c : ByteClass} → class_of b ≡ c → is_letter b ≡ letter_class c
  unfolding class_of is_letter
  letter_by {c} is = agrees is_letter letter_class refl (λ b h. grind arith) refl b c is

  pub digit_by : {c : ByteClass} → class_of b ≡ c → is_digit b ≡ digit_class c
  unfolding class_of is_digit
  digit_by {c} is = agrees is_digit digit_class refl (λ b h. grind arith) refl b c is

  pub mark_by : {c : ByteClass} → class_of b ≡ c → is_exponent_mark b ≡ mark_class c
  unfolding class_of is_exponent_mark
  mark_by {c} is = agrees is_exponent_mark mark_class refl (λ b h. grind arith) refl b c is

  pub point_by : {c : ByteClass} → class_of b ≡ c → is_point b ≡ point_class c
  unfolding class_of is_point
  point_by {c} is = agrees is_point point_class refl (λ b h. grind arith) refl b c is

  pub sign_by : {c : ByteClass} → class_of b ≡ c → is_sign b ≡ sign_class c
  unfolding class_of is_sign
  sign_by {c} is = agrees is_sign sign_class refl (λ b h. grind arith) refl b c is

  pub name_by : {c : ByteClass} → class_of b ≡ c → is_name_byte b ≡ name_class c
  unfolding class_of is_name_byte is_letter is_digit
  name_by {c} is = agrees is_name_byte name_class refl (λ b h. grind arith) refl b c is

  pub glue_by : {c : ByteClass} → class_of b ≡ c → is_glue b ≡ glue_class c
  unfolding class_of is_glue is_letter
  glue_by {c} is = agrees is_glue glue_class refl (λ b h. grind arith) refl b c is

  pub digit_class_is : is_digit b ≡ true → class_of b ≡ classes.Digit
  digit_class_is h = is_digit_class _ (sym (digit_by refl) ∙ h)

-- ---- the four marks
abbrev colon_class : ByteClass → Bool
colon_class classes.Colon = true
colon_class _ = false

abbrev star_class : ByteClass → Bool
star_class classes.Star = true
star_class _ = false

abbrev plus_class : ByteClass → Bool
plus_class classes.Plus = true
plus_class _ = false

module _ (b : ℕ) (c : ByteClass) (is : class_of b ≡ c) where
  colon_at : (b == 58) ≡ colon_class c
  unfolding class_of
  colon_at = agrees (λ b. b == 58) colon_class refl (λ b h. grind arith) refl b c is

  star_at : (b == 42) ≡ star_class c
  unfolding class_of
  star_at = agrees (λ b. b == 42) star_class refl (λ b h. grind arith) refl b c is

  plus_at : (b == 43) ≡ plus_class c
  unfolding class_of
  plus_at = agrees (λ b. b == 43) plus_class refl (λ b h. grind arith) refl b c is

  pub minus_at : (b == 45) ≡ minus_class c
  unfolding class_of
  minus_at = agrees (λ b. b == 45) minus_class refl (λ b h. grind arith) refl b c is

-- the last four tests of `kind_of`
abbrev marked : (colon star plus minus : Bool) → Option TokenKind
marked colon star plus minus = cond colon (Some kinds.Colon)
    (cond star (Some kinds.Star) (cond plus (Some kinds.Plus) (cond minus (Some kinds.Minus) None)))

marked_class : (c : ByteClass) → marked (colon_class c && true) (star_class c && true) (plus_class c && true) (minus_class c && true)
    ≡ mark_kind c
marked_class = grind arith

and-false : (b : Bool) → (b && false) ≡ false
and-false = grind arith

marked_at : (b : ℕ) (bs : List ℕ) (c : ByteClass) → class_of b ≡ c
    → marked (bytes_eq (b ∷ bs) (codes ":")) (bytes_eq (b ∷ bs) (codes "*")) (bytes_eq (b ∷ bs) (codes "+")) (bytes_eq (b ∷ bs) (codes "-"))
    ≡ cond (is_empty bs) (mark_kind c) None
marked_at = grind (arith, colon_at, star_at, plus_at, minus_at, marked_class, and-false)

-- the kind of a list that begins with b, by its class
pub kind_by : (b : ℕ) (bs : List ℕ) (c : ByteClass) (numeral : Bool) → class_of b ≡ c → is_numeral (b ∷ bs) ≡ numeral
    → kind_of (b ∷ bs) ≡ cond (letter_class c && list_all is_name_byte bs) (Some kinds.Name)
    (cond numeral (Some kinds.Numeral) (cond (is_empty bs) (mark_kind c) None))
unfolding kind_of
kind_by = grind (arith, letter_by, marked_at)

-- Lexemes are at most one list of numbers, and a numeral at most one whole number.
use Rattle.std.proofs.Common.{◌≡◌, ◌∙◌, ℕ, suc, ◌*◌, ◌<◌, ◌≤◌, Bool, List, ◌∷◌, ℤ, pos, neg_ℤ, ◌*ℤ◌, refl, sym, arith}
use Rattle.std.proofs.lemmas.Int.{ints}
use Rattle.std.proofs.Math.Nat.{mul-le-mul_right, one-le-pow}
use Rattle.std.proofs.Math.IntN.{pos-*ℤ-pos, negsuc-*ℤ-pos}
use Rattle.polcert_cells.proofs.Common.{Lexeme, TokenKind, Numeral, AreNumbers}
use Rattle.polcert_text.specs.Numbers.{millionth, IsExact}
use Rattle.polcert_text.specs.declared.tokens.TokenKind.TheVariants.{Plus, Minus}
use Rattle.polcert_cells.specs.Numbers.{IsWhole, IsMillionths, none, unsigned, plus, minus}

pub one_whole : (l : Lexeme) (m n : ℕ) → IsWhole l m → IsWhole l n → m ≡ n
one_whole l m n a b = sym a.value ∙ b.value

pub millionth_pos : 0 < millionth
unfolding millionth
millionth_pos = one-le-pow 994 10 (omega arith)

without_factor : (m n d : ℕ) → 0 < d → m * d ≡ n * d → m ≡ n
without_factor m n d p e = grind arith

same_pos : (m n : ℕ) → pos m ≡ pos n → m ≡ n
same_pos m n e = cc

positive_not_negative : (m n : ℕ) → 0 < n → pos m ≡ neg_ℤ (pos n) → ⊥
positive_not_negative m n p e = omega (arith, ints)

same_negative : (m n : ℕ) → neg_ℤ (pos m) ≡ neg_ℤ (pos n) → m ≡ n
same_negative m n e = omega (arith, ints)

above_zero : (n d : ℕ) → 0 < d → 0 < suc n * d
above_zero n d p = let l : 1 * d ≤ suc n * d = mul-le-mul_right d (omega arith) in omega (arith, l)

pub without_factor_ℤ : (h k : ℤ) (d : ℕ) → 0 < d → h *ℤ pos d ≡ k *ℤ pos d → h ≡ k
without_factor_ℤ h k d h1 h2 = grind
    (arith, pos-*ℤ-pos, negsuc-*ℤ-pos, without_factor, same_pos, positive_not_negative, same_negative, above_zero)

pub one_exact : (negative : Bool) (bs : List ℕ) (h k : ℤ) → IsExact negative bs h → IsExact negative bs k → h ≡ k
one_exact negative bs h k a b = without_factor_ℤ h k millionth millionth_pos (a ∙ sym b)

pub one_millionths : (negative : Bool) (l : Lexeme) (h k : ℤ) → IsMillionths negative l h → IsMillionths negative l k → h ≡ k
one_millionths negative l h k a b = one_exact negative l.bytes h k a.value b.value

pub numeral_not_plus : (k : TokenKind) → k ≡ Numeral → k ≡ Plus → ⊥
numeral_not_plus k e f = cc

pub numeral_not_minus : (k : TokenKind) → k ≡ Numeral → k ≡ Minus → ⊥
numeral_not_minus k e f = cc

pub plus_not_minus : (k : TokenKind) → k ≡ Plus → k ≡ Minus → ⊥
plus_not_minus k e f = cc

one_more : {h k : ℤ} {hs ks : List ℤ} → h ≡ k → hs ≡ ks → h ∷ hs ≡ k ∷ ks
one_more e f = cc

pub one_list : {ls : List Lexeme} {hs ks : List ℤ} → AreNumbers ls hs → AreNumbers ls ks → hs ≡ ks
one_list none none = refl
one_list (unsigned a more) (unsigned b rest) = one_more (one_millionths _ _ _ _ a b) (one_list more rest)
one_list (unsigned a more) (plus sign b rest) = absurd (numeral_not_plus _ a.kind sign)
one_list (unsigned a more) (minus sign b rest) = absurd (numeral_not_minus _ a.kind sign)
one_list (plus sign a more) (unsigned b rest) = absurd (numeral_not_plus _ b.kind sign)
one_list (plus sign a more) (plus other b rest) = one_more (one_millionths _ _ _ _ a b) (one_list more rest)
one_list (plus sign a more) (minus other b rest) = absurd (plus_not_minus _ sign other)
one_list (minus sign a more) (unsigned b rest) = absurd (numeral_not_minus _ b.kind sign)
one_list (minus sign a more) (plus other b rest) = absurd (plus_not_minus _ other sign)
one_list (minus sign a more) (minus other b rest) = one_more (one_millionths _ _ _ _ a b) (one_list more rest)

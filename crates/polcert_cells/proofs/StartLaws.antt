-- The lexemes after `start` give at most one start.
use Rattle.std.proofs.Common.{◌≡◌, ◌∙◌, ℕ, suc, ◌==◌, true, List, [], ◌∷◌, length, map, codes, ℤ, pos, refl, sym, ap, arith}
use Rattle.std.specs.List.{AllZip}
use Rattle.polcert_cells.proofs.Common.{Lexeme, TokenKind, Name, Numeral, Colon, IsWord, is_reserved, topic_of, AreNumbers, Elements}
use Rattle.polcert_cells.proofs.Common.{count_of, StandsFor, StartWeights, shares_of, equal_weights, IsStartBody, uniform, name, number}
use Rattle.polcert_cells.proofs.Common.{only_state, probabilities, IsStart}
use Rattle.polcert_cells.specs.Words.{IsName}
use Rattle.polcert_cells.specs.Numbers as numbers
use Rattle.polcert_cells.proofs.Basics.{true≢false, one_some}
use Rattle.polcert_cells.proofs.NumberLaws.{one_whole, one_list}
use Rattle.polcert_cells.proofs.EntryLaws.{one_element, pos_once}

pub uniform_is_reserved : is_reserved (codes "uniform") ≡ true
unfolding is_reserved topic_of
uniform_is_reserved = refl

uniform_no_name : (l : Lexeme) → IsWord (codes "uniform") l → IsName l → ⊥
uniform_no_name l a b = true≢false (ap is_reserved a.bytes ∙ uniform_is_reserved) b.free

numeral_not_name : (k : TokenKind) → k ≡ Numeral → k ≡ Name → ⊥
numeral_not_name k e f = cc

pub name_not_colon : (k : TokenKind) → k ≡ Name → k ≡ Colon → ⊥
name_not_colon k e f = cc

numbers_not_word : {l : Lexeme} {hs : List ℤ} → l.kind ≡ Name → AreNumbers (l ∷ []) hs → ⊥
numbers_not_word word (numbers.unsigned a rest) = numeral_not_name _ a.kind word

one_number : {l : Lexeme} {hs : List ℤ} → AreNumbers (l ∷ []) hs → length hs ≡ 1
one_number (numbers.unsigned a numbers.none) = refl

length-pos : (ps : List ℕ) → length (map pos ps) ≡ length ps
length-pos [] = refl
length-pos (p ∷ ps) = ap suc (length-pos ps)

pub numbers_once : (l : Lexeme) (ps : List ℕ) → AreNumbers (l ∷ []) (map pos ps) → length ps ≡ 1
numbers_once l ps a = sym (length-pos ps) ∙ one_number a

one_body : (states : Elements) (ls : List Lexeme) (x y : StartWeights) → IsStartBody states ls x → IsStartBody states ls y → x ≡ y
one_body states ls x y (uniform w) (name n f) = absurd (uniform_no_name _ w n)
one_body states ls x y (uniform w) (number m n b) = absurd (numeral_not_name _ n.kind w.kind)
one_body states ls x y (uniform w) (only_state c n v) = absurd (numbers_not_word w.kind n)
one_body states ls x y (uniform w) (probabilities ps m n c s) = absurd (numbers_not_word w.kind n)
one_body states ls x y (name n f) (uniform w) = absurd (uniform_no_name _ w n)
one_body states ls x y (name n f) (name m g) = ap (λ s. equal_weights (count_of states) (λ k. k == s)) (one_some f g)
one_body states ls x y (name n f) (number m v b) = absurd (numeral_not_name _ v.kind n.kind)
one_body states ls x y (name n f) (only_state c m v) = absurd (numbers_not_word n.kind m)
one_body states ls x y (name n f) (probabilities ps m v c s) = absurd (numbers_not_word n.kind v)
one_body states ls x y (number m n b) (uniform w) = absurd (numeral_not_name _ n.kind w.kind)
one_body states ls x y (number m n b) (name v f) = absurd (numeral_not_name _ n.kind v.kind)
one_body states ls x y (number m n b) (number o p c) = ap (λ s. equal_weights (count_of states) (λ k. k == s)) (one_whole _ _ _ n p)
one_body states ls x y (number m n b) (only_state c p v) = absurd (omega (arith, m, c))
one_body states ls x y (number m n b) (probabilities ps o p c s) = absurd (omega (arith, m, c, numbers_once _ ps p))
one_body states ls x y (only_state c n v) (uniform w) = absurd (numbers_not_word w.kind n)
one_body states ls x y (only_state c n v) (name m f) = absurd (numbers_not_word m.kind n)
one_body states ls x y (only_state c n v) (number m o b) = absurd (omega (arith, m, c))
one_body states ls x y (only_state c n v) (probabilities ps o p d s) = absurd (omega (arith, o, c))
one_body states ls x y (probabilities ps o p d s) (uniform w) = absurd (numbers_not_word w.kind p)
one_body states ls x y (probabilities ps o p d s) (name n f) = absurd (numbers_not_word n.kind p)
one_body states ls x y (probabilities ps o p d s) (number m n b) = absurd (omega (arith, m, d, numbers_once _ ps p))
one_body states ls x y (probabilities ps o p d s) (only_state c n v) = absurd (omega (arith, o, c))
one_body states ls x y (probabilities ps o p d s) (probabilities qs m n c t) = ap shares_of (pos_once ps qs (one_list p n))
one_body states ls x y e q = refl

pub one_choice : (states : Elements) (ls : List Lexeme) (ms ns : List ℕ) → AllZip (StandsFor states) ls ms → AllZip (StandsFor states) ls ns
    → ms ≡ ns
one_choice states [] [] [] a b = refl
one_choice states (l ∷ ls) (m ∷ ms) (n ∷ ns) a b =
    let here : m ≡ n = one_element states l m n a.0 b.0 in
    let following : ms ≡ ns = one_choice states ls ms ns a.1 b.1 in
    cc
one_choice states c d e a b = grind arith

pub include_not_exclude : (l : Lexeme) → IsWord (codes "include") l → IsWord (codes "exclude") l → ⊥
include_not_exclude l a b = grind arith

pub one_start : (states : Elements) (ls : List Lexeme) (x y : StartWeights) → IsStart states ls x → IsStart states ls y → x ≡ y
one_start states ls x y h1 h2 = grind (arith, name_not_colon, one_body, one_choice, include_not_exclude)

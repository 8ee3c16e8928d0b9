-- A lexeme stands for at most one element, and the lexemes of an item are at most one entry.
use Rattle.std.proofs.Common.{◌≡◌, ◌∙◌, ℕ, ◌==◌, Bool, true, List, [], ◌∷◌, ◌++◌, length, map, drop, codes, ℤ, pos, refl, sym, ap, subst}
use Rattle.std.proofs.Common.{arith}
use Rattle.polcert_cells.proofs.Common.{list_any, Lexeme, TokenKind, Name, Numeral, Colon, Table, IsWord, AreNumbers, Elements, StandsFor}
use Rattle.polcert_cells.proofs.Common.{Preamble, Place, Entry}
use Rattle.polcert_cells.specs.Numbers as numbers
use Rattle.polcert_cells.specs.Preamble.{is_mdp, dimensions}
use Rattle.polcert_cells.specs.declared.entries.Body.{Body}
use Rattle.polcert_cells.specs.declared.entries.Body.TheVariants.{Probabilities, Rewards}
use Rattle.polcert_cells.specs.Entry.{forms, cells_in, IsPlace, ArePlaces, none, more, IsBody, probabilities, rewards, uniform, identity}
use Rattle.polcert_cells.specs.Entry.{IsEntry}
use Rattle.polcert_cells.proofs.Basics.{same_head, same_tail}
use Rattle.polcert_cells.proofs.NumberLaws.{one_list}

numeral_not_name : (k : TokenKind) → k ≡ Numeral → k ≡ Name → ⊥
numeral_not_name k e f = cc

pub one_element : (elements : Elements) (l : Lexeme) (i j : ℕ) → StandsFor elements l i → StandsFor elements l j → i ≡ j
one_element elements l i j h1 h2 = grind arith

pub one_place : (elements : Elements) (l : Lexeme) (p q : Place) → IsPlace elements l p → IsPlace elements l q → p ≡ q
one_place elements l p q h1 h2 = grind arith

-- the first lexeme, if there is one, is no colon
abbrev pub NoColonFirst : List Lexeme → Type 0
NoColonFirst [] = Unit {0}
NoColonFirst (l ∷ ls) = l.kind ≡ Colon → ⊥

pub body_no_colon : {cells : ℕ} {ls : List Lexeme} {b : Body} → IsBody cells ls b → NoColonFirst ls
body_no_colon h1 = grind arith

-- what stands after places doesn't begin with a colon, so the places end at one lexeme
pub one_pattern : {ds : List Elements} {xs ys : List Lexeme} {ps qs : List Place} (u v : List Lexeme) → ArePlaces ds xs ps
    → ArePlaces ds ys qs
    → NoColonFirst u → NoColonFirst v → xs ++ u ≡ ys ++ v → (ps ≡ qs) × (u ≡ v)
one_pattern u v none none p q e = (refl, e)
one_pattern u v none (more colon place rest) p q e = absurd (subst NoColonFirst e p colon)
one_pattern u v (more colon place rest) none p q e = absurd (subst NoColonFirst (sym e) q colon)
one_pattern {ds = d ∷ ds} u v (more {l = l} {p = p} c place rest) (more {l = m} {p = q} c' other last) h k e =
    let tail = same_tail e in
    let after = one_pattern u v rest last h k (same_tail tail) in
    grind (arith, same_head, one_place)

numeral_not_word : (w : List ℕ) (l : Lexeme) (hs : List ℤ) → IsWord w l → AreNumbers (l ∷ []) hs → ⊥
numeral_not_word w l hs word (numbers.unsigned a rest) = numeral_not_name _ a.kind word.kind

pub uniform_not_identity : (l : Lexeme) → IsWord (codes "uniform") l → IsWord (codes "identity") l → ⊥
uniform_not_identity l a b = grind arith

same_pos : (m n : ℕ) → pos m ≡ pos n → m ≡ n
same_pos m n e = cc

pub pos_once : (ps qs : List ℕ) → map pos ps ≡ map pos qs → ps ≡ qs
pos_once [] [] e = refl
pos_once (p ∷ ps) (q ∷ qs) e =
    let here : p ≡ q = same_pos p q (same_head e) in
    let following : ps ≡ qs = pos_once ps qs (same_tail e) in
    cc
pos_once c d e = cc

-- no table may have both probabilities and rewards
not_both : (mdp : Bool) (table : Table) (ps : List ℕ) (hs : List ℤ) (m n : ℕ)
    → list_any (λ k. k == m) (forms mdp table (Probabilities ps)) ≡ true → list_any (λ k. k == n) (forms mdp table (Rewards hs)) ≡ true → ⊥
not_both mdp table ps hs m n h1 h2 = grind arith

one_body : (mdp : Bool) (table : Table) (m n : ℕ) {c d : ℕ} {ls : List Lexeme} {x y : Body}
    → list_any (λ k. k == m) (forms mdp table x) ≡ true → list_any (λ k. k == n) (forms mdp table y) ≡ true
    → IsBody c ls x → IsBody d ls y → x ≡ y
one_body mdp table m n f g (probabilities {ps = ps} a p q) (probabilities {ps = qs} b r s) =
    ap Probabilities (pos_once ps qs (one_list a b))
one_body mdp table m n f g (probabilities {ps = ps} a p q) (rewards {hs = hs} b r) = absurd (not_both mdp table ps hs m n f g)
one_body mdp table m n f g (probabilities a p q) (uniform w) = absurd (numeral_not_word _ _ _ w a)
one_body mdp table m n f g (probabilities a p q) (identity w) = absurd (numeral_not_word _ _ _ w a)
one_body mdp table m n f g (rewards {hs = hs} a p) (probabilities {ps = ps} b r s) = absurd (not_both mdp table ps hs n m g f)
one_body mdp table m n f g (rewards a p) (rewards b q) = ap Rewards (one_list a b)
one_body mdp table m n f g (rewards a p) (uniform w) = absurd (numeral_not_word _ _ _ w a)
one_body mdp table m n f g (rewards a p) (identity w) = absurd (numeral_not_word _ _ _ w a)
one_body mdp table m n f g (uniform w) (probabilities b r s) = absurd (numeral_not_word _ _ _ w b)
one_body mdp table m n f g (uniform w) (rewards b r) = absurd (numeral_not_word _ _ _ w b)
one_body mdp table m n f g (uniform w) (identity v) = absurd (uniform_not_identity _ w v)
one_body mdp table m n f g (identity w) (probabilities b r s) = absurd (numeral_not_word _ _ _ w b)
one_body mdp table m n f g (identity w) (rewards b r) = absurd (numeral_not_word _ _ _ w b)
one_body mdp table m n f g (identity w) (uniform v) = absurd (uniform_not_identity _ v w)
one_body mdp table m n f g c d = refl

pub one_entry : (p : Preamble) (table : Table) (ls : List Lexeme) (x y : Entry) → IsEntry p table ls x → IsEntry p table ls y → x ≡ y
one_entry p table ls x y a b =
    let parts = one_pattern a.rest b.rest a.places b.places (body_no_colon a.body) (body_no_colon b.body) (sym a.whole ∙ b.whole) in
    let body : IsBody (cells_in (drop (length x.places) (dimensions p table))) b.rest x.body =
    subst (λ r. IsBody (cells_in (drop (length x.places) (dimensions p table))) r x.body) parts.1 a.body in
    λ i. record {
      table = (a.table_is ∙ sym b.table_is) i;
      places = parts.0 i;
      body =
          (one_body (is_mdp p) table _ _ a.form b.form body b.body) i;
    }

-- A text denotes at most one model.
use Rattle.std.proofs.Common.{◌≡◌, ℕ, Some, None, List, [], ◌∷◌, ◌++◌, pos, codes, refl, ap, subst, arith}
use Rattle.polcert_format.proofs.Common.{Lexeme, text_rest, text_limit, Topic, Elements, most_states, most_actions, most_observations}
use Rattle.polcert_format.proofs.Common.{AreElements, Item, Preamble, Entry, IsEntry, Meaning, meaning_of, IsSame, ModelSoFar}
use Rattle.polcert_format.proofs.Common.{nothing_known, IsComplete, IsRight, AreRight, none, more, IsRightText, Denotes, IsModelText}
use Rattle.polcert_text.proofs.Scanning.CleanCut.{clean_cut}
use Rattle.polcert_text.proofs.Scanning.CutLaws.{one_cut}
use Rattle.polcert_cells.specs.Words.{IsWord, IsName}
use Rattle.polcert_cells.specs.Numbers.{IsWhole, IsNumber}
use Rattle.polcert_cells.specs.Elements.{counted, named}
use Rattle.polcert_format.specs.Text.{discount, rewards, costs, states, actions, observations, start, entry}
use Rattle.polcert_cells.proofs.Basics.{one_some, same_head}
use Rattle.polcert_cells.proofs.NumberLaws.{one_whole, one_list}
use Rattle.polcert_cells.proofs.EntryLaws.{one_entry}
use Rattle.polcert_cells.proofs.StartLaws.{one_start}
use Rattle.polcert_format.proofs.ItemLaws.{one_division}

pub one_preamble : (k : ModelSoFar) (p q : Preamble) → IsComplete k p → IsComplete k q → p ≡ q
one_preamble k p q a b = grind arith

whole_not_name : (l : Lexeme) (n : ℕ) → IsWhole l n → IsName l → ⊥
whole_not_name l n a b = let e = a.kind in let f = b.kind in cc

pub one_elements : (most : ℕ) (ls : List Lexeme) (x y : Elements) → AreElements most ls x → AreElements most ls y → x ≡ y
one_elements most ls x y (counted a l m) (counted b n o) = ap Elements.Count (one_whole _ _ _ a b)
one_elements most ls x y (counted {l = l} a p m) (named all n o d) = absurd (whole_not_name l _ a (all 0 l (omega arith)))
one_elements most ls x y (named all n o d) (counted {l = l} a p m) = absurd (whole_not_name l _ a (all 0 l (omega arith)))
one_elements most ls x y (named all n o d) (named rest p q e) = refl

one_discount : (ls : List Lexeme) (g h : ℕ) → IsNumber ls (pos g) → IsNumber ls (pos h) → g ≡ h
one_discount ls g h a b = let e = same_head (one_list a b) in cc

reward_not_cost : (l : Lexeme) → IsWord (codes "reward") l → IsWord (codes "cost") l → ⊥
reward_not_cost l a b = grind arith

pub one_right : (k : ModelSoFar) (t : Topic) (ls : List Lexeme) (x y : ModelSoFar) → IsRight k t ls x → IsRight k t ls y → x ≡ y
one_right k t ls x y (discount p e c n l) (discount q f d m o) = ap (λ (g : ℕ). record k { discount = Some g }) (one_discount _ _ _ n m)
one_right k t ls x y (rewards p e c w) (rewards q f d v) = refl
one_right k t ls x y (rewards p e c w) (costs q f d v) = absurd (reward_not_cost _ w v)
one_right k t ls x y (costs p e c w) (rewards q f d v) = absurd (reward_not_cost _ v w)
one_right k t ls x y (costs p e c w) (costs q f d v) = refl
one_right k t ls x y (states p e c a) (states q f d b) =
    ap (λ (g : Elements). record k { states = Some g }) (one_elements most_states _ _ _ a b)
one_right k t ls x y (actions p e c a) (actions q f d b) =
    ap (λ (g : Elements). record k { actions = Some g }) (one_elements most_actions _ _ _ a b)
one_right k t ls x y (observations p e c a) (observations q f d b) =
    ap (λ (g : Elements). record k { observations = Some g }) (one_elements most_observations _ _ _ a b)
one_right k t ls x y (start {p = p} {shares = f} i a s) (start {p = q} j b r) = grind (arith, one_start, one_preamble)
one_right k t ls x y (entry {p = p} {table = table} {e = f} a g s few) (entry {p = q} b h r fewer) =
    let same = one_preamble k p q a b in
    ap (λ (g : Entry). record k { entries = k.entries ++ g ∷ [] })
    (one_entry q table ls _ _ (subst (λ (w : Preamble). IsEntry w table ls f) same s) r)

pub one_known : (k : ModelSoFar) (items : List Item) (x y : ModelSoFar) → AreRight k items x → AreRight k items y → x ≡ y
one_known k items x y none none = refl
one_known k (item ∷ items) x y (more {next = m} t e a following) (more {next = n} u f b after) =
    let topics : t ≡ u = one_some e f in
    let next : m ≡ n = one_right k u item.body m n (subst (λ v. IsRight k v item.body m) topics a) b in
    one_known n items x y (subst (λ v. AreRight v items x) next following) after

pub one_right_text : (ls : List Lexeme) (p q : Preamble) (x y : ModelSoFar) → IsRightText ls p x → IsRightText ls q y → (p ≡ q) × (x ≡ y)
one_right_text ls p q x y a b =
    let division = one_division ls [] [] a.items b.items a.divided b.divided in
    let known : x ≡ y = one_known nothing_known b.items x y (subst (λ v. AreRight nothing_known v x) division.1 a.right) b.right in
    (one_preamble y p q (subst (λ v. IsComplete v p) known a.complete) b.complete, known)

pub same_through : (m n k l : Meaning) → IsSame m k → IsSame n l → k ≡ l → IsSame m n
same_through m n k l a b e = grind arith

pub one_meaning : (ls : List Lexeme) (m n : Meaning) → Denotes ls m → Denotes ls n → IsSame m n
one_meaning ls m n a b =
    let same = one_right_text ls a.preamble b.preamble a.known b.known a.right b.right in
    same_through m n (meaning_of a.preamble a.known.start a.known.entries) (meaning_of b.preamble b.known.start b.known.entries) a.same
    b.same
    (λ i. meaning_of (same.0 i) ((same.1 i).start) ((same.1 i).entries))

pub one_model : (text : List ℕ) (m n : Meaning) → IsModelText text m → IsModelText text n → IsSame m n
one_model text m n a b =
    let cut = one_cut (text_rest text text_limit) a.lexemes b.lexemes None None (clean_cut text a.lexemes a.tokens)
    (clean_cut text b.lexemes b.tokens) in
    one_meaning b.lexemes m n (subst (λ ls. Denotes ls m) cut.0 a.denotes) b.denotes

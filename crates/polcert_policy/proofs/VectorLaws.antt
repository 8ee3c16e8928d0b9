-- Tokens are at most one list of vectors.
use Rattle.std.proofs.Common.{◌≡◌, ◌∙◌, ℕ, ℤ, suc, zero, ◌+◌, ◌*◌, ◌<◌, true, Some, None, List, [], ◌∷◌, ◌++◌, length, slice_get}
use Rattle.std.proofs.Common.{refl, sym, subst, arith, append-nil}
use Rattle.polcert_policy.proofs.Common.{Lexeme, numeral_kind, PolicyGraph, nodes, PolicyVectors, Part, sign_kind, with_sign, TokenKind}
use Rattle.polcert_policy.proofs.Common.{tokens_of, IsPart, IsActionPart, AreVectors, IsRoundedVectors, Rounding}
use Rattle.polcert_policy.proofs.Places.{some_columns, row_above, row_below, row_of, get_within, within_get, same_list}

pub head_of : {X : Type 0} (x y : X) (xs ys : List X) → x ∷ xs ≡ y ∷ ys → x ≡ y
head_of x y xs ys e = cc

pub tail_of : {X : Type 0} (x y : X) (xs ys : List X) → x ∷ xs ≡ y ∷ ys → xs ≡ ys
tail_of x y xs ys e = cc

pub cons_not_nil : {X : Type 0} (x : X) (xs : List X) → x ∷ xs ≡ [] → ⊥
cons_not_nil x xs e = cc

pub no_sign_numeral : (k : TokenKind) → numeral_kind k ≡ true → sign_kind k ≡ true → ⊥
no_sign_numeral = grind arith

abbrev pub AreParts : List Part → Type 0
AreParts ps = (k : ℕ) (p : Part) → slice_get ps k ≡ Some p → IsPart p

pub not_sign : (s t : Lexeme) → s ≡ t → sign_kind s.kind ≡ true → numeral_kind t.kind ≡ true → ⊥
not_sign s t e sign numeral = no_sign_numeral t.kind numeral (subst (λ x. sign_kind x.kind ≡ true) e sign)

-- parts that begin the tokens of others begin the others
pub front_parts : (ps qs : List Part) (more : List Lexeme) → AreParts ps → AreParts qs → tokens_of ps ++ more ≡ tokens_of qs
    → (rest : List Part) × (qs ≡ ps ++ rest)
front_parts [] qs more a b e = (qs, refl)
front_parts (p ∷ ps) [] more a b e = grind arith
front_parts (p ∷ ps) (q ∷ qs) more a b e = at (λ f. front_parts ps qs more (λ k. a (suc k)) (λ k. b (suc k)) f) p.sign q.sign refl refl e
  where
    next : p ≡ q → (rest : List Part) × (qs ≡ ps ++ rest) → (rest : List Part) × (q ∷ qs ≡ (p ∷ ps) ++ rest)
    next same was = (was.0, λ i. sym same i ∷ was.1 i)

    at : (tokens_of ps ++ more ≡ tokens_of qs → (rest : List Part) × (qs ≡ ps ++ rest)) → (x y : _) → p.sign ≡ x → q.sign ≡ y
        → (with_sign x p.token ++ tokens_of ps) ++ more ≡ with_sign y q.token ++ tokens_of qs → (rest : List Part)
        × (q ∷ qs ≡ (p ∷ ps) ++ rest)
    at onward None None sx sy e = grind arith
    at onward None (Some t) sx sy e =
        absurd (not_sign t p.token (sym (head_of p.token t _ _ e)) ((b 0 q refl).signed t sy) (a 0 p refl).numeral)
    at onward (Some s) None sx sy e = absurd (not_sign s q.token (head_of s q.token _ _ e) ((a 0 p refl).signed s sx) (b 0 q refl).numeral)
    at onward (Some s) (Some t) sx sy e = grind arith

action_part : (a : ℕ) (p : Part) → IsActionPart a p → IsPart p
action_part = grind arith

pub same_count : {X : Type 0} (xs ys : List X) → length (xs ++ ys) ≡ length xs → xs ++ ys ≡ xs
same_count [] [] l = refl
same_count [] (y ∷ ys) l = absurd (omega (arith, l))
same_count (x ∷ xs) ys l = cc (same_count xs ys (omega (arith, l)))

-- the part of each value
pub part_of_value : (o : ℕ) (ps : List Part) (node : ℕ) (vs : List ℤ) (x : ℤ) → length ps ≡ node * (1 + o) → length vs ≡ node * o → (k : ℕ)
    → slice_get vs k ≡ Some x
    → (n : ℕ) × (s : ℕ) × (part : Part) × (k ≡ n * o + s) × (s < o) × (slice_get ps (n * (1 + o) + (1 + s)) ≡ Some part)
part_of_value o ps node vs x count filled k e =
    let inside = within_get vs k x e in
    let (n, (s, place, l)) = row_of o k (some_columns node o k (omega arith)) in
    let part = get_within ps _ (omega
    (arith, row_above (1 + o) n node (row_below o n s node (omega arith)), count, l)) in
    (n, s, part.0, place, l, part.1)

module _ {way : Rounding} where
  -- the parts of vectors are numerals, perhaps after a sign
  pub vector_parts : (g : PolicyGraph) (states : ℕ) (ps : List Part) (vs : List ℤ) → AreVectors way g states ps vs → AreParts ps
  vector_parts g states ps vs h k p e =
      let row = row_of (1 + states) k (omega arith) in at row.0 row.1.0 row.1.1 row.1.2
    where
      at : (n c : ℕ) → k ≡ n * (1 + states) + c → c < 1 + states → IsPart p
      at n zero place l = action_part _ p (h.action n p (subst (λ x. slice_get ps x ≡ Some p) (omega (arith, place)) e))
      at n (suc s) place l = (h.value n s p (omega (arith, l)) (subst (λ x. slice_get ps x ≡ Some p) (omega (arith, place)) e)).2.part

  same_parts : (g : PolicyGraph) (states : ℕ) (ts : List Lexeme) (v w : PolicyVectors) (p : IsRoundedVectors way g states ts v)
      (q : IsRoundedVectors way g states ts w) → p.parts ≡ q.parts
  same_parts g states ts v w p q =
      let found = front_parts p.parts q.parts [] (vector_parts g states p.parts v.values p.records)
      (vector_parts g states q.parts w.values q.records) (append-nil _ ∙ sym p.spelled ∙ q.spelled) in
      sym (found.1 ∙ same_count p.parts found.0 (cc (found.1, q.count, p.count)))

  same_value : (g : PolicyGraph) (states : ℕ) (ps : List Part) (vs ws : List ℤ) → length ps ≡ nodes g * (1 + states)
      → length vs ≡ nodes g * states → AreVectors way g states ps vs → AreVectors way g states ps ws
      → (k : ℕ) (x y : ℤ) → slice_get vs k ≡ Some x → slice_get ws k ≡ Some y → x ≡ y
  same_value = grind (arith, part_of_value)

  -- tokens are at most one list of vectors
  pub one_list : (g : PolicyGraph) (states : ℕ) (ts : List Lexeme) (v w : PolicyVectors) → IsRoundedVectors way g states ts v
      → IsRoundedVectors way g states ts w → v ≡ w
  one_list g states ts v w p q =
      let records = subst (λ ps. AreVectors way g states ps v.values) (same_parts g states ts v w p q) p.records in
      let values = same_list v.values w.values (p.filled ∙ sym q.filled)
      (same_value g states q.parts v.values w.values q.count p.filled records q.records) in
      λ i. record { nodes = (p.nodes_are ∙ sym q.nodes_are) i; states = (p.states_are ∙ sym q.states_are) i; values = values i }

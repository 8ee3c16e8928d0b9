-- How the tokens of a graph are read on, and what can't follow.
use Rattle.std.proofs.Common.{◌≡◌, ◌∙◌, ℕ, suc, zero, ◌+◌, ◌-◌, ◌*◌, ◌<◌, ◌≤◌, ◌==◌, Bool, true, false, ◌&&◌, ⊎_elim, Option, Some, List}
use Rattle.std.proofs.Common.{[], ◌∷◌, ◌++◌, length, slice_get, refl, sym, ap, subst, arith, length-append, append_assoc, append-nil, lit<}
use Rattle.std.proofs.Math.Path.{subst₂}
use Rattle.polcert_policy.proofs.Common.{is_digit, Lexeme, Name, Numeral, numeral_kind, minus_kind, is_whole, whole_number_of, TokenKind}
use Rattle.polcert_policy.proofs.Common.{is_successor, successor_of, is_joined, PolicyGraph, nodes, IsLooseGraph, IsPossibleGraph, width}
use Rattle.polcert_policy.proofs.Common.{most_nodes, AreNodesUpTo, IsApartFrom}
use Rattle.polcert_policy.specs.Graphs.{IsAction, IsSuccessor, AreNodes}
use Rattle.polcert_policy.proofs.Places.{some_columns, row_above, same_row, same_column, get_snoc, get_more, get_here, get_within}
use Rattle.polcert_policy.proofs.Places.{within_get, same_some, same_list, row_of, row_below, below_or_at}

-- what a token is at its place
pub record Fits (actions observations node column : ℕ) (t : Lexeme) (chosen : List ℕ) (successors : List (Option ℕ)) : Type 0 where
  pub number : column ≡ 0 → (is_whole t ≡ true) × (whole_number_of t ≡ node)
  pub action : column ≡ 1 → IsAction actions chosen node t
  pub next : (z : ℕ) → column ≡ 2 + z → IsSuccessor successors (node * observations + z) t

-- each place of the one list is the same in the other
abbrev pub Keeps : {X : Type 0} → List X → List X → Type 0
Keeps {X} xs ys = (k : ℕ) (x : X) → slice_get xs k ≡ Some x → slice_get ys k ≡ Some x

before_get : (ts : List Lexeme) (t s : Lexeme) (k : ℕ) → slice_get (ts ++ t ∷ []) k ≡ Some s → k < length ts → slice_get ts k ≡ Some s
before_get ts t s k e l = grind (arith, get_snoc)

-- one more token keeps the records
more_nodes : (a o : ℕ) (ts : List Lexeme) (t : Lexeme) (cs ds : List ℕ) (ss us : List (Option ℕ)) (node column : ℕ)
    → AreNodes a o ts cs ss → length ts ≡ node * width o + column → column < width o
    → Keeps cs ds → Keeps ss us
    → IsApartFrom ts t → Fits a o node column t ds us
    → AreNodes a o (ts ++ t ∷ []) ds us
more_nodes a o ts t cs ds ss us node column old count within keep_c keep_s apart fits = record {
  number = λ n u at. ⊎_elim (λ l. old.number n u l) (λ r.
      let e : n * width o + 0 ≡ node * width o + column = omega arith in
      let row = same_row (width o) n node 0 column (omega arith) within e in
      let col = same_column (width o) n node 0 column (omega arith) within e in
      let P : Lexeme → Type 0 = λ x. (is_whole x ≡ true) × (whole_number_of x ≡ n) in
      let was = fits.number (sym col) in
      subst P r.1 (was.0, was.1 ∙ sym row))
      (get_snoc ts t u (n * width o) at);
  action = λ n u at. ⊎_elim (λ l.
      let was = old.action n u l in record { whole = was.whole; known = was.known; value = keep_c n _ was.value })
      (λ r.
      let e : n * width o + 1 ≡ node * width o + column = omega arith in
      let row = same_row (width o) n node 1 column (omega arith) within e in
      let col = same_column (width o) n node 1 column (omega arith) within e in
      let P : ℕ → Lexeme → Type 0 = λ m x. IsAction a ds m x in
      subst (λ x. P n x) r.1 (subst (λ m. P m t) (sym row) (fits.action (sym col))))
      (get_snoc ts t u _ at);
  next = λ n z u below at. ⊎_elim (λ l.
      let was = old.next n z u below l in record { right = was.right; value = keep_s (n * o + z) _ was.value })
      (λ r.
      let e : n * width o + (2 + z) ≡ node * width o + column = omega arith in
      let row = same_row (width o) n node (2 + z) column (omega (arith, below)) within e in
      let col = same_column (width o) n node (2 + z) column (omega (arith, below)) within e in
      let P : ℕ → Lexeme → Type 0 = λ m x. IsSuccessor us (m * o + z) x in
      subst (λ x. P n x) r.1 (subst (λ m. P m t) (sym row) (fits.next z (sym col))))
      (get_snoc ts t u _ at);
  apart = λ k s u first second. ⊎_elim (λ l.
      let inside = within_get ts (suc k) u l in
      old.apart k s u (before_get ts t s k first (omega (arith, inside))) l)
      (λ r. subst (λ x. is_joined s x ≡ false) r.1 (apart k s (before_get ts t s k first (omega (arith, r.0))) r.0))
      (get_snoc ts t u (suc k) second);
}

same_places : {X : Type 0} (xs : List X) → Keeps xs xs
same_places xs k x e = e

pushed_places : {X : Type 0} (xs : List X) (y : X) → Keeps xs (xs ++ y ∷ [])
pushed_places xs y k x e = get_more xs (y ∷ []) x k e

pub length_snoc : {X : Type 0} (xs : List X) (y : X) → length (xs ++ y ∷ []) ≡ suc (length xs)
length_snoc xs y = length-append xs (y ∷ []) ∙ omega arith

at_end : {X : Type 0} (xs : List X) (y : X) (k : ℕ) → k ≡ length xs → slice_get (xs ++ y ∷ []) k ≡ Some y
at_end xs y k e = ap (λ n. slice_get (xs ++ y ∷ []) n) e ∙ get_here xs [] y

-- the place after the z-th of so many places, of which the first is in this column
pub record IsAfter (first o node z n c : ℕ) : Type 0 where
  pub inside : suc z < o → (n ≡ node) × (c ≡ first + suc z)
  pub last : suc z ≡ o → (n ≡ suc node) × (c ≡ 0)

module _ (a : ℕ) (o : ℕ) (ts : List Lexeme) (t : Lexeme) (node : ℕ) where
  pub step_number : (cs : List ℕ) (ss : List (Option ℕ))
      → AreNodesUpTo a o ts node 0 cs ss → IsApartFrom ts t → is_whole t ≡ true → whole_number_of t ≡ node → node < most_nodes
      → AreNodesUpTo a o (ts ++ t ∷ []) node 1 cs ss
  step_number cs ss old apart whole value few =
      record {
        records = more_nodes a o ts t cs cs ss ss node 0 old.records old.count old.within (same_places cs) (same_places ss) apart
            (record { number = λ e. (whole, value); action = λ e. absurd (omega (arith, e)); next = λ z e. absurd (omega (arith, e)) });
        count = omega (arith, length_snoc ts t, old.count);
        within = omega arith;
        chosen_before = λ l. old.chosen_before (omega arith);
        chosen_after = λ l. absurd (omega (arith, l));
        filled = omega arith;
        few = old.few;
        few_begun = λ l. few;
      }

  pub step_action : (cs : List ℕ) (ss : List (Option ℕ))
      → 1 ≤ o → AreNodesUpTo a o ts node 1 cs ss → IsApartFrom ts t → is_whole t ≡ true → whole_number_of t < a
      → AreNodesUpTo a o (ts ++ t ∷ []) node 2 (cs ++ whole_number_of t ∷ []) ss
  step_action cs ss some old apart whole known =
      let place = sym (old.chosen_before (omega arith)) in
      record {
        records = more_nodes a o ts t cs _ ss ss node 1 old.records old.count old.within (pushed_places cs _) (same_places ss) apart
            (record {
              number = λ e. absurd (omega (arith, e));
              action = λ e. record { whole = whole; known = known; value = at_end cs _ node place };
              next = λ z e. absurd (omega (arith, e));
            });
        count = omega (arith, length_snoc ts t, old.count);
        within = omega arith;
        chosen_before = λ l. absurd (omega (arith, l));
        chosen_after = λ l. omega (arith, length_snoc cs (whole_number_of t), place);
        filled = omega arith;
        few = old.few;
        few_begun = λ l. old.few_begun (omega arith);
      }

  step_within : (z : ℕ) (cs : List ℕ) (ss : List (Option ℕ))
      → suc z < o → AreNodesUpTo a o ts node (2 + z) cs ss → AreNodes a o (ts ++ t ∷ []) cs (ss ++ successor_of t ∷ [])
      → AreNodesUpTo a o (ts ++ t ∷ []) node (3 + z) cs (ss ++ successor_of t ∷ [])
  step_within z cs ss l old new = grind (arith, length_snoc)

  step_last : (z : ℕ) (cs : List ℕ) (ss : List (Option ℕ))
      → suc z ≡ o → AreNodesUpTo a o ts node (2 + z) cs ss → AreNodes a o (ts ++ t ∷ []) cs (ss ++ successor_of t ∷ [])
      → AreNodesUpTo a o (ts ++ t ∷ []) (suc node) 0 cs (ss ++ successor_of t ∷ [])
  step_last z cs ss e old new = grind (arith, length_snoc)

  pub step_successor : (z n c : ℕ) (cs : List ℕ) (ss : List (Option ℕ))
      → AreNodesUpTo a o ts node (2 + z) cs ss → IsApartFrom ts t → is_successor t ≡ true → IsAfter 2 o node z n c
      → AreNodesUpTo a o (ts ++ t ∷ []) n c cs (ss ++ successor_of t ∷ [])
  step_successor z n c cs ss old apart right following =
      let new = more_nodes a o ts t cs cs ss _ node (2 + z) old.records old.count old.within (same_places cs)
      (pushed_places ss _) apart
      (record {
        number = λ e. absurd (omega (arith, e));
        action = λ e. absurd (omega (arith, e));
        next = λ y e. record { right = right; value = at_end ss _ (node * o + y) (omega (arith, e)) };
      }) in
      let At : ℕ → ℕ → Type 0 = λ n c. AreNodesUpTo a o (ts ++ t ∷ []) n c cs (ss ++ successor_of t ∷ []) in
      ⊎_elim (λ l. let is = following.inside l in subst₂ At (sym is.0) (omega (arith, is.1)) (step_within z cs ss l old new))
      (λ e. let is = following.last e in subst₂ At (sym is.0) (sym is.1) (step_last z cs ss e old new))
      (below_or_at (suc z) o (omega arith))

-- whole nodes are a graph
abbrev pub graph_of : ℕ → ℕ → List ℕ → List (Option ℕ) → PolicyGraph
graph_of a o cs ss = record { actions = a; observations = o; chosen = cs; successors = ss }

module _ (a : ℕ) (o : ℕ) (ts : List Lexeme) where
  pub loose_of : (node : ℕ) (cs : List ℕ) (ss : List (Option ℕ))
      → 1 ≤ node → AreNodesUpTo a o ts node 0 cs ss → IsLooseGraph a o ts (graph_of a o cs ss)
  loose_of node cs ss some old = grind arith

  -- a front of possible tokens is possible
  pub possible_before : (us : List Lexeme) → IsPossibleGraph a o (ts ++ us) → IsPossibleGraph a o ts
  possible_before us h = grind (arith, append_assoc)

  pub possible_loose : (g : PolicyGraph) → IsLooseGraph a o ts g → IsPossibleGraph a o ts
  possible_loose g h = ([], (g, subst (λ xs. IsLooseGraph a o xs g) (sym (append-nil ts)) h))

-- the name `X`, and the numeral `0`
abbrev letter_x : Lexeme
letter_x = record { kind = Name; place = 0; bytes = 88 ∷ [] }

abbrev digit_0 : Lexeme
digit_0 = record { kind = Numeral; place = 0; bytes = 48 ∷ [] }

pub joined_off : (b c : Bool) → (b && (false && c)) ≡ false
joined_off b c = grind arith

x_apart : (ts : List Lexeme) → IsApartFrom ts letter_x
x_apart ts k s e l = joined_off _ (0 == s.place + length s.bytes)

zero_whole : is_whole digit_0 ≡ true
unfolding is_digit
zero_whole = refl

-- after whole fronts of a node, successors that name no node complete it
possible_successors : (a o : ℕ) (left : ℕ) (ts : List Lexeme) (node z : ℕ) (cs : List ℕ) (ss : List (Option ℕ))
    → suc z + left ≡ o → AreNodesUpTo a o ts node (2 + z) cs ss → IsPossibleGraph a o ts
possible_successors a o zero ts node z cs ss e old =
    let new = step_successor a o ts letter_x node z (suc node) 0 cs ss old (x_apart ts) refl
    (record { inside = λ l. absurd (omega (arith, l, e)); last = λ e. (refl, refl) }) in
    possible_before a o ts _ (possible_loose a o _ _ (loose_of a o _ (suc node) cs _ (omega arith) new))
possible_successors a o (suc left) ts node z cs ss e old =
    let new = step_successor a o ts letter_x node z node (3 + z) cs ss old (x_apart ts) refl
    (record { inside = λ l. (refl, omega arith); last = λ f. absurd (omega (arith, f, e)) }) in
    possible_before a o ts _ (possible_successors a o left _ node (suc z) cs _ (omega (arith, e))
    (subst (λ c. AreNodesUpTo a o (ts ++ letter_x ∷ []) node c cs (ss ++ successor_of letter_x ∷ [])) (omega arith) new))

no_minus_whole : (k : TokenKind) (b c : Bool) → (numeral_kind k && b) ≡ true → (minus_kind k && c) ≡ false
no_minus_whole k b c h1 = grind arith

possible_action : (a o : ℕ) (ts : List Lexeme) (node : ℕ) (cs : List ℕ) (ss : List (Option ℕ))
    → 1 ≤ a → 1 ≤ o → AreNodesUpTo a o ts node 1 cs ss → IsPossibleGraph a o ts
possible_action a o ts node cs ss some_a some_o old =
    let apart : IsApartFrom ts digit_0 = λ k s at e.
    no_minus_whole s.kind _ _ (old.records.number node s (subst (λ n. slice_get ts n ≡ Some s) (omega (arith, e, old.count)) at)).0 in
    let new = step_action a o ts digit_0 node cs ss some_o old apart zero_whole (omega (arith, some_a)) in
    possible_before a o ts (digit_0 ∷ []) (possible_successors a o (o - 1) _ node 0 _ ss (omega (arith, some_o)) new)

possible_start : (a o : ℕ) (ts : List Lexeme) (cs : List ℕ) (ss : List (Option ℕ))
    → 1 ≤ a → 1 ≤ o → AreNodesUpTo a o ts 0 0 cs ss → IsPossibleGraph a o ts
possible_start a o ts cs ss some_a some_o old =
    let new = step_number a o ts digit_0 0 cs ss old (λ k s at e. absurd (omega arith)) zero_whole refl (lit< tt) in
    possible_before a o ts (digit_0 ∷ []) (possible_action a o _ 0 cs ss some_a some_o new)

-- what is read is possible
pub possible : (a o : ℕ) (ts : List Lexeme) (node column : ℕ) (cs : List ℕ) (ss : List (Option ℕ))
    → 1 ≤ a → 1 ≤ o → AreNodesUpTo a o ts node column cs ss → IsPossibleGraph a o ts
possible a o ts zero zero cs ss some_a some_o old = possible_start a o ts cs ss some_a some_o old
possible a o ts (suc node) zero cs ss some_a some_o old = possible_loose a o ts _ (loose_of a o ts (suc node) cs ss (omega arith) old)
possible a o ts node (suc zero) cs ss some_a some_o old = possible_action a o ts node cs ss some_a some_o old
possible a o ts node (suc (suc z)) cs ss some_a some_o old =
    possible_successors a o (o - suc z) ts node z cs ss (omega arith)
    (subst (λ c. AreNodesUpTo a o ts node c cs ss) (omega arith) old)

module _ (a : ℕ) (o : ℕ) (ts : List Lexeme) (more : List Lexeme) (t : Lexeme) where
  -- a graph that continues from what is read has the next token at its place
  pub needed : (node column : ℕ) (cs : List ℕ) (ss : List (Option ℕ)) (g : PolicyGraph)
      → AreNodesUpTo a o ts node column cs ss → IsLooseGraph a o (ts ++ t ∷ more) g
      → Fits a o node column t g.chosen g.successors
  needed node column cs ss g old loose =
      let At : ℕ → Type 0 = λ k. slice_get (ts ++ t ∷ more) k ≡ Some t in
      let here = subst At old.count (get_here ts more t) in
      record {
        number = λ e. loose.records.number node t (subst At (omega (arith, e)) here);
        action = λ e. loose.records.action node t (subst (λ c. At (node * width o + c)) e here);
        next = λ z e. loose.records.next node z t (omega arith) (subst (λ c. At (node * width o + c)) e here);
      }

  -- a graph that continues after whole nodes has more of them
  pub needed_node : (node : ℕ) (cs : List ℕ) (ss : List (Option ℕ)) (g : PolicyGraph)
      → AreNodesUpTo a o ts node 0 cs ss → IsLooseGraph a o (ts ++ t ∷ more) g → node < most_nodes
  needed_node node cs ss g old loose = grind (arith, length-append)

  pub needed_apart : (s : Lexeme) (k : ℕ) (g : PolicyGraph)
      → slice_get ts k ≡ Some s → suc k ≡ length ts → IsLooseGraph a o (ts ++ t ∷ more) g → is_joined s t ≡ false
  needed_apart s k g at e loose =
      loose.records.apart k s t (get_more ts (t ∷ more) s k at) (ap (λ n. slice_get (ts ++ t ∷ more) n) e ∙ get_here ts more t)

-- part of a node is no graph, and nothing is none
pub unfinished : (a o : ℕ) (ts : List Lexeme) (node column : ℕ) (cs : List ℕ) (ss : List (Option ℕ)) (g : PolicyGraph)
    → AreNodesUpTo a o ts node column cs ss → 0 < column → IsLooseGraph a o ts g → ⊥
unfinished a o ts node column cs ss g old begun loose =
    omega (arith, same_column (width o) node (nodes g) column 0 old.within (omega arith) (omega arith), begun)

same_nodes : (a o : ℕ) (ts : List Lexeme) (g h : PolicyGraph) → IsLooseGraph a o ts g → IsLooseGraph a o ts h → nodes g ≡ nodes h
same_nodes a o ts g h x y = grind arith

same_values : {X : Type 0} (x y z : X) → Some x ≡ Some z → Some y ≡ Some z → x ≡ y
same_values x y z e f = same_some x z e ∙ sym (same_some y z f)

module _ (a : ℕ) (o : ℕ) (ts : List Lexeme) (g : PolicyGraph) (h : PolicyGraph) where
  same_action : IsLooseGraph a o ts g → IsLooseGraph a o ts h
      → (k : ℕ) (x y : ℕ) → slice_get g.chosen k ≡ Some x → slice_get h.chosen k ≡ Some y → x ≡ y
  same_action p q k x y ex ey =
      let token = get_within ts _ (omega (arith, row_above (width o) k (nodes g) (within_get g.chosen k x ex), p.tokens)) in
      same_values x y _ (sym ex ∙ (p.records.action k token.0 token.1).value)
      (sym ey ∙ (q.records.action k token.0 token.1).value)

  same_next : IsLooseGraph a o ts g → IsLooseGraph a o ts h
      → (k : ℕ) (x y : Option ℕ) → slice_get g.successors k ≡ Some x → slice_get h.successors k ≡ Some y → x ≡ y
  same_next p q k x y ex ey =
      let row = row_of o k (some_columns (nodes g) o k (omega (arith, within_get g.successors k x ex, p.successors))) in
      at row.0 row.1.0 row.1.1 row.1.2
    where
      named : (n z : ℕ) (t : _) → z < o → slice_get ts (n * width o + (2 + z)) ≡ Some t
          → slice_get g.successors (n * o + z) ≡ Some x → slice_get h.successors (n * o + z) ≡ Some y → x ≡ y
      named n z t l e ex ey = grind arith

      at : (n z : ℕ) → k ≡ n * o + z → z < o → x ≡ y
      at n z e l =
          let inside : n * o + z < nodes g * o = omega (arith, within_get g.successors k x ex, p.successors, e) in
          let rows = row_above (width o) n (nodes g) (row_below o n z (nodes g) inside) in
          let token = get_within ts _ (omega arith) in
          named n z token.0 l token.1 (subst (λ j. slice_get g.successors j ≡ Some x) e ex)
          (subst (λ j. slice_get h.successors j ≡ Some y) e ey)

  -- tokens are at most one graph
  pub one_loose : IsLooseGraph a o ts g → IsLooseGraph a o ts h → g ≡ h
  one_loose p q =
      let rows = same_nodes a o ts g h p q in
      let os_are = p.observations_are ∙ sym q.observations_are in
      let cs_are = same_list g.chosen h.chosen rows (same_action p q) in
      let ss_are = same_list g.successors h.successors (omega arith)
      (same_next p q) in
      λ i. record { actions = (p.actions_are ∙ sym q.actions_are) i; observations = os_are i; chosen = cs_are i; successors = ss_are i }

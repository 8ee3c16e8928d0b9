-- Every text is a graph's, or has a right refusal other than out of memory.
use Rattle.std.proofs.Math.Logic.{⊎_map}
use Rattle.std.proofs.Common.{◌≡◌, ◌≢◌, ◌⊎◌, inl, inr, ⊎_elim, ℕ, suc, zero, ◌+◌, ◌<◌, ◌≤◌, Bool, true, false, Option, Some, None}
use Rattle.std.proofs.Common.{Err, List, [], ◌∷◌, ◌++◌, length, slice_get, refl, ap, subst, arith}
use Rattle.std.proofs.lemmas.Bool.{cases_Bool}
use Rattle.polcert_text.specs.Cut.{Lexeme, IsCut, text_rest, text_limit}
use Rattle.polcert_text.specs.declared.tokens.TokenFault.{TokenFault}
use Rattle.polcert_policy.specs.Fields.{is_joined, is_successor}
use Rattle.polcert_policy.specs.Graphs.{PolicyGraph, IsLooseGraph, most_nodes}
use Rattle.polcert_policy.specs.GraphText.{IsRefusedGraphText}
use Rattle.polcert_policy.specs.Steps.GraphRead.{AreNodesUpTo, IsApartFrom, IsTokenRefusal, IsEndRefusal, IsUnfinished, CheckedNumber}
use Rattle.polcert_policy.specs.Steps.GraphRead.{ReadAction, AllBelow, IsFirstBeyondAt}
use Rattle.polcert_policy.specs.declared.fault.GraphFault.{GraphFault}
use Rattle.polcert_policy.specs.declared.fault.GraphFault.TheVariants as faults
use Rattle.polcert_policy.proofs.EndLaws.{graph_read, beyond_read}
use Rattle.polcert_policy.proofs.FlatGraphs.{graph_text}
use Rattle.polcert_policy.proofs.GraphLaws.{step_number, step_action, step_successor, possible, unfinished}
use Rattle.polcert_policy.proofs.Places.{below_or_at, same_some}
use Rattle.polcert_policy.proofs.ReadLaws.{refuse_joined, refuse_number, refuse_action, refuse_successor}
use Rattle.polcert_policy.proofs.TextLaws.{end_refused, refused_text, token_refusal}
use Rattle.polcert_existence.specs.Answers.{HasGraphAnswer}
use Rattle.polcert_existence.proofs.Decisions.{below_or_not, same_or_not}
use Rattle.polcert_existence.proofs.EachToken.{answered}

-- ---- one more token

-- the tokens are whole nodes, and so many tokens of the next
pub record GraphSoFar (a o : ℕ) (ts : List Lexeme) : Type 0 where
  pub node : ℕ
  pub column : ℕ
  pub chosen : List ℕ
  pub successors : List (Option ℕ)
  pub nodes : AreNodesUpTo a o ts node column chosen successors

-- the tokens aren't read on for this reason, which isn't out of memory
abbrev HasTokenRefusal : ℕ → ℕ → List Lexeme → Type 0
HasTokenRefusal a o ts = (fault : GraphFault) × (fault ≢ faults.Memory) × IsTokenRefusal a o ts fault

-- a token that joins on to the last of the tokens
record EndsJoined (ts : List Lexeme) (t : Lexeme) : Type 0 where
  pub before : List Lexeme
  pub last : Lexeme
  pub spelled : ts ≡ before ++ last ∷ []
  pub joined : is_joined last t ≡ true

one_apart : (s t : Lexeme) → is_joined s t ≡ false → IsApartFrom (s ∷ []) t
one_apart s t e _ u at end = grind arith

apart_after : (s u : Lexeme) (us : List Lexeme) (t : Lexeme) → IsApartFrom (u ∷ us) t → IsApartFrom (s ∷ u ∷ us) t
apart_after s u us t h zero x at end = absurd (omega arith)
apart_after s u us t h (suc k) x at end = h k x at (omega arith)

joined_or_apart : (ts : List Lexeme) (t : Lexeme) → EndsJoined ts t ⊎ IsApartFrom ts t
joined_or_apart [] t = inr (λ k s at end. absurd (omega arith))
joined_or_apart (s ∷ []) t = by_test _ refl
  where
    by_test : (b : Bool) → is_joined s t ≡ b → EndsJoined (s ∷ []) t ⊎ IsApartFrom (s ∷ []) t
    by_test true e = inl (record { before = []; last = s; spelled = refl; joined = e })
    by_test false e = inr (one_apart s t e)
joined_or_apart (s ∷ u ∷ us) t = ⊎_elim (λ h. inl (record
    { before = s ∷ h.before; last = h.last; spelled = ap (λ xs. s ∷ xs) h.spelled; joined = h.joined })) (λ h. inr (apart_after s u us t h))
    (joined_or_apart _ t)

module _ (a o : ℕ) (some_a : 1 ≤ a) (some_o : 1 ≤ o) (ts : List Lexeme) (t : Lexeme) where
  abbrev IsTakenOrRefused : Type 0
  IsTakenOrRefused = GraphSoFar a o (ts ++ t ∷ []) ⊎ HasTokenRefusal a o (ts ++ t ∷ [])

  module _ (node : ℕ) (cs : List ℕ) (ss : List (Option ℕ)) (apart : IsApartFrom ts t) where
    take_number : AreNodesUpTo a o ts node 0 cs ss → IsTakenOrRefused
    take_number old = ⊎_elim inside (λ e. stop (faults.TooManyNodes _) (λ m. cc) (refl, e)) (below_or_at _ _ old.few)
      where
        stop : (fault : GraphFault) → fault ≢ faults.Memory → CheckedNumber node t (Err fault) → IsTakenOrRefused
        stop fault says h = inr (_, says, refuse_number a o ts t _ 0 cs ss some_a some_o old apart _ refl h)

        inside : node < most_nodes → IsTakenOrRefused
        inside few = ⊎_elim (λ whole. ⊎_elim (λ value. inl (record {
          node = _;
          column = 1;
          chosen = cs;
          successors = ss;
          nodes = step_number a o ts t _ cs ss old apart whole value few;
        }))
            (λ other. stop (faults.NodeOutOfOrder _) (λ m. cc) (refl, few, whole, other))
            (same_or_not _ _))
            (λ wrong. stop (faults.BadShape _) (λ m. cc) (refl, few, wrong))
            (cases_Bool _)

    take_action : AreNodesUpTo a o ts node 1 cs ss → IsTakenOrRefused
    take_action old = ⊎_elim (λ whole. ⊎_elim (λ known. inl (record {
      node = _;
      column = 2;
      chosen = _;
      successors = ss;
      nodes = step_action a o ts t _ cs ss some_o old apart whole known;
    }))
        (λ above. stop (faults.ActionOutOfRange _) (λ m. cc) (refl, whole, above))
        (below_or_not _ a))
        (λ wrong. stop (faults.BadShape _) (λ m. cc) (refl, wrong))
        (cases_Bool _)
      where
        stop : (fault : GraphFault) → fault ≢ faults.Memory → ReadAction a t (Err fault) → IsTakenOrRefused
        stop fault says h = inr (_, says, refuse_action a o ts t _ 1 cs ss some_a some_o old apart _ refl h)

    take_successor : (z : ℕ) → AreNodesUpTo a o ts node (2 + z) cs ss → IsTakenOrRefused
    take_successor z old = ⊎_elim (λ right. inl (read right (below_or_at _ o (omega arith)))) (λ wrong. inr (
      faults.BadShape _,
      (λ m. cc),
      refuse_successor a o ts t _ _ cs ss some_a some_o old apart _ (omega arith) wrong refl,
    ))
        (cases_Bool _)
      where
        read : is_successor t ≡ true → (suc z < o) ⊎ (suc z ≡ o) → GraphSoFar a o (ts ++ t ∷ [])
        read right (inl l) = record {
          node = _;
          column = _;
          chosen = cs;
          successors = _;
          nodes = step_successor a o ts t _ z _ _ cs ss old apart right
              (record { inside = λ k. (refl, refl); last = λ e. absurd (omega arith) });
        }
        read right (inr e) = record {
          node = _;
          column = 0;
          chosen = cs;
          successors = _;
          nodes = step_successor a o ts t _ z _ 0 cs ss old apart right
              (record { inside = λ l. absurd (omega arith); last = λ k. (refl, refl) });
        }

    take_next : (column : ℕ) → AreNodesUpTo a o ts node column cs ss → IsTakenOrRefused
    take_next zero old = take_number old
    take_next (suc zero) old = take_action old
    take_next (suc (suc z)) old = take_successor z (subst (λ c. AreNodesUpTo a o ts node c cs ss) (omega arith) old)

  -- the tokens are read on by this token, or stop being possible at it
  take_token : GraphSoFar a o ts → IsTakenOrRefused
  take_token so_far = ⊎_elim (λ ends. inr (
    faults.BadShape _,
    (λ m. cc),
    refuse_joined a o _ ts _ t _ ends.spelled refl ends.joined (possible a o ts _ _ _ _ some_a some_o so_far.nodes),
  ))
      (λ apart. take_next _ _ _ apart _ so_far.nodes)
      (joined_or_apart ts t)

-- ---- the end

below_all : (count : ℕ) (v : Option ℕ) (vs : List (Option ℕ)) → ((m : ℕ) → v ≡ Some m → m < count) → AllBelow count vs
    → AllBelow count (v ∷ vs)
below_all count v vs first rest zero m e = grind arith
below_all count v vs first rest (suc k) m e = rest k m e

first_after : (count : ℕ) (v : Option ℕ) (vs : List (Option ℕ)) (place : ℕ) → ((m : ℕ) → v ≡ Some m → m < count)
    → IsFirstBeyondAt count vs place → IsFirstBeyondAt count (v ∷ vs) (suc place)
first_after count v vs place below h = record { node = _; beyond = h.beyond; above = h.above; first = before }
  where
    before : (k m : ℕ) → k < suc place → slice_get (v ∷ vs) k ≡ Some (Some m) → m < count
    before zero m l e = grind arith
    before (suc k) m l e = h.first k m (omega arith) e

one_below : (count : ℕ) (v : Option ℕ) → ((m : ℕ) → v ≡ Some m → m < count) ⊎ ((m : ℕ) × (v ≡ Some m) × (count ≤ m))
one_below count None = inl (λ m e. cc)
one_below count (Some n) = ⊎_map (λ l. λ m e. omega (arith, l, same_some n m e)) (λ l. (n, refl, l)) (below_or_not n _)

-- all successors are below the count, or there is a first that isn't
first_beyond : (count : ℕ) (vs : List (Option ℕ)) → AllBelow count vs ⊎ ((place : ℕ) × IsFirstBeyondAt count vs place)
first_beyond count [] = inl (λ k m e. cc)
first_beyond count (v ∷ vs) = ⊎_elim
    (λ below. ⊎_map (λ all. below_all count v vs below all) (λ h. (suc h.0, first_after count v vs h.0 below h.1))
    (first_beyond _ vs))
    (λ h. inr (0, record { node = h.0; beyond = cc; above = h.2; first = λ k m l e. absurd (omega arith) }))
    (one_below _ v)

module _ (a o : ℕ) (some_a : 1 ≤ a) (some_o : 1 ≤ o) (text : List ℕ) where
  refused : (fault : GraphFault) → fault ≢ faults.Memory → IsRefusedGraphText a o fault text → HasGraphAnswer a o text
  refused fault says h = inr (_, says, h)

  -- ---- where the text ends cleanly after the tokens
  module _ (ts : List Lexeme) (cut : IsCut (text_rest text text_limit) ts None) where
    ends : (fault : GraphFault) → fault ≢ faults.Memory → IsEndRefusal a o ts (length text) fault → HasGraphAnswer a o text
    ends fault says h = refused _ says (end_refused a o a o _ ts _ _ refl refl cut refl h)

    unfinished_at : (node column : ℕ) (cs : List ℕ) (ss : List (Option ℕ)) → AreNodesUpTo a o ts node column cs ss
        → ((g : PolicyGraph) → IsLooseGraph a o ts g → ⊥) → IsUnfinished a o ts node column
    unfinished_at node column cs ss h none = record {
      possible = possible a o ts _ _ cs ss some_a some_o h;
      unfinished = none;
      column_is = record { count = h.count; within = h.within };
    }

    whole_nodes : (node : ℕ) (cs : List ℕ) (ss : List (Option ℕ)) → 1 ≤ node → AreNodesUpTo a o ts node 0 cs ss → HasGraphAnswer a o text
    whole_nodes node cs ss some h = ⊎_elim (λ below. inl (_, graph_text a o _ _ ts cut (graph_read a o ts _ cs ss _ some h refl below)))
        (λ beyond. ends (faults.SuccessorOutOfRange _ _) (λ m. cc)
        (beyond_read a o ts _ cs ss _ _ some_o some h refl beyond.1))
        (first_beyond _ _)

    at_end : (node column : ℕ) (cs : List ℕ) (ss : List (Option ℕ)) → AreNodesUpTo a o ts node column cs ss → HasGraphAnswer a o text
    at_end zero zero cs ss h = ends (faults.NoNodes _) (λ m. cc) (refl, unfinished_at 0 0 cs ss h (grind arith))
    at_end (suc node) zero cs ss h = whole_nodes _ cs ss (omega arith) h
    at_end node (suc column) cs ss h = ends (faults.Truncated _) (λ m. cc) (
      refl,
      (
        _,
        (
          _,
          unfinished_at _ _ cs ss h (λ g. unfinished a o ts node (suc column) cs ss g h (omega arith)),
          omega arith,
        ),
      ),
    )

  -- ---- the whole text
  answer_after : (seen : List Lexeme) (end : Option TokenFault) → IsCut (text_rest text text_limit) seen end → GraphSoFar a o seen
      → HasGraphAnswer a o text
  answer_after seen None cut so_far = at_end _ cut _ _ _ _ so_far.nodes
  answer_after seen (Some fault) cut so_far = refused _ (λ m. cc) (refused_text a o text (faults.Token fault) (
    seen,
    cut,
    possible a o _ _ _ _ _ some_a some_o so_far.nodes,
  ))

  pub graph_answer : HasGraphAnswer a o text
  graph_answer = answered _ _ (record { node = 0; column = 0; chosen = []; successors = []; nodes = grind arith })
      (λ seen t so_far. ⊎_elim inl (λ stop. inr (λ rest taken. refused stop.0 stop.1
      (refused_text a o text stop.0 (token_refusal a o a o text (seen ++ t ∷ []) rest stop.0 refl refl taken stop.2))))
      (take_token a o some_a some_o _ t so_far))
      answer_after

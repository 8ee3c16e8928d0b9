-- A text is refused as a graph for one reason.
use Rattle.std.proofs.Common.{◌≡◌, ℕ, ◌<◌, inl, inr, true, false, Option, Some, None, List, length, refl, subst}
use Rattle.std.proofs.Common.{arith}
use Rattle.polcert_policy.proofs.Common.{Lexeme, text_rest, text_limit, TokenFault, PolicyGraph, nodes, IsLooseGraph, IsFirstBeyond}
use Rattle.polcert_policy.proofs.Common.{IsPossibleGraph, width, most_nodes, IsColumn, joined_minus, IsGraphMisfit, IsWrongGraphToken}
use Rattle.polcert_policy.proofs.Common.{IsGraphRefusal}
use Rattle.polcert_policy.proofs.Common.{GraphFault}
use Rattle.polcert_policy.specs.GraphText.{is_shaped}
use Rattle.polcert_policy.specs.declared.fault.GraphFault.TheVariants as faults
use Rattle.polcert_policy.proofs.Places.{true_false, same_row, same_column}
use Rattle.polcert_policy.proofs.GraphLaws.{possible_before, possible_loose, one_loose}
use Rattle.polcert_policy.proofs.TextLaws.{one_first}
use Rattle.polcert_policy.proofs.OneStop as stops

module _ (o : ℕ) (ts : List Lexeme) where
  columns : (n c m d : ℕ) → IsColumn o ts n c → IsColumn o ts m d → (n ≡ m) × (c ≡ d)
  columns n c m d x y =
      (same_row (width o) n m c d x.within y.within (omega arith), same_column (width o) n m c d x.within y.within (omega arith))

  wrong_shape : (t : Lexeme) (n c m d : ℕ) → IsColumn o ts n c → is_shaped c t ≡ false → IsColumn o ts m d
      → is_shaped d t ≡ true → ⊥
  wrong_shape t n c m d x wrong y right = true_false right (subst (λ e. is_shaped e t ≡ false) (columns n c m d x y).1 wrong)

  not_after : (n c : ℕ) → IsColumn o ts n c → n < most_nodes → IsColumn o ts most_nodes 0 → ⊥
  not_after n c x few y = let e = (columns n c most_nodes 0 x y).0 in omega (arith, e, few)

  other_column : (n m : ℕ) → IsColumn o ts n 0 → IsColumn o ts m 1 → ⊥
  other_column n m x y = let e = (columns n 0 m 1 x y).1 in omega (arith, e)

one_misfit : (a o : ℕ) (ts : List Lexeme) (t : Lexeme) (f g : GraphFault) → IsGraphMisfit a o ts t f → IsGraphMisfit a o ts t g → f ≡ g
one_misfit a o ts t (faults.BadShape p) (faults.BadShape q) x y = cc (x.0, y.0)
one_misfit a o ts t (faults.NodeOutOfOrder p) (faults.NodeOutOfOrder q) x y = cc (x.0, y.0)
one_misfit a o ts t (faults.ActionOutOfRange p) (faults.ActionOutOfRange q) x y = cc (x.0, y.0)
one_misfit a o ts t (faults.TooManyNodes p) (faults.TooManyNodes q) x y = cc (x.0, y.0)
one_misfit a o ts t _ _ x y = absurd (search (wrong_shape, not_after, other_column, x, y))

one_wrong : (m : Option Lexeme) (a o : ℕ) (ts : List Lexeme) (t : Lexeme) (f g : GraphFault) → IsWrongGraphToken m a o ts t f
    → IsWrongGraphToken m a o ts t g
    → f ≡ g
one_wrong = grind (arith, one_misfit)

-- what a refusal at the end of a text says
abbrev EndsFor : ℕ → ℕ → List ℕ → List Lexeme → Option TokenFault → GraphFault → Type 0
EndsFor a o text ts (Some x) (faults.Token y) = y ≡ x
EndsFor a o text ts (Some x) _ = ⊥
EndsFor a o text ts None (faults.Truncated p) = (p ≡ length text) × ((n : ℕ) × ((c : ℕ) × IsColumn o ts n c × (0 < c)))
EndsFor a o text ts None (faults.NoNodes p) = (p ≡ length text) × IsColumn o ts 0 0
EndsFor a o text ts None (faults.SuccessorOutOfRange n z) = (g : PolicyGraph) × IsLooseGraph a o ts g × IsFirstBeyond g n z
EndsFor a o text ts None _ = ⊥

whole_nodes : (a o : ℕ) (ts : List Lexeme) (g : PolicyGraph) → IsLooseGraph a o ts g → IsColumn o ts (nodes g) 0
whole_nodes a o ts g loose = record { count = omega arith; within = omega arith }

part_or_whole : (o : ℕ) (ts : List Lexeme) (n c m : ℕ) → IsColumn o ts n c → 0 < c → IsColumn o ts m 0 → ⊥
part_or_whole o ts n c m x begun y = let e = (columns o ts n c m 0 x y).1 in omega (arith, e, begun)

none_or_some : (a o : ℕ) (ts : List Lexeme) (g : PolicyGraph) → IsColumn o ts 0 0 → IsLooseGraph a o ts g → ⊥
none_or_some a o ts g x loose = let e = (columns o ts 0 0 (nodes g) 0 x (whole_nodes a o ts g loose)).0 in omega arith

one_end : (a o : ℕ) (text : List ℕ) (ts : List Lexeme) (end : Option TokenFault) (f g : GraphFault) → EndsFor a o text ts end f
    → EndsFor a o text ts end g → f ≡ g
one_end a o text ts (Some e) (faults.Token p) (faults.Token q) x y = cc (x, y)
one_end a o text ts None (faults.Truncated p) (faults.Truncated q) x y = cc (x.0, y.0)
one_end a o text ts None (faults.NoNodes p) (faults.NoNodes q) x y = cc (x.0, y.0)
one_end a o text ts None (faults.SuccessorOutOfRange n z) (faults.SuccessorOutOfRange m w) x y =
    let e = one_first x.0 n z m w x.2 (subst (λ g. IsFirstBeyond g m w) (one_loose a o ts y.0 x.0 y.1 x.1) y.2) in
    λ i. faults.SuccessorOutOfRange (e.0 i) (e.1 i)
one_end a o text ts _ _ _ x y = absurd (search (part_or_whole, none_or_some, whole_nodes, x, y))

module _ (a o : ℕ) (text : List ℕ) where
  abbrev HasReason : GraphFault → Type 0
  HasReason f = stops.HasReason (λ ts. IsPossibleGraph a o ts) (possible_before a o)
      (λ ts t. IsWrongGraphToken (joined_minus ts t) a o ts t)
      (EndsFor a o text) (text_rest text text_limit) f

  reason : (f : GraphFault) → (f ≡ faults.Memory → ⊥) → IsGraphRefusal a o text f → HasReason f
  reason (faults.Token x) no_memory h = inr (h.0, (Some x, h.1, h.2, refl))
  reason (faults.Truncated p) no_memory h = let e = h.1.1 in
      inr (e.tokens, (None, e.cut, e.possible, (e.place_is, (h.0, (h.1.0, e.column_is, h.1.2)))))
  reason (faults.NoNodes p) no_memory h = inr (h.tokens, (None, h.cut, h.possible, (h.place_is, h.column_is)))
  reason (faults.SuccessorOutOfRange n z) no_memory h = inr (h.0, (None, h.1.1, possible_loose a o h.0 h.1.0 h.1.2, (h.1.0, h.1.2, h.1.3)))
  reason faults.Memory no_memory h = absurd (no_memory refl)
  reason f no_memory h = inl h

  -- a refused text has one refusal
  pub one_refusal : (f g : GraphFault) → (f ≡ faults.Memory → ⊥) → (g ≡ faults.Memory → ⊥) → IsGraphRefusal a o text f
      → IsGraphRefusal a o text g → f ≡ g
  one_refusal f g f_says g_says x y =
      stops.one_reason _ (possible_before a o) _
      _
      _
      (λ ts t. one_wrong _ a o ts t) (one_end a o text) f g (reason f f_says x) (reason g g_says y)

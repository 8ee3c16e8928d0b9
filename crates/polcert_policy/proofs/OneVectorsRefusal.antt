-- A text is refused as vectors for one reason.
use Rattle.std.proofs.Common.{◌≡◌, ℕ, suc, ◌+◌, ◌<◌, inl, inr, true, false, Option, Some, None, List, ◌++◌, length, refl}
use Rattle.std.proofs.Common.{subst, arith, append_assoc}
use Rattle.polcert_policy.proofs.Common.{Lexeme, text_rest, text_limit, TokenFault, numeral_kind, PolicyGraph, nodes, ArePossible}
use Rattle.polcert_policy.proofs.Common.{IsPartColumn, last_sign, is_part_shaped, IsPartMisfit, IsRoundedVectorsRefusal, VectorFault}
use Rattle.polcert_policy.proofs.Common.{Rounding}
use Rattle.polcert_policy.specs.declared.fault.VectorFault.TheVariants as faults
use Rattle.polcert_policy.proofs.Places.{true_false, same_row, same_column}
use Rattle.polcert_policy.proofs.OneStop as stops

module _ (o : ℕ) (ts : List Lexeme) where
  columns : (n c m d : ℕ) → IsPartColumn o ts n c → IsPartColumn o ts m d → (n ≡ m) × (c ≡ d)
  columns n c m d x y =
      (same_row (1 + o) n m c d x.within y.within (omega arith), same_column (1 + o) n m c d x.within y.within (omega arith))

  wrong_shape : (s : Option Lexeme) (t : Lexeme) (n c m d : ℕ) → IsPartColumn o ts n c
      → is_part_shaped c s t ≡ false → IsPartColumn o ts m d → is_part_shaped d s t ≡ true → ⊥
  wrong_shape s t n c m d x wrong y right = true_false right (subst (λ e. is_part_shaped e s t ≡ false) (columns n c m d x y).1 wrong)

-- a numeral has the shape of a value
value_shape : (s : Option Lexeme) (t : Lexeme) (c : ℕ) → numeral_kind t.kind ≡ true → is_part_shaped (suc c) s t ≡ true
value_shape = grind arith

-- a numeral hasn't the wrong shape in a value's column
wrong_value : (o : ℕ) (ts : List Lexeme) (t : Lexeme) (n c m d : ℕ) → IsPartColumn o ts n (suc c) → numeral_kind t.kind ≡ true
    → IsPartColumn o ts m d → is_part_shaped d (last_sign ts) t ≡ false → ⊥
wrong_value o ts t n c m d x numeral y wrong = wrong_shape o ts (last_sign ts) t m d n (suc c) y wrong x
    (value_shape (last_sign ts) t c numeral)

not_after : (g : PolicyGraph) (o : ℕ) (ts : List Lexeme) (n c : ℕ) → IsPartColumn o ts n c → n < nodes g → IsPartColumn o ts (nodes g) 0 → ⊥
not_after g o ts n c x few y = let e = (columns o ts n c (nodes g) 0 x y).0 in omega (arith, e, few)

module _ (o : ℕ) (ts : List Lexeme) (n : ℕ) where
  other_column : (c m : ℕ) → IsPartColumn o ts n c → 0 < c → IsPartColumn o ts m 0 → ⊥
  other_column c m x begun y = let e = (columns o ts n c m 0 x y).1 in omega (arith, e, begun)

  value_or_action : (c m : ℕ) → IsPartColumn o ts n (suc c) → IsPartColumn o ts m 0 → ⊥
  value_or_action c m x y = other_column (suc c) m x (omega arith) y

one_misfit : (g : PolicyGraph) (o : ℕ) (ts : List Lexeme) (t : Lexeme) (f h : VectorFault) → IsPartMisfit g o ts t f
    → IsPartMisfit g o ts t h → f ≡ h
one_misfit g o ts t (faults.Number a p) (faults.Number b q) x y = grind arith
one_misfit g o ts t (faults.BadShape p) (faults.BadShape q) x y = cc (x.0, y.0)
one_misfit g o ts t (faults.ActionMismatch p) (faults.ActionMismatch q) x y = cc (x.0, y.0)
one_misfit g o ts t (faults.WrongVectorCount p) (faults.WrongVectorCount q) x y = cc (x.0, y.0)
one_misfit g o ts t _ _ x y = absurd (search (wrong_value, wrong_shape, not_after, value_or_action, x, y))

-- what a refusal at the end of a text says
abbrev EndsFor : ℕ → List ℕ → List Lexeme → Option TokenFault → VectorFault → Type 0
EndsFor o text ts (Some x) (faults.Token y) = y ≡ x
EndsFor o text ts (Some x) _ = ⊥
EndsFor o text ts None (faults.Truncated p) = (p ≡ length text) × ((n : ℕ) × ((c : ℕ) × IsPartColumn o ts n c × (0 < c)))
EndsFor o text ts None (faults.WrongVectorCount p) = (p ≡ length text) × ((n : ℕ) × IsPartColumn o ts n 0)
EndsFor o text ts None _ = ⊥

one_end : (o : ℕ) (text : List ℕ) (ts : List Lexeme) (end : Option TokenFault) (f h : VectorFault) → EndsFor o text ts end f
    → EndsFor o text ts end h → f ≡ h
one_end o text ts (Some e) (faults.Token p) (faults.Token q) x y = cc (x, y)
one_end o text ts None (faults.Truncated p) (faults.Truncated q) x y = cc (x.0, y.0)
one_end o text ts None (faults.WrongVectorCount p) (faults.WrongVectorCount q) x y = cc (x.0, y.0)
one_end o text ts _ _ _ x y = absurd (search (other_column, x, y))

module _ (way : Rounding) (g : PolicyGraph) (o : ℕ) (text : List ℕ) where
  possible_before : (ts us : List Lexeme) → ArePossible way g o (ts ++ us) → ArePossible way g o ts
  possible_before = grind (arith, append_assoc)

  abbrev HasReason : VectorFault → Type 0
  HasReason f = stops.HasReason (λ ts. ArePossible way g o ts) possible_before (λ ts t. IsPartMisfit g o ts t) (EndsFor o text)
      (text_rest text text_limit) f

  reason : (f : VectorFault) → (f ≡ faults.Memory → ⊥) → IsRoundedVectorsRefusal way g o text f → HasReason f
  reason (faults.Token x) no_memory h = inr (h.0, (Some x, h.1, h.2, refl))
  reason (faults.Truncated p) no_memory h = let e = h.1.1 in
      inr (e.tokens, (None, e.cut, e.possible, (e.place_is, (h.0, (h.1.0, e.column_is, h.1.2)))))
  reason (faults.WrongVectorCount p) no_memory h = grind arith
  reason faults.Memory no_memory h = absurd (no_memory refl)
  reason f no_memory h = inl h

  -- a refused text has one refusal
  pub one_refusal : (f h : VectorFault) → (f ≡ faults.Memory → ⊥) → (h ≡ faults.Memory → ⊥)
      → IsRoundedVectorsRefusal way g o text f → IsRoundedVectorsRefusal way g o text h → f ≡ h
  one_refusal f h f_says h_says x y =
      stops.one_reason _ possible_before _ _
      _
      (one_misfit g o) (one_end o text) f h (reason f f_says x) (reason h h_says y)

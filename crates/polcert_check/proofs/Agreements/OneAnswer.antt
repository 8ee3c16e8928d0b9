-- A check has one verdict, lowering one outcome, and a start one best node with one worth.
use Rattle.std.proofs.Common.{◌≡◌, ◌∙◌, ℕ, ◌<◌, ℤ, pos, ◌≤ℤ◌, ◌<ℤ◌, ◌+ℤ◌, Some, None, sym, refl, ap, subst, arith}
use Rattle.polcert_check.proofs.Common.{Meaning, start_total, PolicyVectors, LowerFault, Verdict, Yes, Short, NoSuccessor, Controller}
use Rattle.polcert_check.proofs.Common.{short, PairPasses, Passes, IsBefore, IsVerdict, IsLeastLacking, lowered_by, IsLeast, CanLower}
use Rattle.polcert_check.proofs.Common.{IsFirstLack, IsNotMended, IsNotLowered, IsLeastConstant, IsLeastMove, start_sum, IsFirstGreatest}
use Rattle.polcert_check.proofs.Common.{IsFloorQuotient, IsBestStart, IsStartWorth}
use Rattle.polcert_check.specs.declared.fault.LowerFault.TheVariants as faults
use Rattle.polcert_check.proofs.Sums.Ring.{linear, below_cancel}

-- ---- the first pair

-- pairs that fail, before which none in range does
record IsFirstFailing (Good : ℕ → ℕ → Type 0) (nodes states n s : ℕ) : Type 0 where
  node : n < nodes
  state : s < states
  fails : Good n s → ⊥
  before : (m t : ℕ) → m < nodes → t < states → IsBefore m t n s → Good m t

one_first : (Good : ℕ → ℕ → Type 0) (nodes states n s m t : ℕ) → IsFirstFailing Good nodes states n s → IsFirstFailing Good nodes states m t
    → (n ≡ m) × (s ≡ t)
one_first Good nodes states n s m t h g = grind arith

one_least_number : (P : ℕ → Type 0) (a b : ℕ) → P a → ((d : ℕ) → d < a → P d → ⊥) → P b → ((d : ℕ) → d < b → P d → ⊥) → a ≡ b
one_least_number P a b is least also before = grind arith

-- ---- why a pair fails

some_not_none : (c : Controller) (n s z : ℕ) → IsLeastLacking c n s (Some z) → IsLeastLacking c n s None → ⊥
some_not_none c n s z lacks none = none z lacks.0 lacks.1

one_least_lacking : (c : Controller) (n s m t z y : ℕ) → n ≡ m → s ≡ t → IsLeastLacking c n s (Some z) → IsLeastLacking c m t (Some y)
    → z ≡ y
one_least_lacking c n s m t z y e f h g = grind arith

not_above : (x : ℤ) → x ≤ℤ pos 0 → pos 0 <ℤ x → ⊥
not_above x l h = omega (arith, linear)

module _ (c : Controller) where
  -- ---- one verdict

  short_first : (n s : ℕ) (a : ℤ) → IsVerdict c (Short n s a) → IsFirstFailing (PairPasses c) c.nodes c.cells.states n s
  short_first n s a h = record {
    node = h.0;
    state = h.1;
    fails =
        λ p. not_above (short c n s) p.not_short (subst (λ (x : ℤ). pos 0 <ℤ x) h.4 h.5);
    before = h.2;
  }

  lack_first : (n s z : ℕ) → IsVerdict c (NoSuccessor n s z) → IsFirstFailing (PairPasses c) c.nodes c.cells.states n s
  lack_first n s z h = record { node = h.0; state = h.1; fails = λ p. p.lacks_none z h.3.0 h.3.1; before = h.2 }

  not_both : (n s m t z : ℕ) (a : ℤ) → IsVerdict c (Short n s a) → IsVerdict c (NoSuccessor m t z) → ⊥
  not_both n s m t z a h g =
      let same = one_first (PairPasses c) c.nodes c.cells.states n s m t (short_first n s a h) (lack_first m t z g) in
      some_not_none c m t z g.3 (subst (λ k. IsLeastLacking c m k None) same.1
      (subst (λ k. IsLeastLacking c k s None) same.0 h.3))

  pub one_verdict : (x y : Verdict) → IsVerdict c x → IsVerdict c y → x ≡ y
  one_verdict Yes Yes h g = refl
  one_verdict Yes (Short n s a) h g = absurd ((short_first n s a g).fails (h n s g.0 g.1))
  one_verdict Yes (NoSuccessor n s z) h g = absurd ((lack_first n s z g).fails (h n s g.0 g.1))
  one_verdict (Short n s a) Yes h g = absurd ((short_first n s a h).fails (g n s h.0 h.1))
  one_verdict (NoSuccessor n s z) Yes h g = absurd ((lack_first n s z h).fails (g n s h.0 h.1))
  one_verdict (Short n s a) (NoSuccessor m t z) h g = absurd (not_both n s m t z a h g)
  one_verdict (NoSuccessor m t z) (Short n s a) h g = absurd (not_both n s m t z a g h)
  one_verdict (Short n s a) (Short m t b) h g = grind arith
  one_verdict (NoSuccessor n s z) (NoSuccessor m t y) h g =
      let same = one_first (PairPasses c) c.nodes c.cells.states n s m t (lack_first n s z h) (lack_first m t y g) in
      rw (same.0, same.1, one_least_lacking c n s m t z y same.0 same.1 h.3 g.3) refl

  -- ---- one outcome of lowering

  one_least : (a b : ℕ) → IsLeast c a → IsLeast c b → a ≡ b
  one_least a b h g = one_least_number (λ d. Passes (lowered_by c d)) a b h.0 h.1 g.0 g.1

  -- `Can` says by which constants all values stay in range
  pub one_move : (Can : ℕ → Type 0) (x y : ℤ) → IsLeastMove c Can x → IsLeastMove c Can y → x ≡ y
  one_move Can x y h g = h.1 ∙ ap pos (one_least h.0 g.0 h.2 g.2) ∙ sym g.1

  first_lack : (n s z : ℕ) → IsFirstLack c n s z
      → IsFirstFailing (λ m t. IsLeastLacking c m t None) c.nodes c.cells.states n s
  first_lack n s z h = record { node = h.0; state = h.1; fails = some_not_none c n s z h.2; before = h.3 }

  lack_and_none : (n s z : ℕ) → IsFirstLack c n s z
      → ((m t : ℕ) → m < c.nodes → t < c.cells.states → IsLeastLacking c m t None) → ⊥
  lack_and_none n s z h none = some_not_none c n s z h.2 (none n s h.0 h.1)

  pub one_fault : (Can : ℕ → Type 0) (f g : LowerFault) → IsNotMended c Can f → IsNotMended c Can g → f ≡ g
  one_fault Can (faults.NoSuccessor n s z) (faults.NoSuccessor m t y) h g =
      let same = one_first (λ a b. IsLeastLacking c a b None) c.nodes c.cells.states n s m t (first_lack n s z h) (first_lack m t y g) in
      rw (same.0, same.1, one_least_lacking c n s m t z y same.0 same.1 h.2 g.2) refl
  one_fault Can (faults.NoSuccessor n s z) (faults.NoConstant m t a) h g = absurd (lack_and_none n s z h g.0)
  one_fault Can (faults.NoSuccessor n s z) faults.OutOfRange h g = absurd (lack_and_none n s z h g.0)
  one_fault Can (faults.NoConstant m t a) (faults.NoSuccessor n s z) h g = absurd (lack_and_none n s z g h.0)
  one_fault Can (faults.NoConstant n s a) (faults.NoConstant m t b) h g = grind arith
  one_fault Can (faults.NoConstant n s a) faults.OutOfRange h g = absurd (h.1 g.1.0 g.1.1.0)
  one_fault Can faults.OutOfRange (faults.NoSuccessor n s z) h g = absurd (lack_and_none n s z g h.0)
  one_fault Can faults.OutOfRange (faults.NoConstant n s a) h g = absurd (g.1 h.1.0 h.1.1.0)
  one_fault Can faults.OutOfRange faults.OutOfRange h g = refl
  one_fault Can faults.Memory f h g = absurd h
  one_fault Can _ faults.Memory h g = absurd g

  pub move_or_fault : (Can : ℕ → Type 0) (x : ℤ) (f : LowerFault) → IsLeastMove c Can x → IsNotMended c Can f → ⊥
  move_or_fault Can x (faults.NoSuccessor n s z) h g = (h.2.0 n s g.0 g.1).lacks_none z g.2.0 g.2.1
  move_or_fault Can x (faults.NoConstant n s a) h g = g.1 h.0 h.2.0
  move_or_fault Can x faults.OutOfRange h g = g.1.2 (subst (λ by. Can by) (one_least h.0 g.1.0 h.2 g.1.1) h.3)
  move_or_fault Can x faults.Memory h g = g

  pub one_constant : (v : PolicyVectors) (x y : ℤ) → IsLeastConstant c v x → IsLeastConstant c v y → x ≡ y
  one_constant v = one_move (CanLower v)

  pub one_reason : (v : PolicyVectors) (f g : LowerFault) → IsNotLowered c v f → IsNotLowered c v g → f ≡ g
  one_reason v = one_fault (CanLower v)

  pub not_lowered_has_no_constant : (v : PolicyVectors) (x : ℤ) (f : LowerFault) → IsLeastConstant c v x → IsNotLowered c v f
      → ⊥
  not_lowered_has_no_constant v = move_or_fault (CanLower v)

-- ---- one best node, and one worth

le_antisym : (x y : ℤ) → x ≤ℤ y → y ≤ℤ x → x ≡ y
le_antisym x y h g = omega (arith, linear)

pub one_best : (f : ℕ → ℤ) (count n m : ℕ) → IsFirstGreatest f count n → IsFirstGreatest f count m → n ≡ m
one_best f count n m h g = grind (arith, linear)

module _ (sum : ℤ) (total : ℕ) where
  quotient_le : (p q : ℤ) → IsFloorQuotient sum total p → IsFloorQuotient sum total q → p ≤ℤ q
  quotient_le p q h g = omega (arith, linear, below_cancel total p (q +ℤ pos 1) (omega (arith, linear, h.0, g.1)))

  pub one_quotient : (p q : ℤ) → IsFloorQuotient sum total p → IsFloorQuotient sum total q → p ≡ q
  one_quotient p q h g = le_antisym p q (quotient_le p q h g) (quotient_le q p g h)

module _ (m : Meaning) (v : PolicyVectors) (n : ℕ) where
  pub one_best_node : (o : ℕ) → IsBestStart m v n → IsBestStart m v o → n ≡ o
  one_best_node o h g = one_best (start_sum m v) v.nodes n o h g

  pub one_worth : (x y : ℤ) → IsStartWorth m v n x → IsStartWorth m v n y → x ≡ y
  one_worth x y h g = one_quotient (start_sum m v n) (start_total m) x y h g

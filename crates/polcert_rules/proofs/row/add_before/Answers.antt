use Rattle.std.proofs.Common.{◌≡◌, ◌∙◌, ◌+◌, ◌-◌, ◌<◌, ◌≤◌, ◌==◌, ℕ, Bool, true, false, List, [], ◌∷◌, ◌++◌, length, drop, take, get_or}
use Rattle.std.proofs.Common.{nat_lt, if◌then◌else◌, ap, sym, arith, append_assoc, take_all}
use Rattle.std.proofs.lemmas.List.{append-nil, length-drop}
use Rattle.polcert_rules.proofs.Common.{Cell, before, following, drop_all, drop_more}
use Rattle.polcert_rules.proofs.row.add_before.Goals as goal

-- what is put in and what is left, at the place reached
abbrev Stands : (k n : ℕ) (base cells all after : List Cell) → Type 0
Stands k n base cells all after = (cells ++ before k (drop n base) ≡ all) × (following k (drop n base) ≡ after)

module _ (k n : ℕ) (base cells all after : List Cell) (d : Cell) (inside : n < length base) (stands : Stands k n base cells all after) where
  abbrev x : Cell
  x = get_or base n d

  abbrev rest : List Cell
  rest = drop (n + 1) base

  cut : drop n base ≡ x ∷ rest
  cut = drop_more base n d inside

  before_by : (b : Bool) → nat_lt x.column k ≡ b → before k (drop n base) ≡ (if b then (x ∷ before k rest) else [])
  before_by b is = ap (before k) cut ∙ ap (λ b. if b then (x ∷ before k rest) else []) is

  following_by : (b : Bool) → nat_lt x.column k ≡ b → following k (drop n base)
      ≡ (if b then following k rest else (if x.column == k then rest else (x ∷ rest)))
  following_by b is = ap (following k) cut ∙ ap (λ b. if b then following k rest else (if x.column == k then rest else (x ∷ rest))) is

  -- a cell before the column is put in
  taken : (pushed : List Cell) → pushed ≡ cells ++ (x ∷ []) → (x.column ≡ k → ⊥) → x.column ≤ k → Stands k (n + 1) base pushed all after
  taken pushed is other most = (
    ap (λ ys. ys ++ before k rest) is ∙ append_assoc cells (x ∷ []) (before k rest)
        ∙ ap (λ ys. cells ++ ys) (sym (before_by true (grind arith))) ∙ stands.0,
    sym (following_by true (grind arith)) ∙ stands.1,
  )

  all_put : nat_lt x.column k ≡ false → cells ≡ all
  all_put less = sym (append-nil _) ∙ ap (λ ys. cells ++ ys) (sym (before_by false less)) ∙ stands.0

  -- at the column the others are put in, and the cell is left out
  met : x.column ≡ k → (cells ≡ all) × (rest ≡ after)
  met is =
      let less : nat_lt x.column k ≡ false = grind arith in
      let same : (x.column == k) ≡ true = grind arith in
      (all_put less, sym (following_by false less ∙ ap (λ b. if b then rest else (x ∷ rest)) same) ∙ stands.1)

  -- past the column all is left
  passed : k < x.column → (cells ≡ all) × (drop n base ≡ after)
  passed more =
      let less : nat_lt x.column k ≡ false = grind arith in
      let same : (x.column == k) ≡ false = grind arith in
      (all_put less, cut ∙ sym (following_by false less ∙ ap (λ b. if b then rest else (x ∷ rest)) same) ∙ stands.1)

ended : (k n : ℕ) (base cells all after : List Cell) → length base ≤ n → Stands k n base cells all after → (cells ≡ all) × ([] ≡ after)
ended k n base cells all after past stands = (
  sym (append-nil _) ∙ ap (λ ys. cells ++ before k ys) (sym (drop_all n base past)) ∙ stands.0,
  ap (following k) (sym (drop_all n base past)) ∙ stands.1,
)

whole : (base : List Cell) (n : ℕ) → take (length base - n) (drop n base) ≡ drop n base
whole base n = let long : length (drop n base) ≡ length base - n = length-drop n base in
    take_all _ _ (omega arith)

pub loop-number-preserved : goal.loop-number-preserved
loop-number-preserved c = taken _ _ _ _ _ _ _ c.loop-number-test.true
    c.loop-number.invariant _ c.in_ok-push.ensures.items c.if-cell-column.false c.if-cell-column-2.false

pub returns-clause-cells : goal.returns-clause-cells
returns-clause-cells c = (ended _ _ _ _ _ _ c.loop-number-test.false c.loop-number.invariant).0

pub returns-clause-rest : goal.returns-clause-rest
returns-clause-rest c = (ended _ _ _ _ _ _ c.loop-number-test.false c.loop-number.invariant).1

pub returns-then-cell-column-clause-cells : goal.returns-then-cell-column-clause-cells
returns-then-cell-column-clause-cells c = (met _ _ _ _ _ _ _ c.loop-number-test.true c.loop-number.invariant c.if-cell-column.true).0

pub returns-then-cell-column-clause-rest : goal.returns-then-cell-column-clause-rest
returns-then-cell-column-clause-rest c =
    whole c.args.base.now (c.loop-number.number + 1) ∙ (met _ _ _ _ _ _
    _ c.loop-number-test.true c.loop-number.invariant c.if-cell-column.true).1

pub returns-then-cell-column-2-clause-cells : goal.returns-then-cell-column-2-clause-cells
returns-then-cell-column-2-clause-cells c = (passed _ _ _ _ _ _ _ c.loop-number-test.true c.loop-number.invariant c.if-cell-column-2.true).0

pub returns-then-cell-column-2-clause-rest : goal.returns-then-cell-column-2-clause-rest
returns-then-cell-column-2-clause-rest c =
    whole c.args.base.now c.loop-number.number ∙ (passed _ _ _ _ _ _ _
    c.loop-number-test.true c.loop-number.invariant c.if-cell-column-2.true).1

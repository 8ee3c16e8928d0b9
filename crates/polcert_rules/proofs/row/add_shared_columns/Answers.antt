use Rattle.std.proofs.Common.{◌+◌, ℕ, List, inl, inr, ⊎_elim, arith}
use Rattle.polcert_rules.proofs.Common.{Rule, others_in}
use Rattle.polcert_rules.specs.Steps.Rows.{HasSharedColumns, start_of}
use Rattle.polcert_rules.proofs.RowLaws.ExactKeys.{of_no_action, of_each_state}
use Rattle.polcert_rules.proofs.RowLaws.Cells.{IsStep}
use Rattle.polcert_rules.proofs.row.add_shared_columns.Goals as goal

-- three steps in a row
three : (rules v0 v1 v2 v3 : List Rule) (low action state : ℕ) → IsStep rules v0 v1 (start_of low 1 1)
    → IsStep rules v1 v2 (start_of low 1 (state + 2)) → IsStep rules v2 v3 (start_of low (action + 2) 1)
    → HasSharedColumns rules low action state v0 v3
three rules v0 v1 v2 v3 low action state step1 step2 step3 x = (
  (λ c. ⊎_elim (λ c2. inl (⊎_elim (λ c1. inl ((step1 x).0 c1)) inr ((step2 x).0 c2))) inr ((step3 x).0 c)),
  (λ e. (step3 x).1 (⊎_elim (λ e2. inl ((step2 x).1 (⊎_elim (λ e1. inl ((step1 x).1 e1)) inr e2))) inr e)),
)

pub returns-then-split : goal.returns-then-split
returns-then-split c x =
    let low = c.requires.low in
    let none = of_no_action _ _ _ low.2 (c.requires.exact c.if-split.true) in
    let no_state = of_each_state _ _ _ low.2 (c.requires.exact c.if-split.true) in (
      (λ e. inl (inl (inl e))),
      ⊎_elim (⊎_elim (⊎_elim (λ e. e) (λ i. absurd (none 1 x (omega arith) i)))
          (λ i. absurd (none _ x c.requires.state i))) (λ i. absurd (no_state (c.args.action + 2) x c.requires.action i)),
    )

pub returns : goal.returns
returns c =
    let rules = c.other_rules-rules.ensures in
    three _ _ _ _
    _ c.args.low c.args.action c.args.state
    (rw (rules, c.first_column.ensures.is) at c.in_ok-add_columns.ensures)
    (rw (rules, c.first_column-2.ensures.is) at c.in_ok-add_columns-2.ensures)
    (rw (rules, c.first_column-3.ensures.is) at c.in_ok-add_columns-3.ensures)

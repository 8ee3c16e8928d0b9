use Rattle.std.proofs.Common.{rules, List, Contains, ◌≤◌, ◌⊎◌, ◌≡◌, ◌+◌, ◌*◌, ◌^◌, ◌∷◌, [], ℕ, subst, arith}
use Rattle.polcert_rules.proofs.Common.{Rule, Reward, key_base, table_key, AreCellRules, AreJoined}
use Rattle.polcert_rules.specs.Keys.{FitsKey}
use Rattle.polcert_rules.proofs.Indexes.Newer.{newest_here}
use Rattle.polcert_rules.proofs.Indexes.CellLaws.{joined_cells, whole_cells, placed_cells, cells_of_only}
use Rattle.polcert_rules.proofs.row_rules.RowRules.cell_rules.Goals as goal

pub first_at-here-requires-clause-from : goal.first_at-here-requires-clause-from
first_at-here-requires-clause-from c r among = ((c.rules_after.ensures.kept r).0 among).1

pub returns-then-none_below-clause-newest : goal.returns-then-none_below-clause-newest
returns-then-none_below-clause-newest c =
    let all = c.args.self.now.rules.items in
    let low = table_key Reward in
    let far : (r : Rule) → Contains all r → low + c.span-step.result + c.span-step.result ≤ r.key =
    subst (λ (rs : List Rule). (r : Rule) → Contains rs r → low + c.span-step.result + c.span-step.result ≤ r.key) c.as_slice.ensures.value
    (c.none_below.ensures c.if-none_below.true) in
    cells_of_only all 3 low c.args.action c.span-step.result (λ e z. c.args.start ∷ e ∷ z ∷ []) c.in_ok-of_only.of_only c.span-step.ensures
    (λ e z el zl. search rules)
    (λ r among from to. absurd (let l = far r among in omega (arith, l, to))) (search rules)

pub returns-clause-newest : goal.returns-clause-newest
returns-clause-newest c =
    let all = c.args.self.now.rules.items in
    let low = table_key Reward in
    let a = c.args.action in
    let s = c.args.start in
    let step = c.span-step.result in
    let here = newest_here all c.rules_after.result.now low (key_base ^ 2) c.first_at-here.result (omega arith) c.rules_after.ensures.kept
    c.first_at-here.ensures in
    let of_every : AreCellRules all (λ e z. FitsKey 3 (low + step) (s ∷ e ∷ z ∷ [])) c.in_ok-of_every.of_every = search rules in
    let of_only : AreCellRules all (λ e z. FitsKey 3 (low + (a + 2) * step) (s ∷ e ∷ z ∷ [])) c.in_ok-of_only.of_only = search rules in
    let joined : AreJoined c.in_ok-of_every.of_every c.in_ok-of_only.of_only c.in_ok-join.field-0 = search rules in
    let both = joined_cells all (λ e z. FitsKey 3 (low + step) (s ∷ e ∷ z ∷ [])) (λ e z. FitsKey 3 (low + (a + 2) * step) (s ∷ e ∷ z ∷ []))
    _ _ _
    of_every of_only joined in
    let more = whole_cells all (λ e z k. FitsKey 3 (low + step) (s ∷ e ∷ z ∷ []) k ⊎ FitsKey 3 (low + (a + 2) * step) (s ∷ e ∷ z ∷ []) k)
    low
    c.first_at-here.result c.in_ok-join.field-0 c.with_whole.result both here
    c.with_whole.ensures.whole c.with_whole.ensures.low c.with_whole.ensures.named in
    placed_cells all 3 low a (λ e z. s ∷ e ∷ z ∷ []) c.with_whole.result
    (subst (λ (t : ℕ). AreCellRules all (λ e z k. (k ≡ low)
    ⊎ (FitsKey 3 (low + t) (s ∷ e ∷ z ∷ []) k ⊎ FitsKey 3 (low + (a + 2) * t) (s ∷ e ∷ z ∷ []) k)) c.with_whole.result) c.span-step.ensures
    more)

use Rattle.std.proofs.Common.{rules, ◌⊎◌, ◌≡◌, ◌+◌, ◌*◌, ◌^◌, ◌∷◌, [], ℕ, subst, arith}
use Rattle.polcert_rules.proofs.Common.{key_base, AreCellRules, AreJoined}
use Rattle.polcert_rules.specs.Keys.{FitsKey}
use Rattle.polcert_rules.proofs.Indexes.Newer.{newest_here}
use Rattle.polcert_rules.proofs.Indexes.CellLaws.{cells_of_span, joined_cells, whole_cells, placed_cells, cells_of_only}
use Rattle.polcert_rules.proofs.row_rules.RowRules.cell_rules_after.Goals as goal

pub first_at-here-requires-clause-from : goal.first_at-here-requires-clause-from
first_at-here-requires-clause-from c r among = ((c.rules_after-2.ensures.kept r).0 among).1

pub cell_rules_of-requires-clause-from : goal.cell_rules_of-requires-clause-from
cell_rules_of-requires-clause-from c r among = ((c.rules_after.ensures.kept r).0 among).1

pub cell_rules_of-requires-2-clause-from : goal.cell_rules_of-requires-2-clause-from
cell_rules_of-requires-2-clause-from c r among = ((c.rules_after-3.ensures.kept r).0 among).1

pub returns-then-lacks_keys-clause-newest : goal.returns-then-lacks_keys-clause-newest
returns-then-lacks_keys-clause-newest c =
    let all = c.args.self.now.rules.items in
    let of_only : AreCellRules c.rules_after.result.now
    (λ e z. FitsKey 2 (c.args.low + (c.args.start + 2) * c.span-step.result) (e ∷ z ∷ []))
    c.in_ok-of_only.of_only = search rules in
    cells_of_only all 2 _ _ _ (λ e z. e ∷ z ∷ []) c.in_ok-of_only.of_only c.span-step.ensures
    (λ e z el zl. (el, (zl, tt)))
    (c.lacks_keys.ensures c.if-lacks_keys.true)
    (cells_of_span all _ _ c.in_ok-of_only.of_only
    c.rules_after.ensures.kept of_only)

pub returns-clause-newest : goal.returns-clause-newest
returns-clause-newest c =
    let all = c.args.self.now.rules.items in
    let low = c.args.low in
    let s = c.args.start in
    let step = c.span-step.result in
    let here = newest_here all _ low _ _ (omega arith)
    c.rules_after-2.ensures.kept c.first_at-here.ensures in
    let of_every : AreCellRules c.rules_after-3.result.now (λ e z. FitsKey 2 (low + step) (e ∷ z ∷ [])) c.in_ok-of_every.of_every =
    search rules in
    let of_only : AreCellRules c.rules_after.result.now (λ e z. FitsKey 2 (low + (s + 2) * step) (e ∷ z ∷ [])) c.in_ok-of_only.of_only =
    search rules in
    let joined : AreJoined c.in_ok-of_every.of_every c.in_ok-of_only.of_only c.in_ok-join.field-0 = search rules in
    let both = joined_cells all (λ e z. FitsKey 2 (low + step) (e ∷ z ∷ [])) (λ e z. FitsKey 2 (low + (s + 2) * step) (e ∷ z ∷ [])) _ _ _
    (cells_of_span all _ _ c.in_ok-of_every.of_every c.rules_after-3.ensures.kept of_every)
    (cells_of_span all _ _ c.in_ok-of_only.of_only c.rules_after.ensures.kept of_only) joined in
    let more = whole_cells all (λ e z k. FitsKey 2 (low + step) (e ∷ z ∷ []) k ⊎ FitsKey 2 (low + (s + 2) * step) (e ∷ z ∷ []) k) low
    _ _ _ both here
    c.with_whole.ensures.whole c.with_whole.ensures.low c.with_whole.ensures.named in
    placed_cells all 2 low s (λ e z. e ∷ z ∷ []) c.with_whole.result
    (subst (λ (t : ℕ). AreCellRules all (λ e z k. (k ≡ low)
    ⊎ (FitsKey 2 (low + t) (e ∷ z ∷ []) k ⊎ FitsKey 2 (low + (s + 2) * t) (e ∷ z ∷ []) k))
    c.with_whole.result) c.span-step.ensures more)

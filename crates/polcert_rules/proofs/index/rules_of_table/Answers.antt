use Rattle.std.proofs.Common.{◌≡◌, ◌∙◌, ◌+◌, ◌++◌, ◌∷◌, [], ℕ, suc, List, drop, sym, ap, subst, arith, append_assoc, rules}
use Rattle.std.proofs.Math.Seq.{drop-cons}
use Rattle.polcert_rules.proofs.Common.{nat_tests, get_or_from_slice_get, same_Some, slice_get_within, Entry, Rule, key_of, rules_from}
use Rattle.polcert_rules.specs.Keys.{table_digit}
use Rattle.polcert_rules.proofs.Keyed.Covering.{table_of_digit}
use Rattle.polcert_rules.proofs.index.rules_of_table.Goals as goal
use Rattle.polcert_rules.proofs.index.rules_of_table.Goals.{then-eq+in_ok-push, else-eq}

abbrev with_key : ℕ → ℕ → Rule
with_key k n = record { key = k; number = n }

module _ (d n : ℕ) (e : Entry) (es : List Entry) (old all : List Rule) (before : old ++ rules_from d n (e ∷ es) ≡ all) where
  taken : (new : List Rule) → table_digit e.table ≡ d → new ≡ old ++ (record { key = key_of e; number = n }) ∷ []
      → new ++ rules_from d (n + 1) es ≡ all
  taken new is pushed = grind (arith, nat_tests, append_assoc, before)

  passed : (table_digit e.table ≡ d → ⊥) → old ++ rules_from d (n + 1) es ≡ all
  passed other = grind (arith, nat_tests, before)

pub loop-number-preserved : goal.loop-number-preserved
loop-number-preserved c =
    let entries = c.args.entries.now in
    let n = c.loop-number.number in
    let d = table_digit c.args.table in
    let entry = c.table_of.ensures.0 in
    let found = c.table_of.ensures.1 in
    let inside = slice_get_within _ n _ found in
    let next : suc n ≡ n + 1 = omega arith in
    let old = c.loop-number.rules.items in
    let all = rules_from d 0 entries in
    let before = subst (λ es. old ++ rules_from d n es ≡ all)
    (drop-cons entries n entry inside ∙ (λ i. get_or_from_slice_get entries n entry entry found i ∷ drop (next i) entries))
    c.loop-number.invariant in
    elim c.if-eq.branch [
      | then-eq+in_ok-push w ↦
          let same : c.table_of.result ≡ c.args.table = search rules in
          rw w.rules-is (taken d n entry _ old all before _
          (ap table_digit (c.table_of.ensures.2 ∙ same)) (w.in_ok-push.ensures.items
          ∙ ap (λ k. old ++ with_key k n ∷ []) (w.key_of-key.ensures ∙ ap key_of (same_Some _ _ (sym w.at.ensures ∙ found)))))
      | else-eq w ↦
          let other : (c.table_of.result ≡ c.args.table) → ⊥ = search rules in
          rw w.rules-is (passed d n entry _ old all before
          (λ e. other (sym c.table_of.ensures.2 ∙ table_of_digit _ _ e)))
    ]

use Rattle.std.proofs.Common.{◌≡◌, ℕ, ◌+◌, ◌<◌, get_or, length, take, None}
use Rattle.polcert_rules.proofs.Common.{IsNoted}
use Rattle.polcert_rules.proofs.row_rules.note_each.Given as goal

-- the rules so far are noted
abbrev pub invariant-loop-rule : goal.invariant-loop-rule
invariant-loop-rule l = (i : ℕ) → i < length l.initial.noted
    → IsNoted (take l.rule-index l.rules) (λ k. k ≡ l.start + i) (get_or l.initial.noted i None) (get_or l.noted i None)

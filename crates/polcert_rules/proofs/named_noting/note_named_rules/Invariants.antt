use Rattle.std.proofs.Common.{◌≡◌, ℕ, ◌+◌, take}
use Rattle.polcert_rules.proofs.Common.{noted_at, IsNoted}
use Rattle.polcert_rules.proofs.named_noting.note_named_rules.Given as goal

-- the rules so far are noted
abbrev pub invariant-loop-rule : goal.invariant-loop-rule
invariant-loop-rule l = (z : ℕ) → IsNoted (take l.rule-index l.rules) (λ k. k ≡ l.start + z) (noted_at l.initial.list z) (noted_at l.list z)

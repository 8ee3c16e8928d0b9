use Rattle.std.proofs.Common.{◌≡◌, ◌<◌, ℕ}
use Rattle.polcert_rules.proofs.Common.{rule_at}
use Rattle.polcert_rules.proofs.named_rules.NamedRules.place_of.Given as goal

-- none of the rules so far names the observation
abbrev pub invariant-loop-place : goal.invariant-loop-place
invariant-loop-place l = (k : ℕ) → k < l.place → (rule_at l.self.rules k).observation ≡ l.observation → ⊥

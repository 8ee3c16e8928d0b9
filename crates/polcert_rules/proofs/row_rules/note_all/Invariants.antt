use Rattle.std.proofs.Common.{◌≡◌, ℕ, ◌<◌, ◌≤◌, get_or, None}
use Rattle.polcert_rules.proofs.Common.{max_option}
use Rattle.polcert_rules.proofs.row_rules.note_all.Given as goal

-- each before z is done, and each from z on is as it was
abbrev pub invariant-loop-z : goal.invariant-loop-z
invariant-loop-z l = record {
  done : (y : ℕ) → y < l.z → get_or l.noted y None ≡ max_option (get_or l.initial.noted y None) l.number;
  rest : (y : ℕ) → l.z ≤ y → get_or l.noted y None ≡ get_or l.initial.noted y None;
}

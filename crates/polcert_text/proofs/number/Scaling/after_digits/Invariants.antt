use Rattle.std.proofs.Common.{ℕ, List, ◌≤◌, ◌++◌, take}
use Rattle.polcert_text.proofs.Common.{size_cap, IsScaled}
use Rattle.polcert_text.proofs.number.Scaling.after_digits.Given as goal

abbrev pub invariant-loop-digit : goal.invariant-loop-digit
invariant-loop-digit l = record {
  small : l.scaling.floor ≤ size_cap;
  scaled : (kept : ℕ) (front : List ℕ) → IsScaled kept front l.fn.self → IsScaled kept (front ++ take l.digit-index l.digits) l.scaling;
}

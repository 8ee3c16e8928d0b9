use Rattle.std.proofs.Common.{◌≡◌, ◌≤◌, min, take}
use Rattle.polcert_text.proofs.Common.{digits_value}
use Rattle.polcert_text.proofs.number.number_up_to.Given as goal

abbrev pub invariant-loop-digit : goal.invariant-loop-digit
invariant-loop-digit l = record { value : l.number ≡ min l.most (digits_value 10 (take l.digit-index l.digits)); small : l.number ≤ l.most }

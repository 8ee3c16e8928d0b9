use Rattle.std.proofs.Common.{◌≡◌, take}
use Rattle.polcert_text.proofs.Common.{state_through, Start}
use Rattle.polcert_text.proofs.number.is_numeral.Given as goal

abbrev pub invariant-loop-byte : goal.invariant-loop-byte
invariant-loop-byte l = state_through Start (take l.byte-index l.bytes) ≡ l.state

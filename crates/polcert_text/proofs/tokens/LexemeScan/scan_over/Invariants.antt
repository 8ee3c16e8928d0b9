use Rattle.std.proofs.Common.{length, ◌-◌, take}
use Rattle.polcert_text.proofs.Common.{IsScanOf}
use Rattle.polcert_text.proofs.tokens.LexemeScan.scan_over.Given as goal

abbrev pub invariant-loop-scan : goal.invariant-loop-scan
invariant-loop-scan l = IsScanOf (take l.scan.len l.bytes) l.scan

abbrev pub decreases-loop-scan : goal.decreases-loop-scan
decreases-loop-scan l = length l.bytes - l.scan.len

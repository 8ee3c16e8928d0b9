use Rattle.std.proofs.Common.{rules}
use Rattle.polcert_robust.proofs.robust_lower.stays_in_range_moved.Goals as goal

pub returns : goal.returns
returns c = search rules

use Rattle.std.proofs.Common.{rules}
use Rattle.polcert_check.proofs.fit.fits.Goals as goal

pub returns-then-nodes : goal.returns-then-nodes
returns-then-nodes g c = search rules

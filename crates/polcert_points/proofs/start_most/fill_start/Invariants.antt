use Rattle.std.proofs.Common.{◌≡◌, ℕ, ◌<◌, slice_index}
use Rattle.polcert_cells.specs.Meaning.{start_weight}
use Rattle.polcert_model.specs.Contents.{meaning}
use Rattle.polcert_points.proofs.start_most.fill_start.Given as goal

abbrev pub invariant-loop-s : goal.invariant-loop-s
invariant-loop-s l = (k : ℕ) → k < l.s → slice_index l.start k ≡ start_weight (meaning l.model) k

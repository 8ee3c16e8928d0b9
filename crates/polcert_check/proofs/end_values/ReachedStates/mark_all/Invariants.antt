use Rattle.std.proofs.Common.{◌≡◌, ℕ, ◌<◌, true, false}
use Rattle.std.specs.Prelude.{slice_index_or}
use Rattle.polcert_check.proofs.end_values.ReachedStates.mark_all.Given as goal

abbrev pub invariant-loop-e : goal.invariant-loop-e
invariant-loop-e l = (e : ℕ) → e < l.e → slice_index_or l.self.marks e false ≡ true

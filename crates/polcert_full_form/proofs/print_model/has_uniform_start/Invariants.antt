use Rattle.std.proofs.Common.{◌≡◌, true, ◌==◌}
use Rattle.polcert_full_form.proofs.Common.{meaning, share_of, all_below}
use Rattle.polcert_full_form.proofs.print_model.has_uniform_start.Given as goal

abbrev pub invariant-loop-state : goal.invariant-loop-state
invariant-loop-state l = true ≡ all_below l.state (λ s. share_of (meaning l.model).start s == 1)

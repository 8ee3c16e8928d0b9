-- How a call that answers that its source failed has read it.
use Rattle.std.specs.Prelude.{ℕ, Bool, List, Option}
use Rattle.polcert_text.specs.Source.{GivesThenFails, Reads}

-- Of the reads between two states of a source some went well, then one failed, and after it nothing was read.
pub record EndsInFailure {S : Type 0} (reads : S → ℕ → Option (List ℕ) → S → Type 0) (from to : S) : Type 0 where
  pub between : S
  pub given : List ℕ
  pub is_whole : Bool
  pub was_read : Reads reads from given is_whole between
  pub further : List ℕ
  pub failed : GivesThenFails reads between further to

-- The preamble that is known is the complete one, where all its lines came.
use Rattle.std.proofs.Common.{◌≡◌, ap, arith}
use Rattle.polcert_format.proofs.Common.{Table, Preamble, dimensions, ModelSoFar, HasLines, IsComplete}
use Rattle.polcert_format.specs.KnownPreamble.{preamble_in, indices_in}

pub same_preamble : (k : ModelSoFar) (p : Preamble) → HasLines k p → preamble_in k ≡ p
same_preamble k p h = grind arith

pub same_indices : (k : ModelSoFar) (p : Preamble) (table : Table) → IsComplete k p → indices_in k table ≡ dimensions p table
same_indices k p table c = ap (λ q. dimensions q table) (same_preamble k p c.lines)

pub same_states : (k : ModelSoFar) (p : Preamble) → IsComplete k p → (preamble_in k).states ≡ p.states
same_states k p c = ap (λ (q : Preamble). q.states) (same_preamble k p c.lines)

-- Lemmas on what a source gave.
use Rattle.std.proofs.Common.{◌≡◌, ◌<◌, ◌++◌, ℕ, List, Option, Some, length, append-nil, append_assoc}
use Rattle.polcert_text.proofs.Common.{Gives, nothing, more}

module _ {S : Type 0} {reads : S → ℕ → Option (List ℕ) → S → Type 0} {from : S} where
  -- one more read of a loop that keeps the bytes
  pub gave_more : (all bytes front : List ℕ) (room : ℕ) (s t : S) → Gives reads from bytes s
      → reads s room (Some front) t → 0 < length front → all ≡ bytes ++ front → Gives reads from all t
  gave_more all bytes front room s t gave call some same = rw same (more gave call some)

  -- what was given by further reads comes after
  pub gave_then : {s t : S} {first second : List ℕ} → Gives reads from first s → Gives reads s second t
      → Gives reads from (first ++ second) t
  gave_then {s} {t} {first} gave nothing = rw (append-nil first) gave
  gave_then {s} {t} {first} gave (more {bytes} {front} gave_more call some) =
      rw (← append_assoc) (more (gave_then gave gave_more) call some)

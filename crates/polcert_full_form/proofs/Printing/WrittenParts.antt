-- Texts of many parts, as a printer's loop writes them.
use Rattle.std.proofs.Common.{◌≡◌, ℕ, suc, ◌+◌, ◌<◌, Option, Result, Ok, Err, IsErr, List, [], refl, arith}
use Rattle.polcert_full_form.proofs.Common.{WritesText, for_each}
use Rattle.polcert_text.specs.Sink.{nothing}
use Rattle.polcert_text.proofs.Printing.Written.{HasWritten, nothing_yet, next_written, wrote_part}

-- the sink took so many parts, and no write failed
pub record AreWritten {S : Type 0} (writes : S → Option (List ℕ) → S → Type 0) (failures : S → ℕ) (from : S) (part : ℕ → List ℕ) (k : ℕ)
    (s : S) : Type 0 where
  pub all : HasWritten writes failures from (for_each k part) s

module _ {S : Type 0} {writes : S → Option (List ℕ) → S → Type 0} {failures : S → ℕ} {from : S} {part : ℕ → List ℕ} where
  pub no_turn : AreWritten writes failures from part 0 from
  no_turn = record { all = nothing_yet }

  pub turn_written : {T E : Type 0} {s t : S} {k : ℕ} {v : T} → AreWritten writes failures from part k s
      → WritesText {E = E} writes failures s (part k) (Ok v) t
      → AreWritten writes failures from part (k + 1) t
  turn_written {t = t} {k = k} so_far turn =
      let next : suc k ≡ k + 1 = omega arith in
      rw (← next) (record { all = next_written so_far.all turn })

  pub turn_failed : {T U E F : Type 0} {s t : S} {k : ℕ} {e : F} {r : Result T E} (n : ℕ) → AreWritten writes failures from part k s
      → WritesText {T = U} writes failures s (part k) (Err e) t → k < n → IsErr r → WritesText writes failures from (for_each n part) r t
  turn_failed {k = k} {r = r} n so_far turn below is_err =
      wrote_part (λ m. for_each m part) _ (λ m. refl) k n below r is_err so_far.all.took so_far.all.same turn.err turn.count

-- nothing is written where there is nothing to write
pub wrote_nothing : {S T E : Type 0} {writes : S → Option (List ℕ) → S → Type 0} {failures : S → ℕ} {from : S} {text : List ℕ} {v : T}
    → [] ≡ text
    → WritesText {E = E} writes failures from text (Ok v) from
wrote_nothing {writes = writes} {from = from} e = record { ok = rw (← e) nothing; same_count = refl; err = tt; count = tt }

-- A text that is written part by part.
use Rattle.std.proofs.Common.{◌≡◌, ◌∙◌, ◌<◌, ◌⊎◌, ⊎_elim, ◌++◌, ℕ, zero, suc, List, [], Option, Result, Ok, Err, IsErr, refl, sym, ap}
use Rattle.std.proofs.Common.{arith, append_assoc, append-nil}
use Rattle.polcert_text.proofs.Common.{HasFailed, Takes, TakesFront, WritesText}
use Rattle.polcert_text.specs.Sink.{nothing}
use Rattle.polcert_text.proofs.Printing.Taking.{took_then, front_then, front_after, wrote_front, wrote_next}

-- the sink took the text so far, and no write failed
pub record HasWritten {S : Type 0} (writes : S → Option (List ℕ) → S → Type 0) (failures : S → ℕ) (from : S) (text : List ℕ) (s : S) : Type
    0 where
  pub took : Takes writes from text s
  pub same : failures s ≡ failures from

module _ {S : Type 0} {writes : S → Option (List ℕ) → S → Type 0} {failures : S → ℕ} {from : S} where
  -- the next part fails
  pub fails_at : {T E : Type 0} {s t : S} (first second : List ℕ) (r : Result T E) → IsErr r → HasWritten writes failures from first s
      → TakesFront writes s second t → HasFailed (failures s) (failures t) → WritesText writes failures from (first ++ second) r t
  fails_at = grind (arith, front_after, wrote_front)

  -- and what would come after it isn't written
  pub fails_before : {T E : Type 0} {t : S} (first second : List ℕ) (r : Result T E) → IsErr r → WritesText writes failures from first r t
      → WritesText writes failures from (first ++ second) r t
  fails_before = grind (arith, front_then)

  -- the last part
  pub ends_with : {T E : Type 0} {s t : S} (first second : List ℕ) (r : Result T E) → HasWritten writes failures from first s
      → WritesText writes failures s second r t → WritesText writes failures from (first ++ second) r t
  ends_with first second r h w = wrote_next first second r h.took h.same w

-- ---- a call of several writes, one after another
module _ {S : Type 0} {writes : S → Option (List ℕ) → S → Type 0} {failures : S → ℕ} {from : S} where
  -- one went well, and another is after it
  pub and_then : {T U E F : Type 0} {s t : S} {first second : List ℕ} {u : U} {r : Result T E}
      → WritesText {E = F} writes failures from first (Ok u) s
      → WritesText writes failures s second r t → WritesText writes failures from (first ++ second) r t
  and_then {first = first} {second = second} {r = r} w v = wrote_next first second r w.ok w.same_count v

  -- one failed, and what would come after it isn't written
  pub unwritten : {T E : Type 0} {t : S} {first : List ℕ} (second : List ℕ) {e : E}
      → WritesText {T = T} writes failures from first (Err e) t
      → WritesText {T = T} writes failures from (first ++ second) (Err e) t
  unwritten second w = record { ok = tt; same_count = tt; err = front_then second w.err; count = w.count }

  -- and so did the call
  pub stopped : {T U E F : Type 0} {t : S} {text : List ℕ} {e : F} {r : Result T E} → IsErr r
      → WritesText {T = U} writes failures from text (Err e) t
      → WritesText writes failures from text r t
  stopped {text = text} {r = r} is_err w = wrote_front text r is_err w.err w.count

  -- ---- a loop of them
  pub nothing_yet : HasWritten writes failures from [] from
  nothing_yet = record { took = nothing; same = refl }

  pub next_written : {T E : Type 0} {s t : S} {first second : List ℕ} {v : T} → HasWritten writes failures from first s
      → WritesText {E = E} writes failures s second (Ok v) t → HasWritten writes failures from (first ++ second) t
  next_written h w = record { took = took_then h.took w.ok; same = cc }

-- the same text, however its parts are put together
pub as_text : {S T E : Type 0} {writes : S → Option (List ℕ) → S → Type 0} {failures : S → ℕ} {from to : S} {first second : List ℕ}
    {r : Result T E} → first ≡ second
    → WritesText writes failures from first r to → WritesText writes failures from second r to
as_text {writes = writes} {failures = failures} {from = from} {to = to} {r = r} e w = rw (← e) w

-- ---- a text of many parts
-- the whole is what stands before a part, the part, and the rest
pub parts_at : (whole part : ℕ → List ℕ) → ((n : ℕ) → whole (suc n) ≡ whole n ++ part n) → (k m : ℕ) → k < m → (rest : List ℕ)
    × (whole m ≡ whole k ++ (part k ++ rest))
parts_at whole part step k zero h = absurd (omega arith)
parts_at whole part step k (suc m) h =
    ⊎_elim (λ l. let was = parts_at whole part step k m l in (
      was.0 ++ part m,
      step m ∙ ap (λ xs. xs ++ part m) was.1 ∙ append_assoc (whole k) _ _ ∙ ap (λ xs. whole k ++ xs) (append_assoc _ was.0 _),
    ))
    (λ e. ([], step m ∙ ap (λ n. whole n ++ part n) (sym e) ∙ ap (λ xs. whole k ++ xs) (sym (append-nil _))))
    (grind arith)

module _ {S : Type 0} {writes : S → Option (List ℕ) → S → Type 0} {failures : S → ℕ} {from s t : S} where
  -- the writing of a part failed
  pub wrote_part : {T E : Type 0} (whole part : ℕ → List ℕ) → ((n : ℕ) → whole (suc n) ≡ whole n ++ part n) → (k m : ℕ) → k < m
      → (r : Result T E) → IsErr r
      → Takes writes from (whole k) s → failures s ≡ failures from → TakesFront writes s (part k) t → HasFailed (failures s) (failures t)
      → WritesText writes failures from (whole m) r t
  wrote_part whole part step k m l r is_err took same front count =
      let split = parts_at whole part step k m l in
      rw split.1
      (wrote_front _ r is_err (front_after _ took (front_then split.0 front))
      (rw (← same) count))

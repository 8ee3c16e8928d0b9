-- What a call made of a slice, from what it made of the slice as the text of a source.
use Rattle.std.proofs.Common.{◌≡◌, ◌∙◌, ℕ, List, Ok, Err, refl, subst, arith}
use Rattle.polcert_text.proofs.Common.{IsText, EachTextThatFits, ReadsText, Device, Refused}
use Rattle.polcert_text.proofs.Known.{slice_reads, gave_slice, text_slice}

module _ {S : Type 0} (rest : S → List ℕ) {old new : S} {slice : List ℕ} (holds : rest old ≡ slice) where
  -- so that what is said of each text that fits is said of the slice
  pub of_slice : (P : List ℕ → Type 0) → EachTextThatFits (slice_reads rest) old new P → P slice
  of_slice P h = subst P holds (h.each _ (grind (arith, slice_reads, gave_slice, text_slice)))

  -- and what is said of its text
  pub of_slice_text : (P : List ℕ → Type 0) (text : List ℕ) → IsText (slice_reads rest) old text new → P text → P slice
  of_slice_text P text is = subst P (text_slice rest is ∙ holds)

  module _ {V F : Type 0} {Denotes : List ℕ → V → Type 0} {Refuses : F → List ℕ → Type 0} where
    pub slice_denotes : {v : V} → ReadsText (slice_reads rest) (λ _. 0) old new Denotes Refuses (Ok v) → Denotes slice v
    slice_denotes {v} read = of_slice_text (λ text. Denotes text v) _ read.accepted.1 read.accepted.2

    pub slice_refused : {fault : F} → ReadsText (slice_reads rest) (λ _. 0) old new Denotes Refuses (Err (Refused fault))
        → Refuses fault slice
    slice_refused {fault} read = of_slice _ (read.refused fault refl)

    pub slice_failed : ReadsText (slice_reads rest) (λ _. 0) old new Denotes Refuses (Err Device) → ⊥
    slice_failed = grind arith

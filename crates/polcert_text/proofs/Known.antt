-- What is read and taken, where the bytes are known.
use Rattle.std.proofs.Common.{◌≡◌, ◌++◌, ◌∷◌, refl, append_assoc, ℕ, List, [], length, Option, None, IfSome, arith}
use Rattle.std.specs.Io.KnownBytes.{Consumes, Appends}
use Rattle.std.proofs.KnownBytes.{Consumes-nil, Consumes-trans, Appends-nil, Appends-trans}
use Rattle.std.proofs.lemmas.List.{append-nil}
use Rattle.polcert_text.specs.Known.{ReadsKnown, WritesKnown}
use Rattle.polcert_text.specs.Memory.{ReadsSlice}
use Rattle.polcert_text.proofs.Common.{Gives, IsText, nothing, more, Takes}
use Rattle.polcert_text.specs.Sink as sink

module _ {S : Type 0} (remaining : S → Option (List ℕ)) where
  -- the relation of one read of a source over a reader of std
  abbrev pub known_reads : S → ℕ → Option (List ℕ) → S → Type 0
  known_reads s room answer t = ReadsKnown (remaining s) room answer (remaining t)

  -- what such a source gave is what its reader lost
  pub gave_known : {s t : S} {bytes : List ℕ} → Gives known_reads s bytes t → Consumes (remaining s) (remaining t) bytes
  gave_known {s} nothing = Consumes-nil _
  gave_known {s} (more gave call some) = Consumes-trans _ _ _ _ _ (gave_known gave) call.0

  -- the text of such a source is all that its reader had
  pub text_known : {s t : S} {text : List ℕ} → IsText known_reads s text t → IfSome (remaining s) (λ xs. text ≡ xs)
  text_known = grind (arith, append-nil, gave_known)

module _ {S : Type 0} (contents : S → Option (List ℕ)) where
  -- the relation of one write of a sink over a writer of std
  abbrev pub known_writes : S → Option (List ℕ) → S → Type 0
  known_writes s answer t = WritesKnown (contents s) answer (contents t)

  -- what such a sink took is what its writer holds more
  pub took_known : {s t : S} {bytes : List ℕ} → Takes known_writes s bytes t → Appends (contents s) (contents t) bytes
  took_known {s} sink.nothing = Appends-nil _
  took_known {s} (sink.more took call) = Appends-trans _ _ _ _ _ (took_known took) call

module _ {S : Type 0} (rest : S → List ℕ) where
  -- the relation of one read of a slice
  abbrev pub slice_reads : S → ℕ → Option (List ℕ) → S → Type 0
  slice_reads s room answer t = ReadsSlice (rest s) room answer (rest t)

  pub gave_slice : {s t : S} {bytes : List ℕ} → Gives slice_reads s bytes t → rest s ≡ bytes ++ rest t
  gave_slice {s} nothing = refl
  gave_slice {s} {t} (more {bytes} {front} gave call some) = grind (arith, append_assoc, gave_slice gave)

  -- the text of a slice is what it had left
  pub text_slice : {s t : S} {text : List ℕ} → IsText slice_reads s text t → text ≡ rest s
  text_slice = grind (arith, append-nil, gave_slice)

-- the same of the relations themselves
pub slice_text : (rest after text : List ℕ) → IsText ReadsSlice rest text after → text ≡ rest
slice_text rest after text = text_slice _

pub reader_text : (rest after : Option (List ℕ)) (text : List ℕ) → IsText ReadsKnown rest text after → IfSome rest (λ xs. text ≡ xs)
reader_text rest after text = text_known _

pub writer_took : (held after : Option (List ℕ)) (bytes : List ℕ) → Takes WritesKnown held bytes after → Appends held after bytes
writer_took held after bytes = took_known _

-- ---- where no bytes are known

-- one read may have given the whole text, and the next one nothing
pub unknown_text : {S : Type 0} (s t : S) (text : List ℕ)
    → IsText (λ (x : S) room answer (y : S). ReadsKnown None room answer None) s text t
unknown_text s t [] = record { before = s; room = 1; has_room = omega arith; gave = nothing; ended = _ }
unknown_text s t (b ∷ bs) = record {
  before = t;
  room = 1;
  has_room = omega arith;
  gave = more {bytes = []} {front = b ∷ bs} {room = length (b ∷ bs)} {s = s} {t = t} nothing _ (omega arith);
  ended = _;
}

-- one write may have taken all of it
pub unknown_taken : {S : Type 0} (s t : S) (text : List ℕ) → Takes (λ (x : S) answer (y : S). WritesKnown None answer None) s text t
unknown_taken s t text = sink.more {bytes = []} {front = text} {s = s} {t = t} sink.nothing tt

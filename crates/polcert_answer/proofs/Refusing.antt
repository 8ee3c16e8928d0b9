-- A refused text, what is said of each text that fits what was read, and which source is named.
use Rattle.std.proofs.Common.{◌≡◌, ℕ, List, Option, Result, IfErr, IsErrOf, arith}
use Rattle.std.specs.Result.{IsErrAnd}
use Rattle.polcert_text.specs.Source.{EachTextThatFits}
use Rattle.polcert_text.specs.ReadTexts.{ReadsText}
use Rattle.polcert_text.specs.declared.source.SourceFault.{SourceFault}
use Rattle.polcert_text.specs.declared.source.SourceFault.TheVariants.{Device}
use Rattle.polcert_answer.proofs.Common.{ModelFault, SaysOfText, RunFault, IsModelFault, IsNamedRightly, ReadsInOrder, IsGraphReadFault}
use Rattle.polcert_model.specs.RefusedTexts.{IsRefusedModelText}
use Rattle.polcert_answer.specs.Answer.{IsModelRefused}

-- what is promised of a refused text of a model
pub model_refused : (fault : ModelFault) (text : List ℕ) → IsRefusedModelText fault text → IsModelFault text fault
model_refused fault text h1 = grind arith

-- out of memory aside, what is said of a model's refused text is that it is refused
pub refused_of : (fault : ModelFault) (text : List ℕ) → SaysOfText fault → IsModelFault text fault → IsModelRefused fault text
refused_of fault text h1 h2 = grind arith

-- what follows for each text follows for those that fit
pub each_text : {S : Type 0} {reads : S → ℕ → Option (List ℕ) → S → Type 0} {old new : S} {P Q : List ℕ → Type 0}
    → ((text : List ℕ) → P text → Q text) → EachTextThatFits reads old new P → EachTextThatFits reads old new Q
each_text follows h = record {
  bytes = h.bytes;
  is_whole = h.is_whole;
  was_read = h.was_read;
  each =
      λ text fits. follows text (h.each text fits);
}

-- a source is named rightly where it is named just if what was read of it is that a read failed
pub named_rightly : {S V F Named : Type 0} {reads : S → ℕ → Option (List ℕ) → S → Type 0} {failures : S → ℕ} {old new : S}
    {Denotes : List ℕ → V → Type 0} {Refuses : F → List ℕ → Type 0} {result : Result V (SourceFault F)}
    → ReadsText reads failures old new Denotes Refuses result → (Named → IsErrOf result Device) → (IsErrOf result Device → Named)
    → IsNamedRightly Named (failures old) (failures new)
named_rightly was named failed = grind arith

-- ---- a fault of the graph's text or of its source
-- after it the source of the vectors is as it was
pub graph_in_order : {T G V : Type 0} (r : Result T RunFault) (given : RunFault) (graph graph' : G) (vectors vectors' : V)
    → IsErrAnd r (λ f. f ≡ given)
    → IsGraphReadFault given → vectors' ≡ vectors → IfErr r (λ fault. ReadsInOrder fault graph graph' vectors vectors')
graph_in_order r given graph graph' vectors vectors' h1 h2 h3 = grind arith

-- What a refused or accepted list of tokens says of the whole text of vectors.
use Rattle.std.proofs.Common.{◌≡◌, ℕ, inr, ⊎_elim, None, List, length, arith}
use Rattle.polcert_policy.proofs.Common.{Lexeme, Rest, IsCut, text_rest, text_limit, Taken, Rounding, PolicyGraph, PolicyVectors}
use Rattle.polcert_policy.proofs.Common.{IsRoundedVectors, IsRoundedVectorsRefusal, IsRefusedRoundedVectorsText, IsPartRefusal}
use Rattle.polcert_policy.proofs.Common.{AreUnfinished, VectorFault}
use Rattle.polcert_policy.specs.VectorText.{EndVectorsEarly, HasWrongPart, IsNoRoundedVectorsText}
use Rattle.polcert_policy.specs.Steps.VectorsRead.{AreEndRefusal}
use Rattle.polcert_policy.specs.declared.fault.VectorFault.TheVariants as faults
use Rattle.polcert_policy.proofs.FlatVectors.{indexed}
use Rattle.polcert_policy.proofs.WholeTexts.{not_stopped, same_tokens, no_token_fault}

module _ (way : Rounding) where
  pub part_refusal : (g : PolicyGraph) (o p : ℕ) (text : List ℕ) (ts : List Lexeme) (rest : Rest) (fault : VectorFault)
      → o ≡ p → Taken (text_rest text text_limit) ts rest → IsPartRefusal way g o ts fault → IsRoundedVectorsRefusal way g p text fault
  part_refusal = grind arith

  module _ (g : PolicyGraph) (o : ℕ) (text : List ℕ) where
    module _ (ts : List Lexeme) (cut : IsCut (text_rest text text_limit) ts None) where
      ends_early : (place n column : ℕ) → place ≡ length text → AreUnfinished way g o ts n column
          → EndVectorsEarly way g o text place n column
      ends_early place n column e h = record {
        tokens = ts;
        cut = cut;
        place_is = e;
        possible = h.possible;
        unfinished = h.unfinished;
        column_is = h.column_is;
      }

      end_refusal : (fault : VectorFault) → AreEndRefusal way g o ts (length text) fault → IsRoundedVectorsRefusal way g o text fault
      end_refusal (faults.Truncated place) h = (h.1.0, (h.1.1.0, ends_early place h.1.0 h.1.1.0 h.0 h.1.1.1, h.1.1.2))
      end_refusal (faults.WrongVectorCount place) h = inr (h.1.0, ends_early place h.1.0 0 h.0 h.1.1, h.1.2)
      end_refusal _ h = absurd h

      -- the text is no vectors where it is refused
      module _ (v : PolicyVectors) (are : IsRoundedVectors way g o ts v) where
        no_wrong : (fault : VectorFault) → HasWrongPart way g o text fault → ⊥
        no_wrong fault h = not_stopped (IsRoundedVectors way g o) text v ts cut are h.0 h.1.0 h.1.1 h.1.2.impossible

        not_early : (place n column : ℕ) → EndVectorsEarly way g o text place n column → ⊥
        not_early place n column h = h.unfinished v (same_tokens (IsRoundedVectors way g o) text v ts cut are h.tokens h.cut)

    pub no_vectors : (fault : VectorFault) → IsRoundedVectorsRefusal way g o text fault → IsNoRoundedVectorsText way g o text fault
    no_vectors (faults.Token fault) h = λ v given. let is = indexed way g o text v given in
        no_token_fault (IsRoundedVectors way g o) text v is.0 is.1 is.2 h.0 fault h.1
    no_vectors (faults.Truncated place) h = λ v given. let is = indexed way g o text v given in
        not_early is.0 is.1 v is.2 place h.0 h.1.0 h.1.1
    no_vectors (faults.WrongVectorCount place) h = λ v given.
        let is = indexed way g o text v given in
        ⊎_elim (no_wrong is.0 is.1 v is.2 (faults.WrongVectorCount place)) (λ e. not_early is.0 is.1 v is.2 place e.0 0 e.1) h
    no_vectors faults.Memory h = tt
    no_vectors fault h = λ v given. let is = indexed way g o text v given in no_wrong is.0 is.1 v is.2 fault h

    -- all that is promised of a refusal
    pub refused_text : (fault : VectorFault) → IsRoundedVectorsRefusal way g o text fault → IsRefusedRoundedVectorsText way g o fault text
    refused_text fault r = record { no_vectors = no_vectors fault r; refusal = r }

  pub end_refused : (g : PolicyGraph) (o p : ℕ) (text : List ℕ) (ts : List Lexeme) (end : ℕ) (fault : VectorFault)
      → o ≡ p → IsCut (text_rest text text_limit) ts None → end ≡ length text → AreEndRefusal way g o ts end fault
      → IsRefusedRoundedVectorsText way g p fault text
  end_refused = grind (arith, end_refusal, refused_text)

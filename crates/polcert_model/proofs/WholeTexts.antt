-- A text that was read to its end, and the model that is made of it.
use Rattle.std.proofs.Common.{ℕ, None, List}
use Rattle.polcert_model.proofs.Common.{Lexeme, IsCut, text_rest, text_limit, Table, IsFirstWrongRow, ModelSoFar, TextTokens, AreTokensOf}
use Rattle.polcert_model.proofs.Common.{IsWholeRead, said}
use Rattle.polcert_text.proofs.Scanning.CleanCut.{clean_tokens}
use Rattle.polcert_format.specs.declared.fault.ModelFault.TheVariants as model_faults
use Rattle.polcert_cells.specs.Meaning.{Meaning, IsSame, HasProperRows}
use Rattle.polcert_cells.specs.Steps.Drafts as drafts
use Rattle.polcert_format.specs.Text.{Denotes, IsModelText}
use Rattle.polcert_format.specs.Refusals.{IsRefusal}
use Rattle.polcert_tables.specs.Contents.{Contents, meaning}
use Rattle.polcert_tables.specs.Steps.KeptOf.{IsKeptOf, DenotesWithinLimits}
use Rattle.polcert_format.proofs.LimitLaws.{within_limits}
use Rattle.polcert_format.proofs.FrontLaws.{these_tokens}
use Rattle.polcert_items.proofs.WholeItems.{whole_right}
use Rattle.polcert_tables.proofs.KeptLaws.{kept_same}
use Rattle.polcert_full_form.proofs.Writable.WritableTexts.{text_writable}

module _ (seen : List Lexeme) (k : ModelSoFar) (w : IsWholeRead seen k) where
  -- what has the meaning of its items and proper rows is what it denotes
  whole_denotes : (m : Meaning) → IsSame m (drafts.draft_meaning (said k)) → HasProperRows m → Denotes seen m
  whole_denotes m same rows = record {
    preamble = _;
    known = k;
    right = whole_right seen k w;
    same = same;
    rows = rows;
  }

  module _ (text : List ℕ) (cut : IsCut (text_rest text text_limit) seen None) where
    accepted : (m : Meaning) → IsSame m (drafts.draft_meaning (said k)) → HasProperRows m → IsModelText text m
    accepted m same rows = record { lexemes = seen; tokens = clean_tokens text seen cut; denotes = whole_denotes m same rows }

    -- it is within the limits, and can be written
    pub whole_limits : DenotesWithinLimits (said k)
    whole_limits m same rows = (within_limits seen m (whole_denotes m same rows), text_writable text m (accepted m same rows))

    -- and the text is the text of the model that is kept
    pub whole_accepted : (c : Contents) → IsKeptOf (said k) c.kept → IsModelText text (meaning c)
    whole_accepted c kept = accepted _ (kept_same _ _ (c.limits.actions.1, c.limits.states.1, c.limits.observations.1) kept) c.rows

-- where a row isn't, the first such row is refused
pub row_refused : (seen : List Lexeme) (k : ModelSoFar) → IsWholeRead seen k → (text : List ℕ) (table : Table) (a s : ℕ)
    → IsCut (text_rest text text_limit) seen None
    → IsFirstWrongRow (drafts.draft_meaning (said k)) table a s → (ts : TextTokens) → AreTokensOf text ts
    → IsRefusal ts (model_faults.RowSum table a s)
row_refused seen k w text table a s cut wrong ts tokens =
    let these = these_tokens text seen None ts cut tokens in
    (these.1, (_, k, rw these.0 (whole_right seen k w), wrong))

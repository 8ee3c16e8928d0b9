-- A model's text that comes from a source.
use Rattle.std.proofs.Common.{◌≡◌, ◌∙◌, ℕ, Bool, true, false, cond, Option, Some, None, List, length, nat_lt, refl, sym, arith, rules}
use Rattle.polcert_model.proofs.Common.{Lexeme, IsCut, text_rest, end_place, text_limit, TakenFrom, TokenFault, Table, IsFirstWrongRow}
use Rattle.polcert_model.proofs.Common.{ModelFault, TextReader, ModelSoFar, TextTokens, AreTokensOf, IsWholeRead, said, IsTextRead}
use Rattle.polcert_model.proofs.Common.{IsTextOf, IsRefusedAfter, IsRefusedWhole, Refuses, tokens_end, pending_at}
use Rattle.polcert_text.proofs.Scanning.CleanCut.{ends_cleanly}
use Rattle.polcert_text.specs.Source.{IsText, EachTextThatFits}
use Rattle.polcert_text.specs.Stream.{Ahead, Stream, GivesEnd}
use Rattle.polcert_text.proofs.Streams.StreamTaken.{each_taken, each_cut, text_taken, each_whole}
use Rattle.polcert_cells.proofs.Basics.{some≢none}
use Rattle.polcert_cells.specs.Steps.Drafts as drafts
use Rattle.polcert_format.specs.declared.fault.ModelFault.TheVariants.{RowSum}
use Rattle.polcert_format.specs.RefusedTexts.{IsRefusedModelText}
use Rattle.polcert_format.proofs.FrontLaws.{tokens_begin, these_tokens, too_long, whole_text}
use Rattle.polcert_format.proofs.RefusalLaws.{no_model}
use Rattle.polcert_model.proofs.RefusingEnds.{fault_refused}
use Rattle.polcert_model.proofs.WholeTexts.{row_refused}

-- what is refused of a text's tokens is refused of the text
refused_text : (fault : ModelFault) (text : List ℕ) → ((ts : TextTokens) → AreTokensOf text ts → Refuses ts fault)
    → IsRefusedModelText fault text
refused_text fault text h = grind (arith, no_model)

-- where the items are right, the first row that is wrong is refused
pub row_sum_refused : (seen : List Lexeme) (k : ModelSoFar) → IsWholeRead seen k → (text : List ℕ) (table : Table) (a s : ℕ)
    → IsCut (text_rest text text_limit) seen None → IsFirstWrongRow (drafts.draft_meaning (said k)) table a s
    → IsRefusedModelText (RowSum table a s) text
row_sum_refused seen k read text table a s cut wrong = search (rules, row_refused, refused_text)

-- a text whose tokens end cleanly ends where they do
clean_end : (text : List ℕ) (ls : List Lexeme) → IsCut (text_rest text text_limit) ls None
    → end_place (text_rest text text_limit) ≡ length text
clean_end text ls cut = at (nat_lt _ _) (ends_cleanly _ ls cut)
  where
    at : (long : Bool) → (cond long (too_long text) (whole_text text)).ending ≡ None
        → end_place (cond long (too_long text) (whole_text text)) ≡ length text
    at true e = absurd (some≢none refl e)
    at false e = omega arith

module _ {S : Type 0} (reads : S → ℕ → Option (List ℕ) → S → Type 0) (failures : S → ℕ) (first : S) where
  -- no text whose tokens begin with these is right
  pub refused_at_token : (ts : List Lexeme) (stream : Stream) (s : S) (fault : ModelFault)
      → TakenFrom reads failures text_limit first ts stream s → IsRefusedAfter ts fault
      → EachTextThatFits reads first s (IsRefusedModelText fault)
  refused_at_token ts stream s fault taken h =
      each_taken _ _ _ _ ts _ s _ taken
      (λ text rest t. refused_text _ text (λ tokens are. let front = tokens_begin text rest ts _ t are in
      h text _ _ are front.1))

  -- the tokens stop
  pub refused_tokens : (ts : List Lexeme) (r : TextReader) (old : Stream) (s : S) (fault : TokenFault) (new : Ahead) (u : S)
      → IsTextRead ts r
      → TakenFrom reads failures text_limit first ts old s → GivesEnd reads failures old.ahead s (Some fault) new u
      → EachTextThatFits reads first u (IsRefusedModelText (tokens_end r.number (pending_at r.item) fault))
  refused_tokens ts r old s fault new u read taken g =
      let named = tokens_end _ _ _ in
      each_cut _ _ _ _ ts old s _ new u _ taken g
      (λ text cut. refused_text named text (λ tokens are. let these = these_tokens text ts (Some fault) tokens cut are in
      fault_refused ts r _ read text _ are these.0 these.1))

  -- the text ends cleanly
  pub read_at_end : (ts : List Lexeme) (old : Stream) (s : S) (new : Ahead) (u : S) (k : ModelSoFar)
      → TakenFrom reads failures text_limit first ts old s
      → GivesEnd reads failures old.ahead s None new u → IsWholeRead ts k → (text : List ℕ) × IsText reads first text u × IsTextOf text k
  read_at_end ts old s new u k taken g read =
      let t = text_taken _ _ _ _ ts old s new u taken g in
      (t.0, t.1, (ts, t.2, read))

  pub refused_at_end : (ts : List Lexeme) (old : Stream) (s : S) (new : Ahead) (u : S) (fault : ModelFault) (end : ℕ)
      → TakenFrom reads failures text_limit first ts old s
      → GivesEnd reads failures old.ahead s None new u → end ≡ new.place → IsRefusedWhole ts end fault
      → EachTextThatFits reads first u (IsRefusedModelText fault)
  refused_at_end ts old s new u fault end taken g place h =
      let t = text_taken _ _ _ _ ts old s new u taken g in
      each_whole _ _ t.0 u _ t.1
      (refused_text _ t.0 (λ tokens are.
      let these = these_tokens t.0 ts None _ t.2 are in
      h t.0 _ are these.0 these.1 (are.end_is ∙ clean_end t.0 ts t.2 ∙ sym t.3 ∙ sym place)))

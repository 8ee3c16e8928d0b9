-- Every text is a model's, or has a right refusal that says something of it.
use Rattle.std.proofs.Math.Logic.{⊎_map}
use Rattle.std.proofs.Common.{◌≡◌, ◌⊎◌, inl, inr, ⊎_elim, ℕ, ◌<◌, ◌≤◌, false, is_some, Option, Some, None, List, [], ◌∷◌, ◌++◌, refl}
use Rattle.std.proofs.Common.{ap, arith}
use Rattle.polcert_text.specs.Cut.{Lexeme, IsCut, text_rest, text_limit, end_place}
use Rattle.polcert_text.specs.declared.tokens.TokenFault.{TokenFault}
use Rattle.polcert_text.proofs.Scanning.CleanCut.{clean_tokens}
use Rattle.polcert_cells.specs.Words.{topic, begins_item}
use Rattle.polcert_cells.specs.Meaning.{Meaning, IsSame, HasProperRows, actions_of, states_of}
use Rattle.polcert_cells.specs.Rows.{IsFirstWrongRow, IsProperRow, AreProperBefore}
use Rattle.polcert_cells.specs.Preamble.{Preamble}
use Rattle.polcert_cells.specs.Elements.{count_of, most_states}
use Rattle.polcert_cells.specs.declared.elements.Elements.{Elements}
use Rattle.polcert_cells.proofs.Basics.{some≢none}
use Rattle.polcert_format.proofs.LimitLaws.{CountWithin, counts_within}
use Rattle.polcert_cells.specs.declared.entries.Entry.{Entry}
use Rattle.polcert_cells.specs.declared.entries.Table.{Table}
use Rattle.polcert_cells.specs.declared.entries.Table.TheVariants.{Transition, Observation}
use Rattle.polcert_cells.specs.declared.words.Topic.{Topic}
use Rattle.polcert_format.specs.FirstWrong.{TextTokens, AreTokensOf}
use Rattle.polcert_format.specs.Limits.{HasFewCells}
use Rattle.polcert_format.specs.Order.{preamble_fault, word_fault}
use Rattle.polcert_format.specs.Text.{ModelSoFar}
use Rattle.polcert_format.specs.Refusals.{SaysOfText}
use Rattle.polcert_format.specs.RefusedTexts.{IsRefusedModelText}
use Rattle.polcert_format.specs.declared.fault.ItemFault.{ItemFault}
use Rattle.polcert_format.specs.declared.fault.ModelFault.{ModelFault}
use Rattle.polcert_format.specs.declared.fault.ModelFault.TheVariants as faults
use Rattle.polcert_format.proofs.RefusalLaws.{no_model}
use Rattle.polcert_format.proofs.FrontLaws.{tokens_begin, these_tokens}
use Rattle.polcert_items.specs.Steps.ModelSoFar.{IsWholeRead, with_item}
use Rattle.polcert_items.specs.declared.item.ItemReader.{ItemReader}
use Rattle.polcert_items.specs.declared.signed_number.Refusal.{Refusal}
use Rattle.polcert_items.proofs.WholeItems.{whole_right}
use Rattle.polcert_policy.proofs.Places.{same_some}
use Rattle.polcert_model.specs.Steps.Texts.{IsTextRead, AreItemsRead, IsRefusedAfter, IsRefusedAt, IsRefusedWhole, Refuses}
use Rattle.polcert_model.specs.Steps.Texts.{tokens_end}
use Rattle.polcert_model.specs.Steps.Texts as texts
use Rattle.polcert_model.proofs.ModelStreams.{row_sum_refused}
use Rattle.polcert_model.proofs.RefusingEnds.{fault_refused}
use Rattle.polcert_model.proofs.TextReading as reading
use Rattle.polcert_existence.specs.Answers.{HasModelAnswer}
use Rattle.polcert_existence.proofs.EachToken.{answered}
use Rattle.polcert_existence.proofs.Decisions.{below_or_not, same_or_not}
use Rattle.polcert_existence.proofs.FirstFailures.{all_or_first}
use Rattle.polcert_existence.proofs.ItemAnswers as items
use Rattle.polcert_existence.proofs.ItemAnswers.{HasSomeStates, IsEndedOrRefused, ended, not_ended, not_before}

-- The state of a text's reader. (Its name is private to `polcert_model`; the lemmas there speak of it.)
abbrev read_by : {S : Type 0} → (List Lexeme → S → Type 0) → Type 0
read_by {S} IsSo = S

abbrev TextReader : Type 0
TextReader = read_by IsTextRead

-- a refusal that says something, and of which this holds
abbrev Refused : (ModelFault → Type 0) → Type 0
Refused P = (fault : ModelFault) × SaysOfText fault × P fault

-- a limit that holds where another number is passed
limit_or_not : (a b m n : ℕ) → (a < b → m ≤ n) ⊎ ((a < b → m ≤ n) → ⊥)
limit_or_not a b m n = ⊎_elim (λ many. ⊎_elim (λ large. inr (λ h. omega arith)) (λ small. inl (λ l. absurd (omega arith)))
    (below_or_not a b))
    (λ few. inl (λ l. few)) (below_or_not n m)

few_cells : (p : Preamble) (es : List Entry) → HasFewCells p es ⊎ (HasFewCells p es → ⊥)
few_cells p es = ⊎_elim (λ t. ⊎_elim
    (λ o. ⊎_map (λ r. record { transitions = t; observations = o; rewards = r }) (λ none. λ h. none h.rewards)
    (limit_or_not _ _ _ _))
    (λ none. inr (λ h. none h.observations)) (limit_or_not _ _ _ _))
    (λ none. inr (λ h. none h.transitions)) (limit_or_not _ _ _ _)

-- ---- rows

-- the first row of a table that isn't proper
record FirstRow (m : Meaning) (table : Table) : Type 0 where
  pub action : ℕ
  pub row : ℕ
  pub action_below : action < actions_of m
  pub row_below : row < states_of m
  pub wrong : IsProperRow m table action row → ⊥
  pub before : AreProperBefore m table action row

module _ (m : Meaning) (table : Table) (decide : (a s : ℕ) → IsProperRow m table a s ⊎ (IsProperRow m table a s → ⊥)) where
  rows : ((a s : ℕ) → a < actions_of m → s < states_of m → IsProperRow m table a s) ⊎ FirstRow m table
  rows = ⊎_elim (λ all. inl (λ a s l. all a l s)) (λ f. ⊎_elim (λ all. absurd (f.fails all)) (λ g. inr (record {
    action = _;
    row = _;
    action_below = f.inside;
    row_below = g.inside;
    wrong = g.fails;
    before = record { earlier_actions = λ b r l. f.before b l r; same_action = g.before };
  }))
      (all_or_first _ (decide _) _))
      (all_or_first _ (λ a. ⊎_elim inl (λ f. inr (λ all. f.fails (all f.at f.inside)))
      (all_or_first (IsProperRow m table a) (decide a) (states_of m))) _)

rows_or_first : (m : Meaning) → HasProperRows m ⊎ ((table : Table) × (a : ℕ) × (s : ℕ) × IsFirstWrongRow m table a s)
rows_or_first m = ⊎_elim (λ t. ⊎_elim (λ o. inl (record { transitions = t; observations = o })) (λ f. inr (
  Observation,
  _,
  f.row,
  record {
    action = f.action_below;
    state = f.row_below;
    wrong = f.wrong;
    before = f.before;
    after_transitions = t;
  },
))
    (rows m _ (λ a s. same_or_not _ _)))
    (λ f. inr (
      Transition,
      _,
      f.row,
      record {
        action = f.action_below;
        state = f.row_below;
        wrong = f.wrong;
        before = f.before;
        after_transitions = tt;
      },
    ))
    (rows m _ (λ a s. same_or_not _ _))

same_meaning : (m : Meaning) → IsSame m m
same_meaning m = record { preamble = refl; start = refl; t = λ a s e i j k. refl; o = λ a e z i j k. refl; r = λ a s e z i j k l. refl }

refused_text : (fault : ModelFault) (text : List ℕ) → ((ts : TextTokens) → AreTokensOf text ts → Refuses ts fault)
    → IsRefusedModelText fault text
refused_text fault text h = record {
  no_model = no_model _ _ (λ ts tokens. (h ts tokens).refusal);
  refusal = λ ts tokens. (h ts tokens).refusal;
  placed = λ ts tokens. (h ts tokens).placed;
}

-- ---- the items

counted : (o : Option Elements) → CountWithin most_states o → (states : Elements) → o ≡ Some states → 1 ≤ count_of states
counted None within states e = cc
counted (Some d) within states e = rw (← same_some d states e) within.0

module _ (seen : List Lexeme) where
  abbrev IsTaken : Lexeme → Type 0
  IsTaken l = ((new : TextReader) × IsTextRead (seen ++ l ∷ []) new) ⊎ Refused (IsRefusedAfter (seen ++ l ∷ []))

  abbrev IsClosed : ℕ → Type 0
  IsClosed place = ((new : TextReader) × AreItemsRead seen new) ⊎ Refused (IsRefusedAt seen place)

  some_states : (r : TextReader) → IsTextRead seen r → HasSomeStates r.known
  some_states r (texts.nothing n) states e = absurd (some≢none e (cc))
  some_states r (texts.item w) states e = counted _ (counts_within _ _ w.within.items.right).0 _ e

  close_item : (r : TextReader) (place : ℕ) (i : ItemReader) → IsTextRead seen r → r.item ≡ Some i
      → IsEndedOrRefused r.known i → IsClosed place
  close_item r place i read is (ended e) = ⊎_elim (λ few. inl (
    _,
    reading.item_ended _ r _ i _ _ read is refl e.goes refl few,
  ))
      (λ many. inr (_, tt, reading.item_too_much _ r i _ _ read is e.goes many))
      (few_cells _ (with_item r.known e.said).entries)
  close_item r place i read is (not_ended e) =
      inr (
        faults.Item e.kind r.number place,
        tt,
        reading.item_not_ended seen r i e.kind _ read is e.stuck (λ body s. e.reason) e.kinds e.unheld e.undue,
      )
  close_item r place i read is (not_before e) =
      inr (
        _,
        tt,
        reading.item_not_ended_before _ r i _ _ _ read is e.stuck e.reason e.due,
      )

  close : (r : TextReader) (place : ℕ) → IsTextRead seen r → IsClosed place
  close r place read = at r.item refl
    where
      at : (held : Option ItemReader) → r.item ≡ held → IsClosed place
      at None is = inl (_, reading.none_open _ r _ read is refl)
      at (Some i) is = close_item r _ i read is (items.end_item _ (some_states r read) i (reading.open_within _ r i read is))

  open_item : (r : TextReader) (word : Lexeme) (t : Topic) → AreItemsRead seen r → topic word ≡ Some t → IsTaken word
  open_item r word t read about = at (word_fault _ t) refl
    where
      at : (fault : Option ItemFault) → word_fault r.known t ≡ fault → IsTaken word
      at None e = inl (_, reading.item_opened _ r _ t _ read about e refl)
      at (Some kind) e = inr (
        _,
        tt,
        reading.item_not_opened _ r _ t _ _ read about e refl,
      )

  feed_item : (r : TextReader) (l : Lexeme) → IsTextRead seen r → begins_item l ≡ false → IsTaken l
  feed_item r l read inside = at r.item refl
    where
      at : (held : Option ItemReader) → r.item ≡ held → IsTaken l
      at None is = inr (_, tt, reading.not_begun _ r l read is inside)
      at (Some i) is = ⊎_elim (λ fed. inl (_, reading.item_takes _ r l i _ read is inside fed.1 fed.2))
          (λ x. inr (_, tt, reading.item_refuses _ r l i x.0 read is inside x.1))
          (items.feed_item _ (some_states r read) i l (reading.open_within _ r i read is))

  take : (r : TextReader) (l : Lexeme) → IsTextRead seen r → IsTaken l
  take r l read = at (topic l) refl
    where
      at : (about : Option Topic) → topic l ≡ about → IsTaken l
      at None e = feed_item r l read (ap is_some e)
      at (Some t) e = ⊎_elim (λ closed. open_item _ l t closed.1 e)
          (λ x. inr (x.0, x.1, reading.refused_at_word _ l t x.0 e x.2)) (close r _ read)

module _ (text : List ℕ) where
  abbrev Cut : List Lexeme → Option TokenFault → Type 0
  Cut seen end = IsCut (text_rest text text_limit) seen end

  -- the items are right
  whole_text : (seen : List Lexeme) (k : ModelSoFar) → Cut seen None → IsWholeRead seen k → HasModelAnswer text
  whole_text seen k cut read = ⊎_elim (λ proper. inl (
    _,
    record {
      lexemes = _;
      tokens = clean_tokens _ _ cut;
      denotes = record {
        preamble = _;
        known = k;
        right = whole_right _ k read;
        same = same_meaning _;
        rows = proper;
      };
    },
  ))
      (λ f. inr (_, tt, row_sum_refused _ k read _ f.0 f.1 f.2 cut f.3))
      (rows_or_first _)

  refused_whole : (seen : List Lexeme) (fault : ModelFault) → Cut seen None → SaysOfText fault
      → IsRefusedWhole seen (end_place (text_rest text text_limit)) fault → HasModelAnswer text
  refused_whole seen fault cut says h = inr (
    _,
    says,
    refused_text _ _ (λ ts tokens. let these = these_tokens _ _ _ ts cut tokens in h _ ts tokens these.0 these.1 tokens.end_is),
  )

  clean_end : (seen : List Lexeme) (r : TextReader) → Cut seen None → AreItemsRead seen r → HasModelAnswer text
  clean_end seen r cut read = at (preamble_fault r.known) refl
    where
      at : (fault : Option ItemFault) → preamble_fault r.known ≡ fault → HasModelAnswer text
      at None e = whole_text _ _ cut (record { items = read.items; complete = e })
      at (Some kind) e = refused_whole _ _ cut tt (reading.whole_refused _ r _ _ read e)

  tokens_end_says : (number : ℕ) (held : Option Refusal) (fault : TokenFault) → SaysOfText (tokens_end number held fault)
  tokens_end_says number None fault = tt
  tokens_end_says number (Some x) fault = tt

  -- what is read of the tokens
  abbrev SoFar : List Lexeme → Type 0
  SoFar seen = (r : TextReader) × IsTextRead seen r

  at_end : (seen : List Lexeme) (end : Option TokenFault) → Cut seen end → SoFar seen → HasModelAnswer text
  at_end seen None cut (r, read) = ⊎_elim (λ closed. clean_end _ _ cut closed.1)
      (λ x. refused_whole _ x.0 cut x.1 (reading.refused_at_end _ _ x.0 x.2))
      (close _ r _ read)
  at_end seen (Some fault) cut (r, read) = inr (
    _,
    tokens_end_says _ _ _,
    refused_text _ _ (λ ts tokens. let these = these_tokens _ _ _ ts cut tokens in
        fault_refused _ r _ read _ ts tokens these.0 these.1),
  )

  pub model_answer : HasModelAnswer text
  model_answer = answered _ _ (_, texts.nothing (record { nothing = refl; known_is = refl; item_is = refl; number_is = refl }))
      (λ seen t so_far. ⊎_elim inl
      (λ x. inr (λ rest taken. inr (
        x.0,
        x.1,
        refused_text x.0 _ (λ ts tokens. let front = tokens_begin _ _ _ ts taken tokens in x.2 _ ts _ tokens front.1),
      )))
      (take _ _ t so_far.1))
      at_end

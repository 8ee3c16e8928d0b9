-- What an item's reader answers to one more token, and to the item's end.
use Rattle.std.proofs.Common.{◌≡◌, ◌∙◌, ◌⊎◌, inl, inr, ⊎_elim, ℕ, ℤ, pos, length, ◌≤◌, true, false, Some, None, Err, List}
use Rattle.std.proofs.Common.{[], ◌∷◌, ◌++◌, refl, sym, ap, subst, arith, unwrap_or}
use Rattle.polcert_text.specs.Cut.{Lexeme}
use Rattle.polcert_cells.specs.declared.words.Topic.{Topic}
use Rattle.polcert_cells.specs.declared.words.Topic.TheVariants.{Start, Discount, States, Actions, Observations, Cells}
use Rattle.polcert_format.specs.declared.fault.ItemFault.{ItemFault}
use Rattle.polcert_format.specs.FirstNumber.{IsLate, no_state, states_known}
use Rattle.polcert_format.specs.Misfits.{IsMisfit, unexpected_token}
use Rattle.polcert_format.specs.Text.{ModelSoFar}
use Rattle.polcert_items.specs.Steps.Items.{IsItemFed, RefusesInItem, IsItemReason, of_token, IsTokenReason, ItemGoes, IsItemWithin, IsSeen}
use Rattle.polcert_items.specs.Steps.Items.{IsEndReason, HasElements, topic_of_reader, pending_in}
use Rattle.polcert_items.specs.Steps.Lines.{TakesLexeme, CannotTake, CannotEnd, DiscountReason, discount_sign}
use Rattle.polcert_items.specs.Steps.ModelSoFar.{with_item, AreContentsOf}
use Rattle.polcert_items.specs.Steps.Start.{IsStartReason, IsStartWithin, IsStartEndKind, IsState, HasReadStart, StartGives}
use Rattle.polcert_items.specs.Steps.Wants.{ExpectsNext, IfStart, IfNotStart, item_wants, expected_by_elements}
use Rattle.polcert_items.specs.declared.item.ItemContents.{ItemContents}
use Rattle.polcert_items.specs.declared.item.ItemContents.TheVariants as says
use Rattle.polcert_items.specs.declared.item.ItemReader.TheVariants as items
use Rattle.polcert_items.specs.declared.item.EndError.TheVariants as ends
use Rattle.polcert_items.specs.declared.item.FeedError.TheVariants as stops
use Rattle.polcert_items.specs.declared.preamble_lines.DiscountReader.{DiscountReader}
use Rattle.polcert_items.specs.declared.preamble_lines.DiscountReader.TheVariants as discount
use Rattle.polcert_items.specs.declared.preamble_lines.ValuesReader.{ValuesReader}
use Rattle.polcert_items.specs.declared.preamble_lines.ValuesReader.TheVariants as values
use Rattle.polcert_items.specs.declared.preamble_lines.ElementsReader.{ElementsReader}
use Rattle.polcert_items.specs.declared.preamble_lines.ElementsReader.TheVariants as elements
use Rattle.polcert_items.specs.declared.entry_reader.EntryReader.{EntryReader}
use Rattle.polcert_items.specs.declared.start_reader.StartReader.{StartReader}
use Rattle.polcert_items.specs.declared.start_reader.StartReader.TheVariants as reader
use Rattle.polcert_cells.specs.declared.elements.Elements.{Elements}
use Rattle.polcert_cells.specs.declared.elements.Elements.TheVariants.{Count, Names}
use Rattle.polcert_cells.specs.Elements.{count_of, most_states, most_actions, most_observations, AreElements, counted, named}
use Rattle.polcert_cells.specs.Numbers.{AreNumbers}
use Rattle.polcert_cells.proofs.Basics.{cons≢nil}
use Rattle.std.proofs.lemmas.List.{append-nil}
use Rattle.polcert_cells.specs.declared.entries.Table.{Table}
use Rattle.polcert_items.specs.declared.start_reader.StateOrNumber.{StateOrNumber}
use Rattle.polcert_format.specs.declared.fault.ItemFault.TheVariants as faults
use Rattle.polcert_format.specs.KnownPreamble.{preamble_in, indices_in}
use Rattle.polcert_format.specs.Reasons.{is_sign_kind, ends_in_sign, IsOfElements}
use Rattle.polcert_items.specs.Steps.Elements.{ElementsGo, IsElementsRead}
use Rattle.polcert_items.specs.Steps.Entries.{IsWithinIndices}
use Rattle.polcert_items.proofs.ItemReading as reading
use Rattle.polcert_items.proofs.StartSeen.{sign_ends, digits_end_reason, last_sign}
use Rattle.polcert_existence.proofs.LineAnswers.{feed_discount, feed_values, feed_elements}
use Rattle.polcert_existence.proofs.EntryAnswers.{feed_entry, end_entry}
use Rattle.polcert_existence.proofs.StartAnswers.{StartEnded, ended as start_ended, unended as start_unended, digits_unended}
use Rattle.polcert_existence.proofs.StartAnswers.{digits_give_none, feed_start, end_start}
use Rattle.polcert_items.specs.declared.item.ItemReader.{ItemReader}
use Rattle.polcert_items.specs.declared.signed_number.Refusal.{Refusal}

-- the token is taken, or refused
abbrev pub IsFedOrRefused : ModelSoFar → ItemReader → Lexeme → Type 0
IsFedOrRefused k old l = ((new : ItemReader) × (topic_of_reader new ≡ topic_of_reader old) × IsItemFed k old l new)
    ⊎ ((x : Refusal) × RefusesInItem k old l x)

-- the item says so much at its end
pub record EndsItem (k : ModelSoFar) (i : ItemReader) : Type 0 where
  pub said : ItemContents
  pub goes : ItemGoes k i [] (with_item k said)
  pub topic : AreContentsOf (topic_of_reader i) said

-- it cannot end, for this reason
pub record CannotEndItem (k : ModelSoFar) (i : ItemReader) : Type 0 where
  pub kind : ItemFault
  pub stuck : HasElements k (topic_of_reader i) → CannotEnd (ItemGoes k) i
  pub reason : IsEndReason (topic_of_reader i) kind
  pub kinds : HasElements k (topic_of_reader i) → kind ≡ unexpected_token (item_wants k i []) None
  pub unheld : pending_in i ≡ None
  pub undue : (body : List Lexeme) (late : Refusal) → IsSeen (states_known k) body i → topic_of_reader i ≡ Start
      → IsLate (states_known k) body true late.kind late.place → ⊥

-- nor for a number before its end
pub record CannotEndBefore (k : ModelSoFar) (i : ItemReader) : Type 0 where
  pub kind : ItemFault
  pub place : ℕ
  pub stuck : HasElements k (topic_of_reader i) → CannotEnd (ItemGoes k) i
  pub reason : (body : List Lexeme) → IsSeen (states_known k) body i → (topic_of_reader i ≡ Start) × IsStartReason body kind place
      × IsLate (states_known k) body true kind place
  pub due : (body : List Lexeme) (late : Refusal) → IsSeen (states_known k) body i → topic_of_reader i ≡ Start
      → IsLate (states_known k) body true late.kind late.place → (kind ≡ late.kind) × (place ≡ late.place)

pub data IsEndedOrRefused (k : ModelSoFar) (i : ItemReader) : Type 0 where
  ended : EndsItem k i → IsEndedOrRefused k i
  not_ended : CannotEndItem k i → IsEndedOrRefused k i
  not_before : CannotEndBefore k i → IsEndedOrRefused k i

-- ---- each reader's answers as those of items

-- what is known has some states, where their line came
abbrev pub HasSomeStates : ModelSoFar → Type 0
HasSomeStates k = (states : Elements) → k.states ≡ Some states → 1 ≤ count_of states

unless_start : (t : Topic) (P : Type 0) → (t ≡ Start → ⊥) → IfStart t P
unless_start Start P other = absurd (other refl)
unless_start _ P other = tt

module _ {S V : Type 0} (k : ModelSoFar) (item : S → ItemReader) (Goes : S → List Lexeme → V → Type 0) (say : V → ItemContents)
    (into : (s : S) (ls : List Lexeme) (next : ModelSoFar) → ((v : V) × (Goes s ls v × (next ≡ with_item k (say v))))
    → ItemGoes k (item s) ls next)
    (out : (s : S) (ls : List Lexeme) (next : ModelSoFar) → ItemGoes k (item s) ls next
    → (v : V) × (Goes s ls v × (next ≡ with_item k (say v))))
    (other : (s : S) → topic_of_reader (item s) ≡ Start → ⊥) where
  -- an item that is no start item
  feeds : {A B : Type 0} (old : S) (l : Lexeme)
      → (A → (new : S) × TakesLexeme Goes old l new × (topic_of_reader (item new) ≡ topic_of_reader (item old)) × IsItemWithin k (item new)
      × ((body : List Lexeme) → IsSeen (states_known k) body (item old) → IsSeen (states_known k) (body ++ l ∷ []) (item new))
      × ExpectsNext (item_wants k (item old)) l (item_wants k (item new)))
      → (B → (kind : ItemFault) × (place : ℕ) × CannotTake Goes old l
      × ((body : List Lexeme) → IsSeen (states_known k) body (item old) → IsItemReason (item old) body l kind place)
      × IfNotStart (topic_of_reader (item old)) (IsMisfit (item_wants k (item old) []) l kind))
      → A ⊎ B → IsFedOrRefused k (item old) l
  feeds old l taken refused = ⊎_elim (λ a. let t = taken a in inl (
    _,
    t.2,
    record {
      within = t.3;
      takes = record {
        back = λ ls next g. let h = out t.0 ls _ g in into old _ _ (h.0, (t.1.back ls h.0 h.1.0, h.1.1));
        on = λ ls next g. let h = out old _ _ g in into t.0 ls _ (h.0, (t.1.on ls h.0 h.1.0, h.1.1));
      };
      formed = unless_start _ _ (other old);
      seen = t.4;
      leads = t.5;
    },
  ))
      (λ b. let t = refused b in inr (
        record { kind = t.0; place = t.1 },
        record {
          stuck = λ ls next g. let h = out old _ _ g in t.2 ls h.0 h.1.0;
          formless = unless_start _ _ (other old);
          reason = t.3;
          kind = t.4;
          start = λ body seen. unless_start _ _ (other old);
          late = λ body more ends late seen e. absurd (other old e);
        },
      ))

-- what a line of elements says at its end, or why it cannot end
data ElementsEnded (most : ℕ) (r : ElementsReader) : Type 0 where
  whole : (e : Elements) → ElementsGo most r [] e → ElementsEnded most r
  open_line : (kind : ItemFault) → (kind ≡ faults.BadShape) ⊎ (kind ≡ faults.BadCount) → CannotEnd (ElementsGo most) r
      → kind ≡ unexpected_token (expected_by_elements most r []) None → ElementsEnded most r

module _ (k : ModelSoFar) where
  discount_reason : (r : DiscountReader) (body : List Lexeme) (l : Lexeme) (kind : ItemFault) (place : ℕ) → DiscountReason r l kind place
      → IsItemReason (items.Discount r) body l kind place
  discount_reason r body l kind place h = of_token (λ e. cc) (at r h)
    where
      at : (r : DiscountReader) → DiscountReason r l kind place → IsTokenReason Discount (discount_sign r) body l kind place
      at _ h = grind arith

  feed_discount_item : (r : DiscountReader) (l : Lexeme) → IsFedOrRefused k (items.Discount r) l
  feed_discount_item r l = feeds k items.Discount _ says.Discount (λ s ls next g. g) (λ s ls next g. g) (λ s e. cc) r l
      (λ s. (s.0, s.1.takes, refl, tt, (λ body b. sign_ends _ _ l s.2), record { same = s.1.leads.same }))
      (λ no. (_, _, no.stuck, (λ body b. discount_reason r _ l _ _ no.reason), no.misfit))
      (feed_discount r l)

  feed_values_item : (r : ValuesReader) (l : Lexeme) → IsFedOrRefused k (items.Values r) l
  feed_values_item r l = feeds k items.Values _ says.Costs (λ s ls next g. g) (λ s ls next g. g) (λ s e. cc) r l
      (λ s. (s.0, s.1.takes, refl, tt, (λ body b. sign_ends None body l s.2), record { same = s.1.leads.same }))
      (λ no. (_, no.place, no.stuck, (λ body b. of_token (λ e. cc) (grind arith)), no.misfit))
      (feed_values r l)

  seen_more : (body : List Lexeme) (l : Lexeme) → is_sign_kind l.kind ≡ false → ends_in_sign (body ++ l ∷ []) ≡ false
  seen_more body l free = last_sign body l ∙ free

  feed_states_item : (r : ElementsReader) (l : Lexeme) → IsElementsRead most_states r → IsFedOrRefused k (items.States r) l
  feed_states_item r l within = feeds k items.States _ says.States (λ s ls next g. g) (λ s ls next g. g) (λ s e. cc) r l
      (λ s. (
        s.0,
        s.1.step.takes,
        refl,
        s.1.within,
        (λ body b. (seen_more body l s.1.sign, s.1.seen _ b.1)),
        record { same = s.1.step.leads.same },
      ))
      (λ no. (
        _,
        _,
        no.stuck,
        (λ body b. reading.states_reason _ r _ l _ _ (states_known k) b no.reason refl),
        no.misfit,
      ))
      (feed_elements _ (omega arith) r l within)

  feed_actions_item : (r : ElementsReader) (l : Lexeme) → IsElementsRead most_actions r
      → IsFedOrRefused k (items.Actions r) l
  feed_actions_item r l within = feeds k items.Actions _ says.Actions (λ s ls next g. g) (λ s ls next g. g) (λ s e. cc) r l
      (λ s. (
        s.0,
        s.1.step.takes,
        refl,
        s.1.within,
        (λ body b. (seen_more body l s.1.sign, s.1.seen _ b.1)),
        record { same = s.1.step.leads.same },
      ))
      (λ no. (
        _,
        _,
        no.stuck,
        (λ body b. reading.actions_reason _ r _ l _ _ (states_known k) b no.reason refl),
        no.misfit,
      ))
      (feed_elements _ (omega arith) r l within)

  feed_observations_item : (r : ElementsReader) (l : Lexeme) → IsElementsRead most_observations r
      → IsFedOrRefused k (items.Observations r) l
  feed_observations_item r l within = feeds k items.Observations _ says.Observations (λ s ls next g. g) (λ s ls next g. g) (λ s e. cc) r l
      (λ s. (
        s.0,
        s.1.step.takes,
        refl,
        s.1.within,
        (λ body b. (seen_more body l s.1.sign, s.1.seen _ b.1)),
        record { same = s.1.step.leads.same },
      ))
      (λ no. (
        _,
        _,
        no.stuck,
        (λ body b. reading.observations_reason _ r _ l _ _ (states_known k) b no.reason refl),
        no.misfit,
      ))
      (feed_elements _ (omega arith) r l within)

  feed_entry_item : (r : EntryReader) (l : Lexeme) → IsWithinIndices (indices_in k r.table) r
      → IsFedOrRefused k (items.Entry r) l
  feed_entry_item r l within = feeds k items.Entry _ says.Entry (λ s ls next g. g) (λ s ls next g. g) (λ s e. cc) r l
      (λ s. (
        s.0,
        s.1.step.takes,
        cc,
        subst (λ t. IsWithinIndices (indices_in k t) s.0) (sym s.1.table) s.1.within,
        (λ body b. sign_ends _ _ l s.1.sign),
        record { same = s.1.step.leads.same },
      ))
      (λ no. (_, no.place, no.stuck, (λ body b. of_token (λ e. cc) (grind arith)), no.misfit))
      (feed_entry k r l within)

  feed_start_item : (r : StartReader) (l : Lexeme) (states : Elements) → k.states ≡ Some states → 1 ≤ count_of states
      → IsStartWithin states r → IsFedOrRefused k (items.Start r) l
  feed_start_item r l states known some within = ⊎_elim (λ s. inl (_, refl, reading.start_fed k _ _ r s.0 l known refl s.1)) (λ stop. inr (
    _,
    reading.start_refused k _ _ r l _ known refl
        (λ x d. ap (λ y. Err (stops.Refused y)) (stop.late x d)) (λ h. absurd (stop.held h)) stop.refuses,
  ))
      (feed_start _ some r l within)

  -- a token of an item
  pub feed_item : HasSomeStates k → (old : ItemReader) (l : Lexeme) → IsItemWithin k old → IsFedOrRefused k old l
  feed_item some (items.Discount r) l within = feed_discount_item r l
  feed_item some (items.Values r) l within = feed_values_item r l
  feed_item some (items.States r) l within = feed_states_item r l within
  feed_item some (items.Actions r) l within = feed_actions_item r l within
  feed_item some (items.Observations r) l within = feed_observations_item r l within
  feed_item some (items.Start r) l within = feed_start_item r l _ within.1.0 (some _ within.1.0) within.1.1
  feed_item some (items.Entry r) l within = feed_entry_item r l within

  -- ---- an item's end

  -- an item that is no start item
  plain_unended : (i : ItemReader) (kind : ItemFault) → (topic_of_reader i ≡ Start → ⊥)
      → (HasElements k (topic_of_reader i) → CannotEnd (ItemGoes k) i) → IsEndReason (topic_of_reader i) kind
      → (HasElements k (topic_of_reader i) → kind ≡ unexpected_token (item_wants k i []) None) → pending_in i ≡ None → IsEndedOrRefused k i
  plain_unended i kind other stuck reason kinds unheld =
      not_ended (record {
        kind = _;
        stuck = stuck;
        reason = reason;
        kinds = kinds;
        unheld = unheld;
        undue = λ body late s start l. other start;
      })

  no_numbers_left : (xs : List Lexeme) (hs : List ℤ) → xs ≡ [] → AreNumbers xs hs → hs ≡ []
  no_numbers_left xs hs e a = grind arith

  end_discount : (r : DiscountReader) → IsEndedOrRefused k (items.Discount r)
  end_discount discount.Colon = plain_unended _ _ (λ e. cc) (λ h next g. g.1.0) tt (λ h. refl) refl
  end_discount (discount.Number None) =
      plain_unended _ _ (λ e. cc)
      (λ h next g. cons≢nil (no_numbers_left [] (pos g.0 ∷ []) refl g.1.0.0)) tt (λ h. refl) refl
  end_discount (discount.Number (Some s)) = plain_unended _ _ (λ e. cc) (λ h next g. g.1.0.0) tt (λ h. refl) refl
  end_discount (discount.Done d) = ended (record { said = says.Discount d; goes = (d, ((refl, refl), refl)); topic = tt })

  end_values : (r : ValuesReader) → IsEndedOrRefused k (items.Values r)
  end_values values.Colon = plain_unended _ _ (λ e. cc) (λ h next g. g.1.0) tt (λ h. refl) refl
  end_values values.Word = plain_unended _ _ (λ e. cc) (λ h next g. g.1.0) tt (λ h. refl) refl
  end_values (values.Done b) = ended (record { said = says.Costs b; goes = (b, ((refl, refl), refl)); topic = tt })

  no_elements : (most : ℕ) (xs : List Lexeme) (e : Elements) → xs ≡ [] → AreElements most xs e → ⊥
  no_elements most xs e same (counted is some few) = cons≢nil same
  no_elements most xs e same (named {ls} all some few apart) = omega (arith, ap length same)

  end_elements : (most : ℕ) (r : ElementsReader) → IsElementsRead most r → ElementsEnded most r
  end_elements most elements.Colon read = open_line _ (inl refl) (λ e g. g) refl
  end_elements most elements.First read = open_line _ (inr refl) (λ e. no_elements most [] e refl) refl
  end_elements most (elements.Counted n) read = whole _ (refl, refl)
  end_elements most (elements.Named names) read = whole _ (record {
    all = λ k d h. absurd (omega arith);
    few = rw (append-nil names) read.1.few;
    apart = rw (append-nil names) read.1.apart;
    elements_are = ap Names (sym (append-nil _));
  })

  elements_kind : (t : Topic) (kind : ItemFault) → IsOfElements t → (kind ≡ faults.BadShape) ⊎ (kind ≡ faults.BadCount) → IsEndReason t kind
  elements_kind t kind is (inl e) = subst (IsEndReason t) (sym e) tt
  elements_kind t kind is (inr e) = subst (IsEndReason t) (sym e) is

  end_states : (r : ElementsReader) → ElementsEnded most_states r → IsEndedOrRefused k (items.States r)
  end_states r (whole e goes) = ended (record { said = says.States e; goes = (e, (goes, refl)); topic = tt })
  end_states r (open_line kind shape stuck kinds) =
      plain_unended _ _ (λ e. cc) (λ h next g. stuck g.0 g.1.0) (elements_kind States _ tt shape) (λ h. kinds) refl

  end_actions : (r : ElementsReader) → ElementsEnded most_actions r → IsEndedOrRefused k (items.Actions r)
  end_actions r (whole e goes) = ended (record { said = says.Actions e; goes = (e, (goes, refl)); topic = tt })
  end_actions r (open_line kind shape stuck kinds) =
      plain_unended _ _ (λ e. cc) (λ h next g. stuck g.0 g.1.0) (elements_kind Actions _ tt shape) (λ h. kinds) refl

  end_observations : (r : ElementsReader) → ElementsEnded most_observations r → IsEndedOrRefused k (items.Observations r)
  end_observations r (whole e goes) = ended (record { said = says.Observations e; goes = (e, (goes, refl)); topic = tt })
  end_observations r (open_line kind shape stuck kinds) =
      plain_unended _ _ (λ e. cc) (λ h next g. stuck g.0 g.1.0) (elements_kind Observations _ tt shape)
      (λ h. kinds) refl

  entry_kind : (t : Table) (kind : ItemFault) → (kind ≡ faults.BadShape) ⊎ (kind ≡ faults.WrongNumberCount) → IsEndReason (Cells t) kind
  entry_kind t kind (inl e) = subst (IsEndReason (Cells t)) (sym e) tt
  entry_kind t kind (inr e) = subst (IsEndReason (Cells t)) (sym e) tt

  start_kind : (kind : ItemFault) → IsStartEndKind kind → IsEndReason Start kind
  start_kind kind h = grind arith

  module _ (states : Elements) (known : k.states ≡ Some states) where
    these_states : (preamble_in k).states ≡ states
    these_states = ap (λ o. unwrap_or o (Count 0)) known

    end_start_item : (r : StartReader) → IsStartWithin states r → StartEnded states r → IsEndedOrRefused k (items.Start r)
    end_start_item r within (start_ended e) = ended (record {
      said = says.Start e.shares;
      goes = (_, (rw these_states e.gives, refl));
      topic = tt;
    })
    end_start_item r within (start_unended u) = not_ended (record {
      kind = u.kind;
      stuck = λ h. reading.start_stuck_end k _ _ r (ends.AtEnd u.kind) known refl u.stuck;
      reason = start_kind u.kind u.reason;
      kinds = λ h. rw these_states u.kinds;
      unheld = u.unheld;
      undue = λ body late s start l. reading.start_late_end k _ (items.Start r) r _ _ late known refl s l u.due;
    })
    end_start_item r within (digits_unended u) = not_before (record {
      kind = _;
      place = _;
      stuck = λ h. reading.start_stuck_end k states _ r (ends.At x) known refl
          (digits_stuck _ u.none (subst (IsStartWithin states) u.is within) u.is);
      reason = λ body s. let read = subst (HasReadStart (states_known k) _) u.is s in (
        refl,
        digits_end_reason _ body _ read,
        let b = read.body_is in
            no_state (record {
              colon = b.colon;
              digits = b.digits;
              whole = b.whole;
              is_colon = b.is_colon;
              are_digits =
                  b.are_digits;
              place_is = b.place_is;
              holds = subst (λ o. IsState (states_known k) o b.digits) u.none b.holds.state;
            }) refl
            refl,
      );
      due = λ body late s start l. reading.start_late_end k states _ r _ (ends.At x) _ known refl s l (rw u.is (u.none, refl, refl));
    })
      where
        x : Refusal
        x = record { kind = faults.IndexOutOfRange; place = u.digits.place }

        digits_stuck : (d : StateOrNumber) → d.state ≡ None → IsStartWithin states (reader.StateOrNumber d) → r ≡ reader.StateOrNumber d
            → CannotEnd (StartGives states) r
        digits_stuck d none within is = subst (λ q. CannotEnd (StartGives states) q) (sym is) (digits_give_none _ d within.0 none)

  -- an item's end
  pub end_item : HasSomeStates k → (i : ItemReader) → IsItemWithin k i → IsEndedOrRefused k i
  end_item some (items.Discount r) within = end_discount r
  end_item some (items.Values r) within = end_values r
  end_item some (items.States r) within = end_states r (end_elements _ r within)
  end_item some (items.Actions r) within = end_actions r (end_elements _ r within)
  end_item some (items.Observations r) within = end_observations r (end_elements _ r within)
  end_item some (items.Start r) within = end_start_item _ within.1.0 r within.1.1 (end_start _ (some _ within.1.0) r within.1.1)
  end_item some (items.Entry r) within = ⊎_elim (λ e. ended
      (record { said = says.Entry e.entry; goes = (e.entry, (e.goes, refl)); topic = tt }))
      (λ u. plain_unended (items.Entry r) u.kind (λ e. cc) (λ h next g. u.stuck h g.0 g.1.0) (entry_kind r.table u.kind u.shape) u.kinds
      refl)
      (end_entry k r within)

-- A text's reader, step by step: what it holds after one more lexeme, and after an item.
use Rattle.std.proofs.Common.{◌≡◌, ◌∙◌, ℕ, ◌+◌, true, false, Option, Some, None, List, [], ◌∷◌, ◌++◌, refl, sym, subst, append_assoc}
use Rattle.std.proofs.Common.{length-append, arith}
use Rattle.std.proofs.lemmas.List.{append-nil}
use Rattle.polcert_model.proofs.Common.{Lexeme, ItemFault, BeforeFirstItem, TooManyCells, ModelFault, ItemReader, ItemContents, TextReader}
use Rattle.polcert_model.proofs.Common.{Topic, Start, topic, begins_item, ModelSoFar, IsRight, AreRight}
use Rattle.polcert_model.proofs.Common.{preamble_in, HasFewCells, word_fault, preamble_fault, CannotEnd, IsStartReason, ItemGoes}
use Rattle.polcert_model.proofs.Common.{IsItemWithin, IsEndReason, IsSeen, topic_of_reader, pending_in, new_item, HasElements, with_item}
use Rattle.polcert_model.proofs.Common.{AreContentsOf, IsAllowedNext, unexpected_token, item_wants, Refusal, IsLate, states_known}
use Rattle.polcert_model.proofs.Common.{IsTextRead, IsItemRead, IsBodyRead, AreItemsRead, IsRefusedAfter, IsRefusedAt}
use Rattle.polcert_model.proofs.Common.{IsRefusedWhole}
use Rattle.polcert_format.specs.declared.fault.ModelFault.TheVariants as model_faults
use Rattle.polcert_format.specs.Text as texts
use Rattle.polcert_items.specs.Steps.Items.{IsItemFed, RefusesInItem}
use Rattle.polcert_model.specs.Steps.Texts.{at_word, at_end, nothing, item}
use Rattle.polcert_cells.proofs.Basics.{one_some, some≢none}
use Rattle.polcert_format.proofs.Dividing.{begins, empty_division}
use Rattle.polcert_format.proofs.ReadLaws.{item_ends}
use Rattle.polcert_model.proofs.TakenItems.{item_begun, item_continues, has_elements}
use Rattle.polcert_format.proofs.BegunItems.{within_continues, item_begins}
use Rattle.polcert_model.proofs.Refusing.{feed_refused, end_refused, end_refused_before, too_much_refused}
use Rattle.polcert_model.proofs.Shaped.{shaped_right, shaped_too_much, may_be_learned}
use Rattle.polcert_model.proofs.RefusingEnds.{before_refused, word_refused, text_end_refused}

abbrev reader_of : ModelSoFar → Option ItemReader → ℕ → TextReader
reader_of known held number = record { known = known; item = held; number = number }

-- ---- an item's end

module _ (seen : List Lexeme) (r : TextReader) where
  -- no item is open
  pub none_open : (held : Option ItemReader) → IsTextRead seen r → r.item ≡ None → held ≡ None
      → AreItemsRead seen (reader_of r.known held r.number)
  none_open held (nothing n) e f = record {
    items = record {
      items = [];
      divided = rw n.nothing empty_division;
      right = subst (AreRight _ []) (sym n.known_is) texts.none;
    };
    item_is = f;
    number_is = n.number_is;
  }
  none_open held (item w) e f = absurd (some≢none w.item_is e)

  same_item : (i : ItemReader) → r.item ≡ Some i → (w : IsItemRead seen r) → w.item ≡ i
  same_item i e w = one_some w.item_is e

  -- the open item's reader is within its bounds
  pub open_within : (i : ItemReader) → IsTextRead seen r → r.item ≡ Some i → IsItemWithin r.known i
  open_within i h1 h2 = grind arith

  pub said_may_be_learned : (i : ItemReader) (said : ItemContents) → IsTextRead seen r → r.item ≡ Some i
      → ItemGoes r.known i [] (with_item r.known said) → AreContentsOf (topic_of_reader i) said
      → IsAllowedNext r.known said
  said_may_be_learned i said h1 h2 h3 h4 = grind (arith, some≢none, may_be_learned, same_item)

  -- the open item ends
  pub item_ended : (held : Option ItemReader) (i : ItemReader) (known : ModelSoFar)
      (said : ItemContents) → IsTextRead seen r → r.item ≡ Some i → held ≡ None
      → ItemGoes r.known i [] (with_item r.known said) → known ≡ with_item r.known said
      → HasFewCells (preamble_in r.known) (with_item r.known said).entries → AreItemsRead seen (reader_of known held r.number)
  item_ended held i known said (nothing n) e none goes same few = absurd (some≢none e n.item_is)
  item_ended held i known said (item w) e none goes same few =
      let after = with_item r.known said in
      let taken : IsRight r.known w.t w.body after = shaped_right r.known w.t _ _ (grind (arith, append-nil, same_item)) few in
      rw same (record {
        items = item_ends seen _ _ _ w.t w.within taken;
        item_is = none;
        number_is = w.number_is ∙ sym (length-append _ _);
      })

  -- it is an entry that gives too much
  pub item_too_much : (i : ItemReader) (said : ItemContents) (place : ℕ) → IsTextRead seen r
      → r.item ≡ Some i → ItemGoes r.known i [] (with_item r.known said)
      → (HasFewCells (preamble_in r.known) (with_item r.known said).entries → ⊥)
      → IsRefusedAt seen place (model_faults.Item TooManyCells r.number place)
  item_too_much i said place (nothing n) e goes many = absurd (some≢none e n.item_is)
  item_too_much i said place (item w) e goes many =
      too_much_refused seen r _ w (shaped_too_much _ w.t _ (with_item r.known said)
      (grind (arith, append-nil, same_item)) many)

  -- the open item cannot end
  pub item_not_ended : (i : ItemReader) (kind : ItemFault) (place : ℕ) → IsTextRead seen r
      → r.item ≡ Some i
      → (HasElements r.known (topic_of_reader i) → CannotEnd (ItemGoes r.known) i)
      → ((body : List Lexeme) → IsSeen (states_known r.known) body i → IsEndReason (topic_of_reader i) kind)
      → (HasElements r.known (topic_of_reader i) → kind ≡ unexpected_token (item_wants r.known i []) None) → pending_in i ≡ None
      → ((body : List Lexeme) (late : Refusal) → IsSeen (states_known r.known) body i → topic_of_reader i ≡ Start
      → IsLate (states_known r.known) body true late.kind late.place → ⊥) → IsRefusedAt seen place (model_faults.Item kind r.number place)
  item_not_ended i kind place (nothing n) e stuck reason kinds unheld undue = absurd (some≢none e n.item_is)
  item_not_ended i kind place (item w) e stuck reason kinds unheld undue =
      let same = same_item i e w in
      end_refused seen r kind _ w (grind (arith, has_elements, same_item))
      (rw same
      (reason _ (subst (IsSeen _ _) same w.read.seen)))
      (rw same (kinds (grind (arith, has_elements, same_item))))
      (cc)
      (λ late start. undue _ late (subst (IsSeen _ _) same w.read.seen)
      (cc))

  -- nor for the number before its end
  pub item_not_ended_before : (i : ItemReader) (kind : ItemFault) (at place : ℕ) → IsTextRead seen r
      → r.item ≡ Some i
      → (HasElements r.known (topic_of_reader i) → CannotEnd (ItemGoes r.known) i)
      → ((body : List Lexeme) → IsSeen (states_known r.known) body i → (topic_of_reader i ≡ Start) × IsStartReason body kind at
      × IsLate (states_known r.known) body true kind at)
      → ((body : List Lexeme) (late : Refusal) → IsSeen (states_known r.known) body i → topic_of_reader i ≡ Start
      → IsLate (states_known r.known) body true late.kind late.place → (kind ≡ late.kind) × (at ≡ late.place))
      → IsRefusedAt seen place (model_faults.Item kind r.number at)
  item_not_ended_before i kind at place (nothing n) e stuck reason due = absurd (some≢none e n.item_is)
  item_not_ended_before i kind at place (item w) e stuck reason due =
      let same = same_item i e w in
      let read = subst (IsSeen _ _) same w.read.seen in
      let why = reason _ read in
      end_refused_before seen r kind at place w (grind (arith, has_elements, same_item)) (cc) why.1 why.2
      (λ late start. due _ late read (cc))

  -- ---- one lexeme more

  -- before the first item
  pub not_begun : (l : Lexeme) → IsTextRead seen r → r.item ≡ None → begins_item l ≡ false
      → IsRefusedAfter (seen ++ l ∷ []) (model_faults.Item BeforeFirstItem r.number l.place)
  not_begun l (nothing n) e inside = before_refused seen r l n inside
  not_begun l (item w) e inside = absurd (some≢none w.item_is e)

  -- the open item takes it
  pub item_takes : (l : Lexeme) (old new : ItemReader) → IsTextRead seen r → r.item ≡ Some old
      → begins_item l ≡ false
      → topic_of_reader new ≡ topic_of_reader old → IsItemFed r.known old l new
      → IsTextRead (seen ++ l ∷ []) (reader_of r.known (Some new) r.number)
  item_takes l old new (nothing n) e inside same fed = absurd (some≢none e n.item_is)
  item_takes l old new (item w) e inside same fed =
      let read = subst (IsBodyRead _ w.t _) (same_item old e w) w.read in
      item (record {
        t = w.t;
        body = _;
        item = new;
        within = within_continues seen l _ w.t _ w.within inside;
        item_is = refl;
        number_is = w.number_is;
        read = item_continues _ w.t _ old new l read same fed.within fed.takes fed.formed (fed.seen _ read.seen) fed.leads;
      })

  -- it cannot
  pub item_refuses : (l : Lexeme) (i : ItemReader) (x : Refusal) → IsTextRead seen r → r.item ≡ Some i
      → begins_item l ≡ false → RefusesInItem r.known i l x
      → IsRefusedAfter (seen ++ l ∷ []) (model_faults.Item x.kind r.number x.place)
  item_refuses l i x (nothing n) e inside refuses = absurd (some≢none e n.item_is)
  item_refuses l i x (item w) e inside refuses =
      let here : RefusesInItem r.known w.item l x = rw (same_item i e w) refuses in
      feed_refused seen r l _ _ w inside here.stuck (here.reason _ w.read.seen) here.kind (here.start _ w.read.seen)
      here.formless
      (λ more ends late. here.late w.body more ends late w.read.seen)

  -- ---- an item's word

  pub item_opened : (word : Lexeme) (t : Topic) (new : ItemReader) → AreItemsRead seen r
      → topic word ≡ Some t → word_fault r.known t ≡ None
      → new ≡ new_item t → IsTextRead (seen ++ word ∷ []) (reader_of r.known (Some new) (r.number + 1))
  item_opened word t new a e free same =
      item (record {
        t = t;
        body = [];
        item = _;
        within = item_begins seen word _ t a.items e;
        item_is = cc;
        number_is = cc;
        read = item_begun _ t free;
      })

  pub item_not_opened : (word : Lexeme) (t : Topic) (kind : ItemFault) (place : ℕ) → AreItemsRead seen r
      → topic word ≡ Some t
      → word_fault r.known t ≡ Some kind → word.place ≡ place
      → IsRefusedAfter (seen ++ word ∷ []) (model_faults.Item kind (r.number + 1) place)
  item_not_opened word t kind place a e fault at = rw (← at) (word_refused seen r word t kind a e fault)

-- a refusal where an item ends, at the next item's word
pub refused_at_word : (seen : List Lexeme) (word : Lexeme) (t : Topic) (fault : ModelFault) → topic word ≡ Some t
    → IsRefusedAt seen word.place fault → IsRefusedAfter (seen ++ word ∷ []) fault
refused_at_word seen word t fault e refused text ts further tokens same =
    refused text ts tokens (at_word word _ (same ∙ append_assoc seen _ _) (begins word t e) refl)

-- and at the end
pub refused_at_end : (seen : List Lexeme) (place : ℕ) (fault : ModelFault) → IsRefusedAt seen place fault → IsRefusedWhole seen place fault
refused_at_end seen place fault refused text ts tokens same clean stop = refused text ts tokens (at_end same clean (sym stop))

pub whole_refused : (seen : List Lexeme) (r : TextReader) (kind : ItemFault) (place : ℕ) → AreItemsRead seen r
    → preamble_fault r.known ≡ Some kind
    → IsRefusedWhole seen place (model_faults.Item kind (r.number + 1) place)
whole_refused seen r kind place a fault text ts tokens same clean stop =
    rw (← stop) (text_end_refused seen r kind a fault text ts tokens same clean)

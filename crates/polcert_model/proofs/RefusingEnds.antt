-- What the reader of a text refuses outside of a body: before the first item, at an item's word, at the end, and where
-- the tokens end in a fault.
use Rattle.std.proofs.Common.{◌≡◌, ◌∙◌, ℕ, ◌+◌, inl, Bool, true, false, Option, Some, None, List, [], ◌∷◌, ◌++◌, refl, sym}
use Rattle.std.proofs.Common.{ap, subst, arith}
use Rattle.std.proofs.lemmas.List.{append-nil}
use Rattle.polcert_model.proofs.Common.{Lexeme, TokenFault, ItemFault, BadShape, BeforeFirstItem, TooManyCells, Refusal, TextReader}
use Rattle.polcert_model.proofs.Common.{pending_in, Topic, topic, begins_item, Item, IsDivided, ModelSoFar, preamble_fault}
use Rattle.polcert_model.proofs.Common.{word_fault, TextTokens, AreTokensOf, IsDecided, wrong_last, IsReason}
use Rattle.polcert_model.proofs.Common.{IsPossible}
use Rattle.polcert_model.proofs.Common.{IsItemRead, IsTextRead, AreItemsRead, IsRefusedAfter, Refuses, pending_at, tokens_end}
use Rattle.polcert_text.specs.Reading.{fault_place}
use Rattle.polcert_format.specs.declared.fault.ItemFault.TheVariants.{DuplicateLine, LateLine, MissingLine}
use Rattle.polcert_format.specs.declared.fault.ModelFault.TheVariants as model_faults
use Rattle.polcert_format.specs.Order.{ends_preamble}
use Rattle.polcert_format.proofs.FirstNumbers.{late_undecided}
use Rattle.polcert_format.specs.FirstWrong.{wrong_front, wrong_fault, wrong_end, before_items, at_word, at_end}
use Rattle.polcert_format.specs.Refusals.{IsItemRefusal, IsLastTaken, before_body, of_tokens}
use Rattle.polcert_format.specs.Refusals as refusals
use Rattle.polcert_model.specs.Steps.Texts.{IsNothingRead, fault_kind}
use Rattle.polcert_model.specs.Steps.Texts as texts
use Rattle.polcert_cells.proofs.Basics.{one_some, or_false_from, cons≢nil, some≢none}
use Rattle.polcert_format.proofs.ItemLaws.{has_division, one_division}
use Rattle.polcert_format.proofs.Dividing.{append_division, empty_division}
use Rattle.polcert_format.proofs.OrderLaws.{wrong_at_word, not_complete, fault_at}
use Rattle.polcert_format.proofs.PlaceLaws.{tokens_rise, fault_rises, lies_at_word, lies_before_items, lies_at_end, lies_at_fault}
use Rattle.polcert_format.proofs.PlaceLaws.{lies_at_once}
use Rattle.polcert_format.proofs.DecidedLaws.{one_decided}
use Rattle.polcert_format.proofs.BegunItems.{item_begins}
use Rattle.polcert_model.proofs.Refusing.{Here, here, first_here, free_here, due_at_fault, pending_refused, none≢some}
use Rattle.polcert_format.proofs.ReadLaws.{no_empty}

-- ---- before the first item

pub before_refused : (seen : List Lexeme) (r : TextReader) (l : Lexeme) → IsNothingRead seen r → begins_item l ≡ false
    → IsRefusedAfter (seen ++ l ∷ []) (model_faults.Item BeforeFirstItem r.number l.place)
before_refused seen r l w inner text ts further tokens e =
    let d = has_division further in
    let whole = e ∙ ap (λ (s : List _). (s ++ l ∷ []) ++ further) w.nothing in
    let divided : IsDivided ts.lexemes (l ∷ d.0) d.1 = rw whole
    (append_division (l ∷ []) further d.0 d.1 (or_false_from (begins_item l) false inner refl) d.2) in
    let decided : IsDecided ts r.number BeforeFirstItem l.place = before_items l d.0 d.1 divided w.number_is refl refl in
    record {
      refusal = record {
        first_wrong = wrong_front l d.0 d.1 divided w.number_is;
        lies = rw w.number_is (lies_before_items ts l d.0 d.1 (tokens_rise text ts tokens) divided);
        reason = decided;
        decided = λ fault at x. one_decided ts _ BeforeFirstItem _ _ at decided x;
      };
      placed = record { stands = before_body decided; late = λ fault at x. absurd (late_undecided ts _ fault _ at _ x decided) };
    }

-- ---- what is decided before a body

-- the reasons that are decided there
abbrev IsOrderFault : ItemFault → Type 0
IsOrderFault BadShape = Unit {0}
IsOrderFault DuplicateLine = Unit {0}
IsOrderFault LateLine = Unit {0}
IsOrderFault MissingLine = Unit {0}
IsOrderFault TooManyCells = Unit {0}
IsOrderFault _ = ⊥

order_reason : (ts : TextTokens) (n place : ℕ) (kind : ItemFault) → IsOrderFault kind → IsDecided ts n kind place → IsReason ts n place kind
order_reason ts n place BadShape o d = tt
order_reason ts n place DuplicateLine o d = d
order_reason ts n place LateLine o d = d
order_reason ts n place MissingLine o d = d
order_reason ts n place TooManyCells o d = inl d
order_reason ts n place _ o d = absurd o

preamble_order : (k : ModelSoFar) (kind : ItemFault) → preamble_fault k ≡ Some kind → IsOrderFault kind
preamble_order k kind e = grind (arith, one_some, none≢some)

fault_order : (late came ends : Bool) (fault : Option ItemFault) (kind : ItemFault) → ((f : ItemFault) → fault ≡ Some f → IsOrderFault f)
    → fault_at late came ends fault ≡ Some kind → IsOrderFault kind
fault_order true came ends fault kind following e = subst IsOrderFault (one_some refl e) tt
fault_order false true ends fault kind following e = subst IsOrderFault (one_some refl e) tt
fault_order false false true fault kind following e = following kind e
fault_order false false false fault kind following e = absurd (none≢some e)

word_order : (k : ModelSoFar) (t : Topic) (kind : ItemFault) → word_fault k t ≡ Some kind → IsOrderFault kind
word_order k t kind e = fault_order _ _ (ends_preamble t) _ kind (λ f e. grind (arith, one_some, none≢some)) e

pub word_refused : (seen : List Lexeme) (r : TextReader) (word : Lexeme) (t : Topic) (kind : ItemFault) → AreItemsRead seen r
    → topic word ≡ Some t
    → word_fault r.known t ≡ Some kind → IsRefusedAfter (seen ++ word ∷ []) (model_faults.Item kind (r.number + 1) word.place)
word_refused seen r word t kind w is wrong text ts further tokens e =
    let d = has_division _ in
    let more = d.0 in
    let h =
    here ts _ _ [] further more _ t d.1 (item_begins seen word _ t w.items is) e
    (cc) d.2 in
    let decided =
    at_word _ _ _ _ t h.divided h.taken h.topic_is wrong h.number_is refl in
    record {
      refusal = record {
        first_wrong = first_here h (wrong_at_word _ t kind more wrong);
        lies = rw h.number_is (lies_at_word ts _ _ _ (tokens_rise text ts tokens) h.divided);
        reason = order_reason ts _ _ kind (word_order _ t kind wrong) decided;
        decided = λ fault at x. one_decided ts _ kind _ _ at decided x;
      };
      placed = record { stands = before_body decided; late = λ fault at x. absurd (late_undecided ts _ _ _ at _ x decided) };
    }

pub text_end_refused : (seen : List Lexeme) (r : TextReader) (kind : ItemFault) → AreItemsRead seen r → preamble_fault r.known ≡ Some kind
    → (text : List ℕ) (ts : TextTokens) → AreTokensOf text ts → ts.lexemes ≡ seen → ts.ending ≡ None
    → Refuses ts (model_faults.Item kind (r.number + 1) ts.end)
text_end_refused seen r kind w wrong text ts tokens e clean =
    let items = w.items.items in
    let divided = subst (λ ls. IsDivided ls [] items) (sym e) w.items.divided in
    let number = ap (λ n. n + 1) w.number_is in
    let decided = at_end items _ divided w.items.right clean wrong number refl in
    record {
      refusal = record {
        first_wrong = wrong_end _ r.known divided w.items.right clean (λ p. not_complete r.known p kind wrong) number;
        lies = rw number (lies_at_end ts items divided);
        reason = order_reason ts _ _ kind (preamble_order r.known kind wrong) decided;
        decided = λ fault at x. one_decided ts (r.number + 1) kind _ _ at decided x;
      };
      placed = record { stands = before_body decided; late = λ fault at x. absurd (late_undecided ts _ fault _ at _ x decided) };
    }

-- ---- a fault of the tokens

at_once : (seen : List Lexeme) (r : TextReader) (f : TokenFault) → IsNothingRead seen r → (text : List ℕ) (ts : TextTokens)
    → AreTokensOf text ts → ts.lexemes ≡ seen
    → ts.ending ≡ Some f → IsItemRefusal ts (fault_kind f) r.number (fault_place f)
at_once seen r f w text ts tokens e ending =
    let empty = e ∙ w.nothing in
    record {
      first_wrong = wrong_fault f empty ending w.number_is;
      lies = rw w.number_is (lies_at_once ts _ (fault_rises text ts f tokens ending).1 empty);
      reason = grind arith;
      decided = λ fault at x. absurd (grind (arith, cons≢nil, some≢none, one_division, empty_division, no_empty));
    }

in_item : (seen : List Lexeme) (r : TextReader) (f : TokenFault) → IsItemRead seen r → (text : List ℕ) (ts : TextTokens)
    → AreTokensOf text ts → ts.lexemes ≡ seen
    → ts.ending ≡ Some f → IsItemRefusal ts (fault_kind f) r.number (fault_place f)
in_item seen r f w text ts tokens e ending =
    let h =
    here ts _ seen _ [] [] r.known w.t [] w.within (e ∙ sym (append-nil seen)) w.number_is empty_division in
    let rises = fault_rises text ts f tokens ending in
    record {
      first_wrong = wrong_last _ _ _ f h.divided h.taken ending h.number_is;
      lies = rw h.number_is (lies_at_fault ts _ _ _ rises.0 rises.1 h.divided);
      reason = grind arith;
      decided = λ fault at x. absurd (free_here h w.read.may_stand _ at x);
    }

last_taken : (seen : List Lexeme) (r : TextReader) (w : IsItemRead seen r) (ts : TextTokens) → ts.lexemes ≡ seen → pending_in w.item ≡ None
    → IsLastTaken ts r.number
last_taken seen r w ts e unheld =
    let h =
    here ts _ seen _ [] [] r.known w.t [] w.within (e ∙ sym (append-nil seen)) w.number_is empty_division in
    record {
      before = _;
      item = _;
      divided = h.divided;
      number_is = h.number_is;
      k = _;
      t = w.t;
      known = h.taken;
      topic_is = h.topic_is;
      possible = subst (IsPossible _ w.t) (sym (append-nil _)) (w.read.possible unheld);
    }

pub fault_refused : (seen : List Lexeme) (r : TextReader) (f : TokenFault) → IsTextRead seen r → (text : List ℕ) (ts : TextTokens)
    → AreTokensOf text ts → ts.lexemes ≡ seen
    → ts.ending ≡ Some f → Refuses ts (tokens_end r.number (pending_at r.item) f)
fault_refused seen r f (texts.nothing w) text ts tokens e ending =
    rw w.item_is (record {
      refusal = at_once seen r f w text ts tokens e ending;
      placed = record {
        stands = of_tokens (grind arith) (refusals.at_once (e ∙ w.nothing));
        late = λ fault at x. absurd (grind (arith, one_division, empty_division, no_empty));
      };
    })
fault_refused seen r f (texts.item w) text ts tokens e ending = rw w.item_is (of_pending _ refl)
  where
    h : Here ts r.number r.known w.t (w.body ++ [])
    h = here ts _ seen _ [] [] r.known w.t [] w.within (e ∙ sym (append-nil seen)) w.number_is empty_division

    of_pending : (o : Option Refusal) → pending_in w.item ≡ o → Refuses ts (tokens_end r.number o f)
    of_pending None none = record {
      refusal = in_item seen r f w text ts tokens e ending;
      placed = record {
        stands = of_tokens (grind arith) (refusals.in_item (last_taken seen r w ts e none));
        late = λ fault at x. absurd (none≢some (sym none ∙ due_at_fault ts _ _ w.t _ _ f _ at h refl ending w.read.topic_is w.read.seen x));
      };
    }
    of_pending (Some x) some = pending_refused seen r f x w some text ts tokens e ending

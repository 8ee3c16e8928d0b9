-- What the reader of a text refuses within an item: each refusal is of the first wrong item, lies in it, and has its
-- reason.
use Rattle.std.proofs.Common.{◌≡◌, ◌∙◌, ℕ, ◌+◌, inr, true, false, Bool, Option, Some, None, List, [], ◌∷◌, ◌++◌, length, refl, sym, ap}
use Rattle.std.proofs.Common.{subst, arith, rules}
use Rattle.std.proofs.lemmas.List.{append_assoc, append-nil}
use Rattle.polcert_model.proofs.Common.{Lexeme, TokenFault, ItemFault, BadShape, TooManyCells, ItemReader, Refusal, Sign, TextReader, Topic}
use Rattle.polcert_model.proofs.Common.{Start, topic, begins_item, Item, IsDivided, ModelSoFar, nothing_known, AreRight}
use Rattle.polcert_model.proofs.Common.{word_fault, HasForm, IsPossible, PassesCellLimit, TextTokens, AreTokensOf, LiesInItem, IsDecided}
use Rattle.polcert_model.proofs.Common.{wrong_last, IsReason, CannotEnd, IsStartReason, IsLate, IsLateIn, states_known, ItemGoes, ItemForms}
use Rattle.polcert_model.proofs.Common.{topic_of_reader, pending_in, IsSeen, IsEndReason, unexpected_token, expected, item_wants, IfStart}
use Rattle.polcert_model.proofs.Common.{IsItemRead, IsRefusedAfter, IsRefusedAt, Refuses}
use Rattle.polcert_text.specs.declared.tokens.TokenKind.TheVariants.{Numeral}
use Rattle.polcert_format.specs.declared.fault.ItemFault.TheVariants.{Number, BadCount, DuplicateName, UnknownName, IndexOutOfRange}
use Rattle.polcert_format.specs.declared.fault.ItemFault.TheVariants.{WrongNumberCount, ProbabilityRange, DiscountRange, Reset}
use Rattle.polcert_format.specs.declared.fault.ModelFault.TheVariants as model_faults
use Rattle.polcert_items.specs.declared.item.ItemReader.TheVariants as items
use Rattle.polcert_format.specs.Forms.{HasNoForm}
use Rattle.polcert_format.specs.Reading.{IsWithinItem, IsWrong, CannotGoOn}
use Rattle.polcert_format.specs.FirstWrong.{IsFirstWrong, word_place, wrong_item}
use Rattle.polcert_format.specs.Reasons.{PassesLimit, InItem, StandsIn, NumberStandsIn}
use Rattle.polcert_format.specs.Reasons as reasons
use Rattle.polcert_format.specs.Refusals.{place_or, Stops, StopsInBody, in_body, after_body, of_first_number}
use Rattle.polcert_format.specs.Refusals as refusals
use Rattle.polcert_items.specs.Steps.Numbers.{is_minus_sign, signed_place, IsSignAt, SignEnds}
use Rattle.polcert_items.specs.Steps.Numbers as steps
use Rattle.polcert_items.specs.Steps.Lines.{CannotTake}
use Rattle.polcert_items.specs.Steps.Start.{IsReasonIn, StopsStart, first_number, token}
use Rattle.polcert_format.specs.FirstNumber.{ends_cleanly}
use Rattle.polcert_format.proofs.FirstNumbers.{late_here}
use Rattle.polcert_items.proofs.FirstNumberLaws.{late_at_fault, pending_is_late}
use Rattle.polcert_items.proofs.FormLaws.{nothing_pending, forms_stuck}
use Rattle.polcert_items.specs.Steps.Items.{sign_in, IsTokenReason, IsItemReason}
use Rattle.polcert_items.specs.Steps.Items as steps_of
use Rattle.polcert_format.specs.Misfits.{IsOfValue, IsMisfit}
use Rattle.polcert_items.specs.Steps.Wants.{IfNotStart}
use Rattle.polcert_model.specs.Steps.Texts.{EndsItem}
use Rattle.polcert_model.specs.Steps.Texts as texts
use Rattle.polcert_cells.proofs.Basics.{one_some, cons≢nil}
use Rattle.polcert_format.proofs.ItemLaws.{has_division}
use Rattle.polcert_format.proofs.Dividing.{next_division, empty_division}
use Rattle.polcert_format.proofs.ReadLaws.{within_division}
use Rattle.polcert_format.proofs.PlaceLaws.{Rises, tokens_rise, lies_in_item}
use Rattle.polcert_format.proofs.DecidedLaws.{nothing_decided}
use Rattle.polcert_format.proofs.StillPossible.{possible_front}
use Rattle.polcert_format.proofs.CellLimits.{too_much_wrong}
use Rattle.polcert_format.proofs.BegunItems.{within_continues}
use Rattle.polcert_items.proofs.StartSeen.{pending_reason}
use Rattle.polcert_model.proofs.Shaped.{right_shaped, too_much_shaped}

pub none≢some : {A : Type 0} {x : A} → None ≡ Some x → ⊥
none≢some e = cc

-- an item of the text with this number, topic and body, after right ones
pub record Here (ts : TextTokens) (n : ℕ) (k : ModelSoFar) (t : Topic) (body : List Lexeme) : Type 0 where
  pub before : List Item
  pub word : Lexeme
  pub after : List Item
  pub divided : IsDivided ts.lexemes [] (before ++ (record { word = word; body = body }) ∷ after)
  pub taken : AreRight nothing_known before k
  pub topic_is : topic word ≡ Some t
  pub number_is : n ≡ length before + 1

-- the item that was begun, with what follows of its body and what follows it
abbrev pub here : (ts : TextTokens) (n : ℕ) (seen body tail f : List Lexeme) (k : ModelSoFar) (t : Topic) (ys : List Item)
    (w : IsWithinItem seen k t body)
    → ts.lexemes ≡ seen ++ tail → n ≡ length w.items.items + 1 → IsDivided tail f ys → Here ts n k t (body ++ f)
here ts n seen body tail f k t ys w e number d = record {
  before = w.items.items;
  word = w.word;
  after = ys;
  divided = subst (λ ls. IsDivided ls [] (w.items.items ++ (record { word = w.word; body = body ++ f }) ∷ ys)) (sym e)
      (within_division seen body tail f k t ys w d);
  taken = w.items.right;
  topic_is = w.topic_is;
  number_is = number;
}

module _ {ts : TextTokens} {n : ℕ} {k : ModelSoFar} {t : Topic} {body : List Lexeme} (h : Here ts n k t body) where
  -- it is the first wrong item
  pub first_here : IsWrong k t body → IsFirstWrong ts n
  first_here wrong = wrong_item _ _ _ k h.divided h.taken (λ u e. rw (← one_some h.topic_is e) wrong) h.number_is

  -- a place in its body lies in it
  lies_here : (place : ℕ) (taken rest : List Lexeme) → Rises 0 ts.lexemes ts.end → body ≡ taken ++ rest
      → place ≡ place_or rest (word_place h.after ts.end 0) → LiesInItem ts n place
  lies_here place taken rest rises e at = grind (arith, lies_in_item)

  -- this is so of its body
  so_here : {Is : Topic → List Lexeme → Type 0} → Is t body → InItem ts n Is
  so_here so = grind arith

  -- nothing is decided where its word may stand
  pub free_here : word_fault k t ≡ None → (fault : ItemFault) (at : ℕ) → IsDecided ts n fault at → ⊥
  free_here free fault at d =
      nothing_decided ts _ _ _ k t fault at h.divided h.taken h.topic_is free
      (rw (← h.number_is) d)

  -- a part of the body was taken, and there it stops
  stops_here : (kind : ItemFault) (place : ℕ) (taken rest : List Lexeme) → body ≡ taken ++ rest → IsPossible k t taken
      → Stops k t kind taken rest
      → place ≡ place_or rest (word_place h.after ts.end 0) → (rest ≡ [] → h.after ≡ [] → ts.ending ≡ None) → StopsInBody ts kind n place
  stops_here kind place taken rest whole possible stops at clean = grind arith

  late_of : (kind : ItemFault) (place : ℕ) → IsLateIn ts n kind place → (t ≡ Start)
      × IsLate (states_known k) body (ends_cleanly h.after ts.ending) kind place
  late_of kind place w = late_here ts n kind _ _ _ _ k t h.divided h.taken h.topic_is h.number_is w

  -- a refusal in a start item, at some lexeme of its body
  start_lies : (place : ℕ) → Rises 0 ts.lexemes ts.end → StandsIn body place (λ l. Unit {0}) → LiesInItem ts n place
  start_lies place rises s = lies_here _ s.before _ rises s.whole s.place_is

-- ---- where a number stands in the body

signed_whole : (body before more : List Lexeme) (s l : Lexeme) → body ≡ before ++ s ∷ [] → (body ++ l ∷ []) ++ more ≡ before ++ s ∷ l ∷ more
signed_whole body before more s l e = append_assoc body _ more ∙ ap (λ (b : List _). b ++ l ∷ more) e ∙ append_assoc before _ _

sign_place : (sign : Sign) (s : Lexeme) → IsSignAt sign s → sign.place ≡ s.place
sign_place sign s h1 = grind arith

signed_stands : (sign : Sign) (body before more : List Lexeme) (s l : Lexeme) (place : ℕ) (Is : Bool → Lexeme → Type 0)
    → body ≡ before ++ s ∷ [] → IsSignAt sign s
    → place ≡ sign.place → Is sign.negative l → NumberStandsIn ((body ++ l ∷ []) ++ more) place Is
signed_stands sign body before more s l place Is e (steps.plus kind negative at) p so =
    reasons.plus _ s l more (signed_whole body _ more s l e) kind (p ∙ at) (rw (← negative) so)
signed_stands sign body before more s l place Is e (steps.minus kind negative at) p so =
    reasons.minus _ s l more (signed_whole body _ more s l e) kind (p ∙ at) (rw (← negative) so)

number_stands : (sign : Option Sign) (body more : List Lexeme) (l : Lexeme) (place : ℕ) (Is : Bool → Lexeme → Type 0) → SignEnds sign body
    → place ≡ signed_place sign l
    → Is (is_minus_sign sign) l → NumberStandsIn ((body ++ l ∷ []) ++ more) place Is
number_stands None body more l place Is ends p so = reasons.unsigned body l more (append_assoc body _ more) ends p so
number_stands (Some sign) body more l place Is ends p so = signed_stands sign body _ more _ l _ Is ends.1.1.0 ends.1.1.1 p so

-- ---- a token that is refused

-- the place and the reason of a refusal at the lexeme after the body, or at the sign before it
record Refused (ts : TextTokens) (n place : ℕ) (kind : ItemFault) : Type 0 where
  lies : LiesInItem ts n place
  reason : IsReason ts n place kind
  stops : StopsInBody ts kind n place

stands : (body more : List Lexeme) (l : Lexeme) (place : ℕ) (Is : Lexeme → Type 0) → place ≡ l.place → Is l
    → reasons.StandsIn ((body ++ l ∷ []) ++ more) place Is
stands body more l place Is p so = record {
  before = body;
  lexeme = l;
  after = more;
  whole = append_assoc body _ more;
  place_is = p;
  holds = so;
}

-- the next lexeme is this one, of a body that was possible so far, and isn't with it
module _ {ts : TextTokens} {n : ℕ} (place : ℕ) {k : ModelSoFar} {t : Topic} (sign : Option Sign) (body more : List Lexeme) (l : Lexeme)
    (h : Here ts n k t ((body ++ l ∷ []) ++ more)) (rises : Rises 0 ts.lexemes ts.end) (ends : SignEnds sign body)
    (taken : IsPossible k t body)
    (stuck : HasNoForm k t (body ++ l ∷ [])) where
  number_lies : (s : Option Sign) → SignEnds s body → place ≡ signed_place s l → LiesInItem ts n place
  number_lies None ends p = lies_here h _ body (l ∷ more) rises (append_assoc body _ more) p
  number_lies (Some s) ends p =
      lies_here h _ ends.0 _ rises (signed_whole body _ more ends.1.0 l ends.1.1.0)
      (p ∙ sign_place s _ ends.1.1.1)

  number_stops : (kind : ItemFault) (s : Option Sign) → SignEnds s body → place ≡ signed_place s l → l.kind ≡ Numeral → IsOfValue kind
      → IsMisfit (expected k t body) l kind
      → StopsInBody ts kind n place
  number_stops kind None ends p numeral value unfit =
      stops_here h kind _ body (l ∷ more) (append_assoc body _ more) taken (refusals.at_lexeme stuck unfit) p
      (λ none. absurd (cons≢nil none))
  number_stops kind (Some g) ends p numeral value unfit =
      let before = ends.0 in
      let s = ends.1.0 in
      let whole = ends.1.1.0 in
      let signed = subst (IsPossible k t) whole taken in
      let front : IsPossible k t before = possible_front k t _ _ signed in
      let pair : HasNoForm k t (before ++ s ∷ l ∷ []) = subst (HasNoForm k t)
      (ap (λ (b : List _). b ++ l ∷ []) whole ∙ append_assoc _ (s ∷ []) _) stuck in
      let following = subst (λ b. IsMisfit (expected k t b) l kind) whole unfit in
      stops_here h kind _ _ (s ∷ l ∷ more) (signed_whole body _ more s l whole) front
      (refusals.at_number (grind arith) numeral signed pair value following) (p ∙ sign_place g s ends.1.1.1)
      (λ none. absurd (cons≢nil none))

  at_number : (kind : ItemFault) → IsOfValue kind → IsMisfit (expected k t body) l kind → l.kind ≡ Numeral → place ≡ signed_place sign l
      → IsReason ts n place kind → Refused ts n place kind
  at_number kind value unfit numeral p reason = search (rules, number_lies, number_stops)

  at_lexeme : (kind : ItemFault) → IsMisfit (expected k t body) l kind → place ≡ l.place → IsReason ts n place kind
      → Refused ts n place kind
  at_lexeme kind unfit p reason = record {
    lies = lies_here h _ body _ rises (append_assoc body _ more) p;
    reason = reason;
    stops = stops_here h kind _ body _ (append_assoc body _ more) taken (refusals.at_lexeme stuck unfit) p (λ none. absurd (cons≢nil none));
  }

  refused_here : (kind : ItemFault) → IsMisfit (expected k t body) l kind → IsTokenReason t sign body l kind place → Refused ts n place kind
  refused_here (Number fault) unfit m = search (rules, number_stands, at_number)
  refused_here DiscountRange unfit m = search (rules, number_stands, at_number)
  refused_here ProbabilityRange unfit m = search (rules, number_stands, at_number)
  refused_here Reset unfit m = at_lexeme _ unfit m.0 (so_here h (stands body more l _ _ m.0 m.1))
  refused_here DuplicateName unfit m =
      at_lexeme _ unfit m.0 (so_here h (
        m.1,
        rw ((append_assoc body (l ∷ []) more)) (m.2 more),
      ))
  refused_here UnknownName unfit m = at_lexeme _ unfit m.0 (so_here h (stands body more l _ _ m.0 m.1))
  refused_here IndexOutOfRange unfit m = at_lexeme _ unfit m.0 (so_here h (stands body more l _ _ m.0 m.1))
  refused_here BadCount unfit m = at_lexeme _ unfit m.0 (grind arith)
  refused_here BadShape unfit m = at_lexeme _ unfit m tt
  refused_here WrongNumberCount unfit m = at_lexeme _ unfit m tt
  refused_here _ unfit m = absurd m

-- the item doesn't continue with the lexeme
stuck : (seen : List Lexeme) (r : TextReader) (w : IsItemRead seen r) (l : Lexeme) → CannotTake (ItemGoes r.known) w.item l
    → CannotGoOn r.known w.t (w.body ++ l ∷ [])
stuck seen r w l none more after taken =
    none more after (w.read.on _ _ (right_shaped _ w.t _ _
    (rw (← append_assoc w.body (l ∷ []) more) taken)))

-- and hasn't even the form of one with it
without_form : (seen : List Lexeme) (r : TextReader) (w : IsItemRead seen r) (l : Lexeme) → CannotTake (ItemGoes r.known) w.item l
    → IfStart (topic_of_reader w.item) (CannotTake (ItemForms r.known) w.item l) → HasNoForm r.known w.t (w.body ++ l ∷ [])
without_form seen r w l none formless more f =
    forms_stuck _ _ l none formless more tt (w.read.forms _
    (subst (HasForm _ w.t) (append_assoc _ _ more) f))

number_further : (body more : List Lexeme) (place : ℕ) (Is : Bool → Lexeme → Type 0) → NumberStandsIn body place Is
    → NumberStandsIn (body ++ more) place Is
number_further body more place Is (reasons.unsigned before l after e free p so) =
    reasons.unsigned _ l (after ++ more) (ap (λ (b : List _). b ++ more) e ∙ append_assoc before _ more) free p so
number_further body more place Is (reasons.plus before s l after e kind p so) =
    reasons.plus before s l _ (ap (λ (b : List Lexeme). b ++ more) e ∙ append_assoc _ (s ∷ l ∷ after) more) kind p so
number_further body more place Is (reasons.minus before s l after e kind p so) =
    reasons.minus _ s l (after ++ more) (ap (λ (b : List _). b ++ more) e ∙ append_assoc before _ more) kind p so

-- why a start item is refused at some lexeme of its body
module _ {ts : TextTokens} {n : ℕ} (place : ℕ) {k : ModelSoFar} {t : Topic} (body more : List Lexeme) (h : Here ts n k t (body ++ more))
    (e : t ≡ Start) where
  start_reason : (kind : ItemFault) → IsReasonIn body kind place → IsReason ts n place kind
  start_reason (Number fault) m = so_here h (number_further body more _ _ m)
  start_reason ProbabilityRange m = so_here h (cc, number_further body more _ _ m)
  start_reason Reset m = so_here h (grind (arith, append_assoc))
  start_reason UnknownName m = so_here h (grind (arith, append_assoc))
  start_reason IndexOutOfRange m = so_here h (grind (arith, append_assoc))
  start_reason WrongNumberCount m = tt
  start_reason BadShape m = tt
  start_reason _ m = absurd m

-- ---- the first number of a start item

-- what is due of the first number is this refusal
abbrev IsWhatIsDue : TextTokens → ℕ → ItemFault → ℕ → Type 0
IsWhatIsDue ts n kind place = (fault : ItemFault) (at : ℕ) → IsLateIn ts n fault at → (kind ≡ fault) × (place ≡ at)

start_refused : {text : List ℕ} {ts : TextTokens} {n : ℕ} (place : ℕ) {k : ModelSoFar} {t : Topic} (body more : List Lexeme)
    (kind : ItemFault) → AreTokensOf text ts
    → (h : Here ts n k t (body ++ more)) → word_fault k t ≡ None → IsFirstWrong ts n → t ≡ Start → IsStartReason body kind place
    → IsLate (states_known k) (body ++ more) (ends_cleanly h.after ts.ending) kind place → IsWhatIsDue ts n kind place
    → Refuses ts (model_faults.Item kind n place)
start_refused {text} {ts} place body more kind tokens h free wrong e r late due = record {
  refusal = record {
    first_wrong = wrong;
    lies = start_lies h _ (tokens_rise text ts tokens) (grind (arith, append_assoc));
    reason = start_reason _ body more h e kind r.reason;
    decided = λ fault at x. absurd (free_here h free _ at x);
  };
  placed = record { stands = of_first_number (grind arith); late = due };
}

-- an item that ends in a fault of the tokens doesn't end cleanly
fault_ends : (ending : Option TokenFault) (f : TokenFault) → ending ≡ Some f → ends_cleanly [] ending ≡ false
fault_ends ending f e = ap (ends_cleanly []) e

-- at a fault of the tokens, what is due of an item's first number is what waits for more
pub due_at_fault : (ts : TextTokens) (n : ℕ) (k : ModelSoFar) (t : Topic) (body : List Lexeme) (item : ItemReader) (f : TokenFault)
    (kind : ItemFault) (place : ℕ) (h : Here ts n k t (body ++ [])) → h.after ≡ [] → ts.ending ≡ Some f
    → topic_of_reader item ≡ t → IsSeen (states_known k) body item → IsLateIn ts n kind place
    → pending_in item ≡ Some (record { kind = kind; place = place })
due_at_fault ts n k t body item f kind place h last ending topics seen w =
    let found = late_of h kind _ w in
    let clean = ap (λ items. ends_cleanly items ts.ending) last ∙ fault_ends ts.ending f ending in
    let late : IsLate (states_known k) body false kind place =
    rw (← clean)
    (rw (← append-nil body) found.1) in
    of item (cc) seen late
  where
    of : (i : ItemReader) → topic_of_reader i ≡ Start → IsSeen (states_known k) body i → IsLate (states_known k) body false kind place
        → pending_in i ≡ Some (record { kind = kind; place = place })
    of (items.Start r) e s late = late_at_fault _ body r kind _ s late
    of _ e s late = absurd (cc)

-- a start item in which the tokens end in a fault after a number without a value
pub pending_refused : (seen : List Lexeme) (r : TextReader) (f : TokenFault) (x : Refusal) → (w : IsItemRead seen r)
    → pending_in w.item ≡ Some x
    → (text : List ℕ) (ts : TextTokens) → AreTokensOf text ts → ts.lexemes ≡ seen → ts.ending ≡ Some f
    → Refuses ts (model_faults.Item x.kind r.number x.place)
pending_refused seen r f x w e text ts tokens same ending =
    let why = pending_why _ w.body _ x w.read.seen e in
    let h =
    here ts r.number seen _ [] [] r.known w.t [] w.within (same ∙ sym (append-nil seen)) w.number_is empty_division in
    let late =
    subst (λ b. IsLate (states_known r.known) (w.body ++ []) b x.kind x.place) (sym (fault_ends ts.ending f ending))
    (rw (append-nil w.body) why.2) in
    start_refused _ w.body [] x.kind tokens h w.read.may_stand
    (wrong_last _ _ r.known f h.divided h.taken ending h.number_is) (cc) why.1 late
    (λ fault at is. same_refusal x _ at (sym e ∙ due_at_fault ts r.number _ w.t _ w.item f _ at h refl ending
    w.read.topic_is w.read.seen is))
  where
    same_refusal : (x : Refusal) (fault : ItemFault) (at : ℕ) → Some x ≡ Some (record { kind = fault; place = at }) → (x.kind ≡ fault)
        × (x.place ≡ at)
    same_refusal x fault at q = (cc, ap (λ (y : Refusal). y.place) (one_some refl q))

    pending_why : (count : ℕ) (body : List Lexeme) (item : ItemReader) (x : Refusal) → IsSeen count body item → pending_in item ≡ Some x
        → (topic_of_reader item ≡ Start) × IsStartReason body x.kind x.place × IsLate count body false x.kind x.place
    pending_why count body (items.Start s) x seen e = (refl, pending_reason _ body s x seen e, pending_is_late _ body s x seen e)
    pending_why count body _ x seen e = absurd (none≢some e)

-- the sign that waits for its numeral ends the body
pub seen_sign : (count : ℕ) (body : List Lexeme) (item : ItemReader) → (topic_of_reader item ≡ Start → ⊥) → IsSeen count body item
    → SignEnds (sign_in item) body
seen_sign count body item h1 h2 = grind arith

wants_here : (k : ModelSoFar) (t : Topic) (body : List Lexeme) (item : ItemReader)
    → ((ls : List Lexeme) → expected k t (body ++ ls) ≡ item_wants k item ls) → item_wants k item [] ≡ expected k t body
wants_here k t body item wants = sym (ap (expected k t) (sym (append-nil body)) ∙ wants [])

here_unfit : (k : ModelSoFar) (t : Topic) (body : List Lexeme) (item : ItemReader) → (t ≡ Start → ⊥)
    → ((ls : List Lexeme) → expected k t (body ++ ls) ≡ item_wants k item ls)
    → (l : Lexeme) (kind : ItemFault) → IfNotStart t (IsMisfit (item_wants k item []) l kind) → IsMisfit (expected k t body) l kind
here_unfit k t body item other wants l kind unfit = rw (← wants_here k t body item wants) (grind arith)

pub feed_refused : (seen : List Lexeme) (r : TextReader) (l : Lexeme) (kind : ItemFault) (place : ℕ) (w : IsItemRead seen r)
    → begins_item l ≡ false
    → CannotTake (ItemGoes r.known) w.item l → IsItemReason w.item w.body l kind place
    → IfNotStart (topic_of_reader w.item) (IsMisfit (item_wants r.known w.item []) l kind)
    → IfStart (topic_of_reader w.item) (StopsStart (pending_in w.item) (states_known r.known) w.body (item_wants r.known w.item []) l kind
    place)
    → IfStart (topic_of_reader w.item) (CannotTake (ItemForms r.known) w.item l)
    → ((more : List Lexeme) (ends : Bool) (late : Refusal) → topic_of_reader w.item ≡ Start
    → IsLate (states_known r.known) (w.body ++ l ∷ more) ends late.kind late.place → (kind ≡ late.kind) × (place ≡ late.place))
    → IsRefusedAfter (seen ++ l ∷ []) (model_faults.Item kind r.number place)
feed_refused seen r l kind place w inner none reason unfit stops formless due text ts further tokens e =
    let d = has_division _ in
    let more = d.0 in
    let following = within_continues seen l _ w.t _ w.within inner in
    let h =
    here ts _ _ _ _ more r.known w.t d.1 following e w.number_is d.2 in
    at reason more h
  where
    -- what is due of a start item's first number is this
    is_due : (more : List Lexeme) (h : Here ts r.number r.known w.t ((w.body ++ l ∷ []) ++ more)) → IsWhatIsDue ts r.number kind place
    is_due more h fault at is =
        let found = late_of h fault at is in
        due more (ends_cleanly h.after ts.ending) (record { kind = fault; place = at }) (w.read.topic_is ∙ found.0)
        (subst (λ (b : List Lexeme). IsLate (states_known r.known) b (ends_cleanly h.after ts.ending) fault at)
        (append_assoc w.body (l ∷ []) more) found.1)

    refused_so : (more : List Lexeme) (h : Here ts r.number r.known w.t ((w.body ++ l ∷ []) ++ more)) → Refused ts r.number place kind
        → Refuses ts (model_faults.Item kind r.number place)
    refused_so more h refused = record {
      refusal = record {
        first_wrong = first_here h (stuck seen r w l none more);
        lies = refused.lies;
        reason = refused.reason;
        decided = λ fault at x. absurd (free_here h w.read.may_stand fault at x);
      };
      placed = record { stands = in_body refused.stops; late = is_due more h };
    }

    of_one : (more : List Lexeme) → Here ts r.number r.known w.t ((w.body ++ l ∷ []) ++ more) → (topic_of_reader w.item ≡ Start → ⊥)
        → IsTokenReason (topic_of_reader w.item) (sign_in w.item) w.body l kind place
        → Refuses ts (model_faults.Item kind r.number place)
    of_one more h other m =
        refused_so more h
        (refused_here place (sign_in w.item) _ more l h (tokens_rise text ts tokens)
        (seen_sign _ _ _ other w.read.seen)
        (w.read.possible (nothing_pending _ other)) (without_form seen r w l none formless) kind
        (here_unfit r.known w.t _ _ (λ s. other (cc)) w.read.wants l kind
        (rw (← w.read.topic_is) unfit))
        (rw (← w.read.topic_is) m))

    of_start : (more : List Lexeme) (h : Here ts r.number r.known w.t ((w.body ++ l ∷ []) ++ more)) → w.t ≡ Start
        → IsStartReason (w.body ++ l ∷ []) kind place
        → StopsStart (pending_in w.item) (states_known r.known) w.body (expected r.known w.t w.body) l kind place
        → Refuses ts (model_faults.Item kind r.number place)
    of_start more h start m (first_number late) =
        start_refused _ _ more kind tokens h w.read.may_stand
        (first_here h (stuck seen r w l none more)) start m
        (rw ((append_assoc w.body (l ∷ []) more)) (late more _))
        (is_due more h)
    of_start more h start m (token sign unheld ends misfits why) =
        refused_so more h
        (refused_here _ sign _ more l h (tokens_rise text ts tokens) ends (w.read.possible unheld)
        (without_form seen r w l none formless) kind misfits
        (rw start (grind arith)))

    at : IsItemReason w.item w.body l kind place → (more : List Lexeme) → Here ts r.number r.known w.t ((w.body ++ l ∷ []) ++ more)
        → Refuses ts (model_faults.Item kind r.number place)
    at (steps_of.of_token other m) more h = of_one more h other m
    at (steps_of.of_start start m) more h =
        of_start more h (sym w.read.topic_is ∙ start) m (subst
        (λ x. StopsStart (pending_in w.item) (states_known r.known) w.body x l kind place)
        (wants_here r.known w.t w.body w.item w.read.wants)
        (subst (λ u. IfStart u (StopsStart (pending_in w.item) (states_known r.known) w.body (item_wants r.known w.item []) l kind place))
        start stops))

-- ---- an item that cannot end

-- the item that ends here, and where
record EndsHere (ts : TextTokens) (n place : ℕ) (k : ModelSoFar) (t : Topic) (body : List Lexeme) : Type 0 where
  here_is : Here ts n k t (body ++ [])
  place_is : place ≡ word_place here_is.after ts.end 0
  clean : here_is.after ≡ [] → ts.ending ≡ None

ends_here : (ts : TextTokens) (n place : ℕ) (seen body : List Lexeme) (k : ModelSoFar) (t : Topic) (w : IsWithinItem seen k t body)
    → n ≡ length w.items.items + 1
    → EndsItem ts seen place → EndsHere ts n place k t body
ends_here ts n place seen body k t w number (texts.at_word next further e begins p) =
    let d = has_division _ in
    let item : Item = record { word = next; body = d.0 } in
    record {
      here_is = here ts n seen body _ [] k t _ w e number (next_division [] further d.0 next [] d.1 begins empty_division d.2);
      place_is = p;
      clean = λ none. absurd (cons≢nil none);
    }
ends_here ts n place seen body k t w number (texts.at_end e clean p) =
    record {
      here_is = here ts n seen body [] [] k t [] w (e ∙ sym (append-nil seen)) number empty_division;
      place_is = p;
      clean = λ none. clean;
    }

-- what is due of its first number there
due_at_end : (ts : TextTokens) (n place : ℕ) (k : ModelSoFar) (t : Topic) (body : List Lexeme) (fault : ItemFault) (at : ℕ)
    (x : EndsHere ts n place k t body) → IsLateIn ts n fault at
    → (t ≡ Start) × IsLate (states_known k) body true fault at
due_at_end ts n place k t body fault at x w =
    let found = late_of x.here_is _ at w in (
      found.0,
      subst (λ b. IsLate (states_known k) body b fault at) (grind (arith, none≢some))
          (subst (λ (b : List Lexeme). IsLate (states_known k) b (ends_cleanly x.here_is.after ts.ending) fault at) (append-nil body)
          found.1),
    )

pub end_refused : (seen : List Lexeme) (r : TextReader) (kind : ItemFault) (place : ℕ) (w : IsItemRead seen r)
    → CannotEnd (ItemGoes r.known) w.item
    → IsEndReason (topic_of_reader w.item) kind → kind ≡ unexpected_token (item_wants r.known w.item []) None → pending_in w.item ≡ None
    → ((late : Refusal) → topic_of_reader w.item ≡ Start → IsLate (states_known r.known) w.body true late.kind late.place → ⊥)
    → IsRefusedAt seen place (model_faults.Item kind r.number place)
end_refused seen r kind place w none reason kinds unheld undue text ts tokens ends =
    let x = ends_here ts _ _ seen _ _ w.t w.within w.number_is ends in
    record {
      refusal = record {
        first_wrong = first_here x.here_is (λ after taken. none _ (w.read.on [] after (right_shaped _ w.t _ _ taken)));
        lies = lies_here x.here_is _ _ [] (tokens_rise text ts tokens) refl x.place_is;
        reason = grind (arith, so_here);
        decided = λ fault at y. absurd (free_here x.here_is w.read.may_stand _ at y);
      };
      placed = record {
        stands = in_body (stops_here x.here_is kind _ _ [] refl (w.read.possible unheld) stops x.place_is (λ nothing. x.clean));
        late = λ fault at y.
            let found = due_at_end ts _ _ _ w.t _ _ at x y in
            absurd (undue _ (cc) found.1);
      };
    }
  where
    stops : Stops r.known w.t kind w.body []
    stops =
        refusals.at_end (λ after right. none _ (w.read.on [] after
        (right_shaped _ w.t _ _ (rw (append-nil w.body) right))))
        (λ much. let s = too_much_shaped _ w.t _ (subst (PassesCellLimit _ w.t) (sym (append-nil _)) much) in
        none s.0 (w.read.on [] s.0 s.1))
        (kinds ∙ ap (λ v. unexpected_token v None) (wants_here r.known w.t _ _ w.read.wants))

-- a start item that cannot end, for the number before its end
pub end_refused_before : (seen : List Lexeme) (r : TextReader) (kind : ItemFault) (at place : ℕ) (w : IsItemRead seen r)
    → CannotEnd (ItemGoes r.known) w.item
    → topic_of_reader w.item ≡ Start → IsStartReason w.body kind at → IsLate (states_known r.known) w.body true kind at
    → ((late : Refusal) → topic_of_reader w.item ≡ Start → IsLate (states_known r.known) w.body true late.kind late.place
    → (kind ≡ late.kind)
    × (at ≡ late.place))
    → IsRefusedAt seen place (model_faults.Item kind r.number at)
end_refused_before seen r kind at place w none start reason late due text ts tokens ends =
    let x = ends_here ts r.number _ seen _ r.known w.t w.within w.number_is ends in
    let here_late =
    subst (λ b. IsLate (states_known r.known) (w.body ++ []) b kind at) (sym (grind (arith, none≢some)))
    (subst (λ (b : List Lexeme). IsLate (states_known r.known) b true kind at) (sym (append-nil w.body)) late) in
    start_refused at w.body [] kind tokens x.here_is w.read.may_stand
    (first_here x.here_is (λ after taken. none _ (w.read.on [] after (right_shaped _ w.t _ after taken))))
    (cc) reason here_late
    (λ fault p y.
    let found = due_at_end ts _ place _ w.t _ fault p x y in
    due _ (cc) found.1)

-- ---- an entry that gives too much

pub too_much_refused : (seen : List Lexeme) (r : TextReader) (place : ℕ) (w : IsItemRead seen r) → PassesCellLimit r.known w.t w.body
    → IsRefusedAt seen place (model_faults.Item TooManyCells r.number place)
too_much_refused seen r place w much text ts tokens ends =
    let x = ends_here ts _ _ seen _ _ w.t w.within w.number_is ends in
    let here_much = subst (PassesCellLimit _ w.t) (sym (append-nil _)) much in
    let passes : PassesLimit ts _ place = record {
      before = _;
      item = _;
      after = _;
      divided = x.here_is.divided;
      number_is = x.here_is.number_is;
      k = _;
      t = w.t;
      known = x.here_is.taken;
      topic_is = x.here_is.topic_is;
      too_much = here_much;
      place_is = x.place_is;
      clean = x.clean;
    } in
    record {
      refusal = record {
        first_wrong = first_here x.here_is (too_much_wrong _ w.t _ here_much);
        lies = lies_here x.here_is _ _ [] (tokens_rise text ts tokens) refl x.place_is;
        reason = inr passes;
        decided = λ fault at y. absurd (free_here x.here_is w.read.may_stand _ at y);
      };
      placed = record {
        stands = after_body refl passes;
        late = λ fault at y.
            let found = due_at_end ts _ _ _ w.t _ _ at x y in
            (absurd (cc));
      };
    }

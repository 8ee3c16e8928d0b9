-- A text is refused as a model for one reason.
use Rattle.std.proofs.Common.{◌≡◌, ◌∙◌, ℕ, ◌+◌, Some, List, [], ◌∷◌, ◌++◌, length, refl, sym, ap, subst, arith}
use Rattle.std.proofs.Math.Path.{subst₂}
use Rattle.polcert_format.proofs.Common.{Lexeme, TokenFault, Table, Topic, Meaning, meaning_of, Preamble, IsFirstWrongRow, topic, ItemFault}
use Rattle.polcert_format.proofs.Common.{Number, ProbabilityRange, DiscountRange, ModelFault, TextTokens, AreTokensOf, word_place}
use Rattle.polcert_format.proofs.Common.{IsPossible, Item, IsDivided, IsOfValue, IsReason, Stops, StopsInBody, IsOfTokens, EndsPossible}
use Rattle.polcert_format.proofs.Common.{at_once, in_item, StandsRight, before_body, in_body, after_body, of_first_number, of_tokens}
use Rattle.polcert_format.proofs.Common.{place_or, ModelSoFar, nothing_known, AreRight, IsRightText}
use Rattle.polcert_cells.proofs.Basics.{one_some, some≢none}
use Rattle.polcert_format.specs.declared.fault.ModelFault.TheVariants as model_faults
use Rattle.polcert_format.specs.Reasons.{InItem}
use Rattle.polcert_format.specs.Refusals.{IsItemRefusal, IsItemPlaced}
use Rattle.polcert_format.specs.RefusedTexts.{IsRefusedModelText}
use Rattle.polcert_format.proofs.CellLimits.{only_limit}
use Rattle.polcert_format.proofs.Climbing.{tokens_climb, body_climbs}
use Rattle.polcert_format.proofs.DecidedLaws.{SameCut, same_cut, same_length}
use Rattle.polcert_format.proofs.ItemLaws.{one_division}
use Rattle.polcert_format.proofs.OneStop.{one_stop, no_stop}
use Rattle.polcert_format.proofs.OneValue.{ValueReason, no_value, no_probability, no_discount}
use Rattle.polcert_format.proofs.ReadLaws.{one_number, not_taken, item_or_empty}
use Rattle.polcert_format.proofs.SomeTokens.{has_tokens}
use Rattle.polcert_format.proofs.TextLaws.{one_known, one_right_text}

-- ---- one item

-- the items of one number are one, after the same items
one_item : (ts : TextTokens) (n : ℕ) (xs ys us vs : List Item) (x y : Item) → IsDivided ts.lexemes [] (xs ++ x ∷ us)
    → IsDivided ts.lexemes [] (ys ++ y ∷ vs)
    → n ≡ length xs + 1 → n ≡ length ys + 1 → SameCut xs ys us vs x y
one_item ts n xs ys us vs x y a b p q = same_cut xs ys us vs x y (one_division ts.lexemes [] [] (xs ++ x ∷ us) (ys ++ y ∷ vs) a b).1
    (same_length n xs ys p q)

-- what is so in the item of this number is so of it
here : (ts : TextTokens) (n : ℕ) (Is : Topic → List Lexeme → Type 0) (xs us : List Item) (x : Item) (t : Topic)
    → IsDivided ts.lexemes [] (xs ++ x ∷ us) → n ≡ length xs + 1 → topic x.word ≡ Some t
    → InItem ts n Is → Is t x.body
here ts n Is xs us x t divided number topics i =
    let same = one_item ts n i.before xs i.after us i.item x i.divided divided i.number_is number in
    let kinds : i.t ≡ t = one_some (subst (λ (y : Item). topic y.word ≡ Some i.t) same.here i.topic_is) topics in
    subst₂ (λ u (y : Item). Is u y.body) kinds same.here i.holds

value_here : (ts : TextTokens) (n p : ℕ) (kind : ItemFault) (xs us : List Item) (x : Item) (t : Topic)
    → IsDivided ts.lexemes [] (xs ++ x ∷ us) → n ≡ length xs + 1 → topic x.word ≡ Some t
    → IsReason ts n p kind → IsOfValue kind → ValueReason t x.body p kind
value_here ts n p (Number reason) xs us x t divided number topics i of =
    no_value reason refl (here ts n _ xs us x t divided number topics i)
value_here ts n p ProbabilityRange xs us x t divided number topics i of = let h = here ts n _ xs us x t divided number topics i in
    no_probability refl h.0 h.1
value_here ts n p DiscountRange xs us x t divided number topics i of = let h = here ts n _ xs us x t divided number topics i in
    no_discount refl h.0 h.1
value_here ts n p _ xs us x t divided number topics i of = absurd of

-- a refusal in a body says where it stands and why
one_in_body : (text : List ℕ) (ts : TextTokens) (f g : ItemFault) (n p q : ℕ) → AreTokensOf text ts → StopsInBody ts f n p
    → StopsInBody ts g n q → IsReason ts n p f → IsReason ts n q g → (f ≡ g) × (p ≡ q)
one_in_body text ts f g n p q tokens x y why reason =
    let cut = one_item ts n y.before x.before y.after x.after y.item x.item y.divided x.divided y.number_is x.number_is in
    let knowns : y.k ≡ x.k = one_known nothing_known x.before y.k x.k (subst (λ items. AreRight nothing_known items y.k) cut.front y.known)
    x.known in
    let kinds : y.t ≡ x.t = one_some (subst (λ (i : Item). topic i.word ≡ Some y.t) cut.here y.topic_is) x.topic_is in
    let end = word_place x.after ts.end 0 in
    let place : q ≡ place_or y.rest end = y.place_is ∙ ap (λ items. place_or y.rest (word_place items ts.end 0)) cut.following in
    let climbs = body_climbs ts x.before x.item x.after (tokens_climb text ts tokens) x.divided in
    let same = one_stop x.k x.t x.item.body climbs.0 end climbs.1 f g x.taken y.taken x.rest y.rest
    x.whole (sym (ap (λ (i : Item). i.body) cut.here) ∙ y.whole) x.possible (subst₂ (λ k t. IsPossible k t y.taken) knowns kinds y.possible)
    x.stops (subst₂ (λ k t. Stops k t g y.taken y.rest) knowns kinds y.stops)
    (λ of. subst (λ m. ValueReason x.t x.item.body m f) x.place_is
    (value_here ts n p f x.before x.after x.item x.t x.divided x.number_is x.topic_is why of))
    (λ of. subst (λ m. ValueReason x.t x.item.body m g) place
    (value_here ts n q g x.before x.after x.item x.t x.divided x.number_is x.topic_is reason of)) in
    (same.0, x.place_is ∙ same.1 ∙ sym place)

-- ---- faults of the tokens

ends_in : (ts : TextTokens) (n p : ℕ) (kind : ItemFault) → IsOfTokens kind → IsReason ts n p kind → (fault : TokenFault)
    × (ts.ending ≡ Some fault)
ends_in ts n p kind h1 h2 = grind arith

-- where a body stops, the tokens don't end after what is possible
body_or_tokens : (text : List ℕ) (ts : TextTokens) (f g : ItemFault) (n p q : ℕ) → AreTokensOf text ts → StopsInBody ts f n p → IsOfTokens g
    → EndsPossible ts n → IsReason ts n q g → ⊥
body_or_tokens text ts f g n p q tokens x of (at_once none) reason = item_or_empty ts.lexemes x.before x.item x.after x.divided none
body_or_tokens text ts f g n p q tokens x of (in_item y) reason =
    let cut = one_item ts n y.before x.before [] x.after y.item x.item y.divided x.divided y.number_is x.number_is in
    let knowns : y.k ≡ x.k = one_known nothing_known x.before y.k x.k (subst (λ items. AreRight nothing_known items y.k) cut.front y.known)
    x.known in
    let kinds : y.t ≡ x.t = one_some (subst (λ (i : Item). topic i.word ≡ Some y.t) cut.here y.topic_is) x.topic_is in
    let possible : IsPossible x.k x.t x.item.body = subst₂ (λ k t. IsPossible k t x.item.body) knowns kinds
    (subst (λ (i : Item). IsPossible y.k y.t i.body) cut.here y.possible) in
    let climbs = body_climbs ts x.before x.item x.after (tokens_climb text ts tokens) x.divided in
    let rest = no_stop x.k x.t x.item.body climbs.0 0 climbs.1 f x.taken x.rest x.whole x.possible x.stops possible in
    some≢none (ends_in ts n q g of reason).1 (x.clean rest (sym cut.following))

one_of_tokens : (ts : TextTokens) (f g : ItemFault) (n p q : ℕ) → IsOfTokens f → IsOfTokens g → IsReason ts n p f → IsReason ts n q g
    → (f ≡ g) × (p ≡ q)
one_of_tokens ts f g n p q h1 h2 h3 h4 = grind arith

-- ---- one refusal of an item

turned : {f g : ItemFault} {p q : ℕ} → (g ≡ f) × (q ≡ p) → (f ≡ g) × (p ≡ q)
turned e = (sym e.0, sym e.1)

module _ (text : List ℕ) (ts : TextTokens) (tokens : AreTokensOf text ts) (n : ℕ) where
  one_place : (f g : ItemFault) (p q : ℕ) → IsItemRefusal ts f n p → IsItemPlaced ts f n p → IsItemRefusal ts g n q → IsItemPlaced ts g n q
      → StandsRight ts f n p → StandsRight ts g n q → (f ≡ g) × (p ≡ q)
  one_place f g p q x xs y ys (before_body d) other = turned (y.decided f p d)
  one_place f g p q x xs y ys (of_first_number late) other = turned (ys.late f p late)
  one_place f g p q x xs y ys (after_body e passes) other = let same = only_limit ts g n p q passes y.reason other in
      (e ∙ sym same.0, sym same.1)
  one_place f g p q x xs y ys (in_body s) (before_body d) = x.decided g q d
  one_place f g p q x xs y ys (in_body s) (of_first_number late) = xs.late g q late
  one_place f g p q x xs y ys (in_body s) (after_body e passes) = let same = only_limit ts f n q p passes x.reason (in_body s) in
      (same.0 ∙ sym e, same.1)
  one_place f g p q x xs y ys (in_body s) (in_body r) = one_in_body text ts f g n p q tokens s r x.reason y.reason
  one_place f g p q x xs y ys (in_body s) (of_tokens of ends) = absurd (body_or_tokens text ts f g n p q tokens s of ends y.reason)
  one_place f g p q x xs y ys (of_tokens of ends) (before_body d) = x.decided g q d
  one_place f g p q x xs y ys (of_tokens of ends) (of_first_number late) = xs.late g q late
  one_place f g p q x xs y ys (of_tokens of ends) (after_body e passes) = let same =
      only_limit ts f n q p passes x.reason (of_tokens of ends) in (same.0 ∙ sym e, same.1)
  one_place f g p q x xs y ys (of_tokens of ends) (in_body r) = absurd (body_or_tokens text ts g f n q p tokens r of ends x.reason)
  one_place f g p q x xs y ys (of_tokens of ends) (of_tokens also stops) = one_of_tokens ts f g n p q of also x.reason y.reason

-- an item's refusal is one kind, in one item, at one place
one_item_refusal : (text : List ℕ) (ts : TextTokens) (f g : ItemFault) (m n p q : ℕ) → AreTokensOf text ts → IsItemRefusal ts f m p
    → IsItemPlaced ts f m p → IsItemRefusal ts g n q → IsItemPlaced ts g n q
    → (f ≡ g) × (m ≡ n) × (p ≡ q)
one_item_refusal text ts f g m n p q tokens x xs y ys =
    let numbers : m ≡ n = one_number ts m n x.first_wrong y.first_wrong in
    let placed : IsItemPlaced ts f n p = subst (λ i. IsItemPlaced ts f i p) numbers xs in
    let same = one_place text ts tokens n f g p q (subst (λ i. IsItemRefusal ts f i p) numbers x) placed y ys placed.stands ys.stands in
    (same.0, numbers, same.1)

-- ---- one row

-- the first row that is wrong
one_row : (m : Meaning) (table other : Table) (a s b r : ℕ) → IsFirstWrongRow m table a s → IsFirstWrongRow m other b r → (table ≡ other)
    × (a ≡ b) × (s ≡ r)
one_row m table other a s b r h1 h2 = grind arith

one_row_of_text : (ts : TextTokens) (table other : Table) (a s b r : ℕ) (p q : Preamble) (k l : ModelSoFar) → IsRightText ts.lexemes p k
    → IsFirstWrongRow (meaning_of p k.start k.entries) table a s
    → IsRightText ts.lexemes q l → IsFirstWrongRow (meaning_of q l.start l.entries) other b r → (table ≡ other) × (a ≡ b) × (s ≡ r)
one_row_of_text ts table other a s b r p q k l right x also y =
    let same = one_right_text ts.lexemes p q k l right also in
    let meanings : meaning_of p k.start k.entries ≡ meaning_of q l.start l.entries =
    λ i. meaning_of (same.0 i) ((same.1 i).start) ((same.1 i).entries) in
    one_row (meaning_of q l.start l.entries) table other a s b r (subst (λ m. IsFirstWrongRow m table a s) meanings x) y

-- ---- one refusal of a text

-- a refused text has one refusal
pub one_refusal : (text : List ℕ) (f g : ModelFault) → (f ≡ model_faults.Memory → ⊥) → (g ≡ model_faults.Memory → ⊥)
    → IsRefusedModelText f text → IsRefusedModelText g text → f ≡ g
one_refusal text (model_faults.Item f m p) (model_faults.Item g n q) f_says g_says x y =
    let some = has_tokens text in
    let same = one_item_refusal text some.0 f g m n p q some.1 (x.refusal some.0 some.1) (x.placed some.0 some.1) (y.refusal some.0 some.1)
    (y.placed some.0 some.1) in
    λ i. model_faults.Item (same.0 i) (same.1 i) (same.2 i)
one_refusal text (model_faults.Item f m p) (model_faults.RowSum other b r) f_says g_says x y =
    let some = has_tokens text in
    let row = y.refusal some.0 some.1 in
    absurd (not_taken some.0 m row.1.0 row.1.1 (x.refusal some.0 some.1).first_wrong row.0 row.1.2)
one_refusal text (model_faults.RowSum table a s) (model_faults.Item g n q) f_says g_says x y =
    let some = has_tokens text in
    let row = x.refusal some.0 some.1 in
    absurd (not_taken some.0 n row.1.0 row.1.1 (y.refusal some.0 some.1).first_wrong row.0 row.1.2)
one_refusal text (model_faults.RowSum table a s) (model_faults.RowSum other b r) f_says g_says x y =
    let some = has_tokens text in
    let row = x.refusal some.0 some.1 in
    let also = y.refusal some.0 some.1 in
    let same = one_row_of_text some.0 table other a s b r row.1.0 also.1.0 row.1.1 also.1.1 row.1.2 row.1.3 also.1.2 also.1.3 in
    λ i. model_faults.RowSum (same.0 i) (same.1 i) (same.2 i)
one_refusal text model_faults.Memory g f_says g_says x y = absurd (f_says refl)
one_refusal text f model_faults.Memory f_says g_says x y = absurd (g_says refl)

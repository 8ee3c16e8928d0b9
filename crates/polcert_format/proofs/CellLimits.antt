-- Limits of cells: an entry that passes them isn't right, though it has the form of one, and it is refused at one place. Small
-- models are within them.
use Rattle.std.proofs.Common.{◌≡◌, ◌∙◌, ℕ, ◌≤◌, None, List, [], ◌∷◌, ◌++◌, length, sym, ap, subst, arith, Some, ◌+◌, rules}
use Rattle.std.proofs.lemmas.List.{append_assoc, append-nil}
use Rattle.std.proofs.Math.Nat.{mul-le-mul}
use Rattle.polcert_format.proofs.Common.{Lexeme, Entry, Table, Transition, Observation, Reward, Topic, Start, Cells, count_of, IsEntry}
use Rattle.polcert_format.proofs.Common.{Preamble, observed, ItemFault, TextTokens, IsDecided, word_place, HasForm, IsPossible, Item}
use Rattle.polcert_format.proofs.Common.{IsDivided, word_fault, IsWrong, IsReason, Stops, at_lexeme, at_number, at_end}
use Rattle.polcert_format.proofs.Common.{IsOfTokens, EndsPossible, at_once, in_item, StandsRight, before_body, in_body}
use Rattle.polcert_format.proofs.Common.{after_body, of_first_number, of_tokens, TooManyCells, topic, ModelSoFar, nothing_known, AreRight}
use Rattle.polcert_cells.proofs.EntryLaws.{one_entry}
use Rattle.polcert_format.specs.Forms.{PassesCellLimit}
use Rattle.polcert_format.specs.Forms as shapes
use Rattle.polcert_format.specs.Limits.{IsLarge, HasFewPairs, HasFewCells}
use Rattle.polcert_format.specs.Printable.{IsPrintable}
use Rattle.polcert_format.specs.Reasons.{PassesLimit}
use Rattle.polcert_format.specs.declared.fault.ItemFault.TheVariants.{Token, TextTooLong}
use Rattle.polcert_cells.proofs.Basics.{some≢none}
use Rattle.polcert_format.proofs.ReadLaws.{no_empty}
use Rattle.polcert_format.proofs.Dividing.{empty_division}
use Rattle.polcert_format.specs.Text as texts
use Rattle.polcert_format.proofs.DecidedLaws.{same_cut, same_length, nothing_decided}
use Rattle.polcert_format.proofs.ItemLaws.{one_division}
use Rattle.polcert_format.proofs.OrderLaws.{cells_stand}
use Rattle.polcert_format.proofs.TextLaws.{one_preamble, one_known}

same_table : {s t : Table} → Cells s ≡ Cells t → s ≡ t
same_table e = cc

no_cells : {A : Type 0} {t : Topic} {table : Table} → t ≡ Cells table → (t ≡ Cells table → ⊥) → A
no_cells e other = absurd (other e)

pub too_much_wrong : (k : ModelSoFar) (t : Topic) (body : List Lexeme) → PassesCellLimit k t body → IsWrong k t body
too_much_wrong k t body m after (texts.entry {p = p} {table = table} {e = e} c g a few) =
    let preambles : p ≡ m.p = one_preamble k p m.p c m.complete in
    let tables : table ≡ m.table = same_table m.topic_is in
    let here : IsEntry m.p m.table body e = subst (λ u. IsEntry m.p u body e) tables (subst (λ q. IsEntry q table body e) preambles a) in
    let entries : e ≡ m.e = one_entry m.p m.table body e m.e here m.entry in
    m.too_many (subst (λ x. HasFewCells m.p (k.entries ++ x ∷ [])) entries (subst (λ q. HasFewCells q (k.entries ++ e ∷ [])) preambles few))
too_much_wrong k t body m after _ = no_cells m.topic_is (λ s. cc)

pub too_much_possible : (k : ModelSoFar) (t : Topic) (body : List Lexeme) → PassesCellLimit k t body → IsPossible k t body
too_much_possible k t body m = record {
  more = [];
  form = subst (HasForm k t) (sym (append-nil body)) (shapes.entry m.topic_is m.complete m.may_be_given m.entry);
}

may_stand : (k : ModelSoFar) (t : Topic) (body : List Lexeme) → PassesCellLimit k t body → word_fault k t ≡ None
may_stand k t body m = ap (word_fault k) m.topic_is ∙ cells_stand k m.p m.table m.complete m.may_be_given

pub one_limit_passed : (ts : TextTokens) (n p q : ℕ) → PassesLimit ts n p → PassesLimit ts n q → p ≡ q
one_limit_passed ts n p q a b =
    let cut = same_cut _ _ _ _ _ _
    (one_division _ [] [] (a.before ++ a.item ∷ a.after) _ a.divided b.divided).1
    (grind arith) in
    a.place_is ∙ ap (λ items. word_place items ts.end 0) cut.following ∙ sym b.place_is

pub limit_undecided : (ts : TextTokens) (n p q : ℕ) (g : ItemFault) → PassesLimit ts n p → IsDecided ts n g q → ⊥
limit_undecided ts n p q g a d =
    nothing_decided ts _ _ _ a.k a.t g q a.divided a.known a.topic_is (may_stand a.k a.t _ a.too_much)
    (subst (λ m. IsDecided ts m g q) a.number_is d)

-- ---- no other refusal of such an entry

-- the same item, after the same items
record IsSameItem (a b : Item) (xs ys us vs : List Item) (j k : ModelSoFar) : Type 0 where
  item : a ≡ b
  after : us ≡ vs
  known : j ≡ k

same_here : (ts : TextTokens) (n p : ℕ) (a : PassesLimit ts n p) (before : List Item) (item : Item) (after : List Item) (k : ModelSoFar)
    → IsDivided ts.lexemes [] (before ++ item ∷ after)
    → AreRight nothing_known before k → n ≡ length before + 1 → IsSameItem a.item item a.before before a.after after a.k k
same_here ts n p a before item after k divided known number =
    let cut = same_cut _ _ _ _ _ item
    (one_division _ [] [] (a.before ++ a.item ∷ a.after) _ a.divided divided).1
    (same_length n _ _ a.number_is number) in
    record {
      item = cut.here;
      after = cut.following;
      known = one_known _ _ a.k k (grind arith) known;
    }

-- it gives too much there too
too_much_here : (ts : TextTokens) (n p : ℕ) (a : PassesLimit ts n p) (before : List Item) (item : Item) (after : List Item) (k : ModelSoFar)
    (t : Topic)
    → IsSameItem a.item item a.before before a.after after a.k k → topic item.word ≡ Some t → PassesCellLimit k t item.body
too_much_here ts n p a before item after k t same topics = grind arith

has_form : (k : ModelSoFar) (t : Topic) (body : List Lexeme) → PassesCellLimit k t body → HasForm k t body
has_form k t body m = shapes.entry m.topic_is m.complete m.may_be_given m.entry

no_stop : (k : ModelSoFar) (t : Topic) (kind : ItemFault) (body taken rest : List Lexeme) → PassesCellLimit k t body → body ≡ taken ++ rest
    → Stops k t kind taken rest → ⊥
no_stop k t kind body taken rest m whole (at_lexeme {l = l} {following = following} formless _) =
    formless following (subst (HasForm k t) (whole ∙ sym (append_assoc taken (l ∷ []) following)) (has_form k t body m))
no_stop k t kind body taken rest m whole (at_number {sign = sign} {l = l} {following = following} is _ _ formless value unfit) =
    formless following (subst (HasForm k t) (whole ∙ sym (append_assoc taken (sign ∷ l ∷ []) following)) (has_form k t body m))
no_stop k t kind body taken rest m whole (at_end wrong other kinds) = other (search rules)

start_or_cells : {table : Table} → Start ≡ Cells table → ⊥
start_or_cells e = cc

-- the tokens end cleanly where it is the last item
clean_end : (ts : TextTokens) (n p : ℕ) → PassesLimit ts n p → EndsPossible ts n → ts.ending ≡ None
clean_end ts n p a (at_once e) =
    absurd (no_empty _ _ _ (one_division [] [] [] (a.before ++ a.item ∷ a.after) []
    (subst (λ ls. IsDivided ls [] (a.before ++ a.item ∷ a.after)) e a.divided) empty_division).1)
clean_end ts n p a (in_item w) = a.clean (same_here ts n p a w.before w.item [] w.k w.divided w.known w.number_is).after

not_of_tokens : (ts : TextTokens) (kind : ItemFault) (n p q : ℕ) → PassesLimit ts n p → IsOfTokens kind → EndsPossible ts n
    → IsReason ts n q kind → ⊥
not_of_tokens ts (Token f) n p q a of ends reason = some≢none reason.0 (clean_end ts n p a ends)
not_of_tokens ts TextTooLong n p q a of ends reason = some≢none reason (clean_end ts n p a ends)
not_of_tokens ts _ n p q a of ends reason = absurd of

pub only_limit : (ts : TextTokens) (kind : ItemFault) (n p q : ℕ) → PassesLimit ts n p → IsReason ts n q kind → StandsRight ts kind n q
    → (kind ≡ TooManyCells) × (q ≡ p)
only_limit ts kind n p q a reason (before_body d) = absurd (limit_undecided ts n p q kind a d)
only_limit ts kind n p q a reason (in_body s) = absurd
    (let same = same_here ts n p a s.before s.item s.after s.k s.divided s.known s.number_is in
    no_stop s.k s.t kind s.item.body s.taken s.rest (too_much_here ts n p a s.before s.item s.after s.k s.t same s.topic_is) s.whole
    s.stops)
only_limit ts kind n p q a reason (after_body k b) = (k, one_limit_passed ts n q p b a)
only_limit ts kind n p q a reason (of_first_number w) =
    absurd (let same = same_here ts n p a w.before w.item w.after w.k w.divided w.known w.number_is in let much =
    too_much_here ts n p a w.before w.item w.after w.k Start same w.topic_is in start_or_cells much.topic_is)
only_limit ts kind n p q a reason (of_tokens of ends) = absurd (not_of_tokens ts kind n p q a of ends reason)

-- ---- small models

pub few_pairs : (p : Preamble) → count_of p.states ≤ 1000 → count_of (observed p) ≤ 1000 → HasFewPairs p
few_pairs p s o = omega (arith, mul-le-mul s o)

pub few_cells : (p : Preamble) (es : List Entry) → ((table : Table) → IsLarge p table → ⊥) → HasFewCells p es
few_cells p es small = record {
  transitions = λ l. absurd (small Transition l);
  observations = λ l. absurd (small Observation l);
  rewards = λ l. absurd (small Reward l);
}

pub printable_cells : (p : Preamble) (es : List Entry) → IsPrintable p → HasFewCells p es
printable_cells p es f = few_cells p es (grind arith)

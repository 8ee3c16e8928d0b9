-- An item's reader, token by token: what it keeps of the body, and why a token is refused.
use Rattle.std.proofs.Common.{◌≡◌, ℕ, ◌⊎◌, Bool, true, false, Some, List, [], ◌∷◌, ◌++◌, Result, Err, OnOk, IfErr, unwrap_or, refl, ap}
use Rattle.std.proofs.Common.{arith}
use Rattle.polcert_items.proofs.Common.{Lexeme, ElementsReader, ItemFault, ItemReader, EndError, StartReader, Start, Elements, Count}
use Rattle.polcert_items.proofs.Common.{count_of, IsMisfit, ExpectsNext, expected_by_start, IfStart, FeedError, Refusal, IsLate}
use Rattle.polcert_items.proofs.Common.{states_known}
use Rattle.polcert_items.proofs.Common.{ModelSoFar, TakesLexeme, CannotTake, CannotEnd, preamble_in, IfRefused, is_sign_kind, ends_in_sign}
use Rattle.polcert_items.proofs.Common.{ElementsReason, AreElementsSeen, StartGoes, StartGives, start_sign, pending_refusal, HasReadStart}
use Rattle.polcert_items.proofs.Common.{IsStartReason, IsStop, IsDue, CanStillBeRight, IsEndDue, IsLateEnd, StopsStart, ItemGoes, ItemForms}
use Rattle.polcert_items.proofs.Common.{IsItemWithin, IsSeen, topic_of_reader, pending_in, IsStartFed, RefusesInStart}
use Rattle.polcert_items.specs.Steps.Wants.{item_wants, IfNotStart}
use Rattle.polcert_items.specs.Steps.Start.{IfNotMemory}
use Rattle.polcert_items.specs.Steps.Items.{IsItemFed, RefusesInItem, IsItemReason, of_start}
use Rattle.polcert_items.specs.declared.item.ItemReader.TheVariants as items
use Rattle.polcert_items.specs.declared.item.FeedError.TheVariants as stops
use Rattle.polcert_items.proofs.FirstNumberLaws as laws
use Rattle.polcert_items.proofs.ElementLaws.{repeated_name}
use Rattle.polcert_items.proofs.StartSeen.{last_sign}
pub use Rattle.polcert_items.proofs.StartSeen.{sign_ends}

-- ---- what is seen of the body

pub elements_seen : {T E : Type 0} (result : Result T E) (body : List Lexeme) (l : Lexeme) (new : ElementsReader)
    → OnOk result (is_sign_kind l.kind ≡ false)
    → OnOk result (AreElementsSeen (body ++ l ∷ []) new)
    → OnOk result ((ends_in_sign (body ++ l ∷ []) ≡ false) × AreElementsSeen (body ++ l ∷ []) new)
elements_seen = grind (arith, last_sign)

-- ---- why a token is refused

module _ (item : ItemReader) (r : ElementsReader) (body : List Lexeme) (l : Lexeme) (kind : ItemFault) (place : ℕ) (count : ℕ)
    (s : IsSeen count body item) (m : ElementsReason r l kind place) where
  pub states_reason : item ≡ items.States r → IsItemReason item body l kind place
  states_reason e = rw e (grind (arith, repeated_name))

  pub actions_reason : item ≡ items.Actions r → IsItemReason item body l kind place
  actions_reason e = rw e (grind (arith, repeated_name))

  pub observations_reason : item ≡ items.Observations r → IsItemReason item body l kind place
  observations_reason e = rw e (grind (arith, repeated_name))

pub start_reason : (item : ItemReader) (r : StartReader) (body : List Lexeme) (l : Lexeme) (kind : ItemFault) (place : ℕ)
    → item ≡ items.Start r → IsStartReason (body ++ l ∷ []) kind place
    → IsItemReason item body l kind place
start_reason item r body l kind place e m = rw e (of_start refl m)

-- ---- a start item, of the states that are known

known_states : (k : ModelSoFar) (states : Elements) → k.states ≡ Some states → (preamble_in k).states ≡ states
known_states k states e = ap (λ o. unwrap_or o (Count 0)) e

module _ (k : ModelSoFar) (states : Elements) (item : ItemReader) (old : StartReader) where
  pub start_fed : (new : StartReader) (l : Lexeme) → k.states ≡ Some states
      → item ≡ items.Start old → IsStartFed states old l new
      → IsItemFed k item l (items.Start new)
  start_fed new l known is fed =
      let f : IsStartFed (preamble_in k).states old l new = grind arith in
      grind arith

  pub start_formless : (l : Lexeme) → k.states ≡ Some states
      → item ≡ items.Start old → CannotTake (StartGoes states) old l
      → IfStart (topic_of_reader item) (CannotTake (ItemForms k) item l)
  start_formless = grind arith

  pub start_stuck : (l : Lexeme) → k.states ≡ Some states
      → item ≡ items.Start old → CannotTake (StartGoes states) old l
      → CannotTake (ItemGoes k) item l
  start_stuck = grind arith

  pub start_seen : (body : List Lexeme) → k.states ≡ Some states
      → item ≡ items.Start old → IsSeen (states_known k) body item
      → HasReadStart (count_of states) body old
  start_seen = grind arith

  -- why it cannot continue
  start_stops : (body : List Lexeme) (l : Lexeme) (r : Refusal)
      → k.states ≡ Some states → item ≡ items.Start old
      → IsSeen (states_known k) body item → ((x : Refusal) → IsDue old l x.kind x.place → r ≡ x)
      → IsStop (IsDue old l) (start_sign old) (expected_by_start (count_of states) old []) l r.kind r.place
      → IfStart (topic_of_reader item) (StopsStart (pending_in item) (states_known k) body (item_wants k item []) l r.kind r.place)
  start_stops body l r known is s late named =
      let go =
      laws.stops_start _ body old _ l r
      (start_seen body known is s)
      late named in
      let here : StopsStart (pending_refusal old) (states_known k) body (item_wants k (items.Start old) []) l r.kind r.place =
      rw (known_states k states known) go in
      rw is here

  -- what is due of its first number is what is answered
  pub start_late : (body more : List Lexeme) (l : Lexeme)
      (ends : Bool) (late : Refusal) (result : Result Unit FeedError)
      → k.states ≡ Some states → item ≡ items.Start old → IsSeen (states_known k) body item
      → IsLate (states_known k) (body ++ l ∷ more) ends late.kind late.place
      → ((r : Refusal) → IsDue old l r.kind r.place → result ≡ Err (stops.Refused r))
      → (CanStillBeRight (count_of states) old l → IfErr result (λ stop. IfRefused stop (λ r. ⊥)))
      → IfErr result (λ stop. IfRefused stop (λ r. (r.kind ≡ late.kind) × (r.place ≡ late.place)))
  start_late body more l ends late result known is s due answered held =
      let here : IsLate (count_of states) (body ++ l ∷ more) ends late.kind late.place =
      rw (← known_states k states known) due in
      of (laws.late_at_lexeme _ body more l ends old _ _ (start_seen body known is s) here)
    where
      of : IsDue old l late.kind late.place ⊎ CanStillBeRight (count_of states) old l
          → IfErr result (λ stop. IfRefused stop (λ r. (r.kind ≡ late.kind) × (r.place ≡ late.place)))
      of h1 = grind arith

same_refusal : (a b : Refusal) → ◌≡◌ {A = Result Unit FeedError} (Err (stops.Refused a)) (Err (stops.Refused b)) → a ≡ b
same_refusal a b e = cc

module _ (k : ModelSoFar) (states : Elements) (item : ItemReader) where
  -- all that is said of its refusal
  pub start_refused : (old : StartReader) (l : Lexeme)
      (result : Result Unit FeedError) → k.states ≡ Some states → item ≡ items.Start old
      → ((r : Refusal) → IsDue old l r.kind r.place → result ≡ Err (stops.Refused r))
      → (CanStillBeRight (count_of states) old l → IfErr result (λ stop. IfRefused stop (λ r. ⊥)))
      → IfErr result (λ stop. IfRefused stop (RefusesInStart states old l)) → IfErr result (λ stop. IfRefused stop (RefusesInItem k item l))
  start_refused old l (Err (stops.Refused x)) known is due held r = record {
    stuck = start_stuck k states item old l known is r.stuck;
    formless = start_formless k states item old l known is r.stuck;
    reason = λ body s. start_reason item old body l x.kind x.place is (r.reason body (start_seen k states item old body known is s));
    kind = rw is tt;
    start = λ body s. start_stops k states item old body l x known is s (λ y d. same_refusal x y (due y d)) r.stops;
    late = λ body more ends late s start late_is. start_late k states item old body more l ends late _ known is s late_is due held;
  }
  start_refused old l c known is due held r = tt

  -- ---- why an item cannot end

  pub start_late_end : (r : StartReader) (body : List Lexeme) (end : EndError)
      (late : Refusal) → k.states ≡ Some states → item ≡ items.Start r
      → IsSeen (states_known k) body item → IsLate (states_known k) body true late.kind late.place → IsEndDue r end → IsLateEnd end late
  start_late_end r body end late known is s l due =
      laws.late_at_end _ body r end late (start_seen k states item r body known is s)
      (rw (← known_states k states known) l) due

  -- it cannot end as it is
  pub start_stuck_end : (r : StartReader) (e : EndError) → k.states ≡ Some states
      → item ≡ items.Start r → IfNotMemory e (CannotEnd (StartGives states) r)
      → IfNotMemory e (CannotEnd (ItemGoes k) item)
  start_stuck_end = grind arith

-- ---- all that is said where a token is taken, and where it is refused

pub all_fed : {T E : Type 0} (r : Result T E) (k : ModelSoFar) (old new : ItemReader) (l : Lexeme) → OnOk r (IsItemWithin k new)
    → OnOk r (TakesLexeme (ItemGoes k) old l new) → OnOk r (IfStart (topic_of_reader old) (TakesLexeme (ItemForms k) old l new))
    → ((body : List Lexeme) → IsSeen (states_known k) body old → OnOk r (IsSeen (states_known k) (body ++ l ∷ []) new))
    → OnOk r (ExpectsNext (item_wants k old) l (item_wants k new)) → OnOk r (IsItemFed k old l new)
all_fed = grind arith

-- a refusal of which this holds
abbrev On : {T : Type 0} → Result T FeedError → (Refusal → Type 0) → Type 0
On r P = IfErr r (λ stop. IfRefused stop P)

pub all_refused : {T : Type 0} (r : Result T FeedError) (k : ModelSoFar) (old : ItemReader) (l : Lexeme)
    → On r (λ x. CannotTake (ItemGoes k) old l) → On r (λ x. IfStart (topic_of_reader old) (CannotTake (ItemForms k) old l))
    → ((body : List Lexeme) → IsSeen (states_known k) body old → On r (λ x. IsItemReason old body l x.kind x.place))
    → On r (λ x. IfNotStart (topic_of_reader old) (IsMisfit (item_wants k old []) l x.kind))
    → ((body : List Lexeme) → IsSeen (states_known k) body old
    → On r (λ x. IfStart (topic_of_reader old) (StopsStart (pending_in old) (states_known k) body (item_wants k old []) l x.kind x.place)))
    → ((body more : List Lexeme) (ends : Bool) (late : Refusal) → IsSeen (states_known k) body old → topic_of_reader old ≡ Start
    → IsLate (states_known k) (body ++ l ∷ more) ends late.kind late.place → On r (λ x. (x.kind ≡ late.kind) × (x.place ≡ late.place)))
    → On r (RefusesInItem k old l)
all_refused (Err (stops.Refused x)) k old l stuck formless reason kind start late =
    record { stuck = stuck; formless = formless; reason = reason; kind = kind; start = start; late = late }
all_refused c k old l stuck formless reason kind start late = tt
